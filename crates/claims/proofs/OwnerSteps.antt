-- A round begins and ends.
use Rattle.std.proofs.Common.{◌≡◌, inr, ⊎_elim, ℕ, ◌+◌, ◌≤◌, List, [], ◌∷◌, ◌++◌}
use Rattle.std.proofs.Common.{slice_index, set, Contains, refl, sym, ap, subst, ◌∙◌, arith, append-nil}
use Rattle.std.specs.List.{count_by, flat_map}
use Rattle.std.proofs.lemmas.List.{set-get_or}
use Rattle.std.proofs.lemmas.List.Elements.{Contains-append_left}
use mathlib.Core.Option.{none}
use Rattle.atomic_table.specs.Table.{State, Me, keeps, step, Allows}
use Rattle.atomic_table.proofs.Lists.{set_again}
use Rattle.claims.specs.declared.view.Claim.{Claim}
use Rattle.claims.specs.declared.view.OwnerView.{OwnerView}
use Rattle.claims.specs.declared.view.View.{View}
use Rattle.claims.specs.declared.view.View.TheVariants.{Owning}
use Rattle.claims.specs.Halves.{round_in}
use Rattle.claims.specs.Claimed.{times, AreApart, together}
use Rattle.claims.specs.Changes.{begun}
use Rattle.claims.specs.Keeping.{is_out, made_in, seen_in, all_made, KeptBy, KeepsRule}
use Rattle.claims.specs.Told.{tells_begun, tells_ended}
use Rattle.claims.proofs.RoundSeats.{none_have, of_each_round}
use Rattle.claims.proofs.KeptRule.{none_in, owner_rule}

-- with no seat out
module _ {S : Type 0} (places : ℕ) (s : State S View) (owner : OwnerView) (k : KeptBy places s owner)
    (home : owner.out ≡ 0) where
  -- no other view is of a seat that is out
  none_out : count_by is_out k.others ≡ 0
  none_out = sym k.out ∙ home

  -- so no seat has made a claim
  none_made : flat_map made_in k.others ≡ []
  none_made = none_have owner.round owner.start made_in refl k.others k.seats none_out

  -- nor seen one
  none_seen : flat_map seen_in k.others ≡ []
  none_seen = none_have owner.round owner.start seen_in refl k.others k.seats none_out

  -- no word is of a later round
  not_later : (place : ℕ) → round_in (slice_index s.words place) ≤ owner.round
  not_later place =
      ⊎_elim (λ is. omega (arith, is)) (λ stale. let before = stale.earlier in omega (arith, before)) (k.stale place)

  -- a round begins
  pub new_round : KeptBy {S = S} places
      (record { words = s.words; homes = s.homes; views = set s.views 0 (Owning (begun owner s.words)) })
      (begun owner s.words)
  new_round = record {
    others = k.others;
    views = ap (λ vs. set vs 0 (Owning (begun owner s.words))) k.views;
    long = k.long;
    seats = of_each_round owner.round owner.start (owner.round + 1) s.words k.others k.seats none_out;
    out = k.out;
    once = λ place. subst (λ (claims : List Claim). times claims place ≤ 1) (sym none_made) (omega arith);
    stands = λ claim. (
      (λ has. absurd (none_in claim (subst (λ (claims : List Claim). Contains claims claim) none_made has))),
      (λ stands. let later : round_in (slice_index s.words claim.place) ≡ owner.round + 1 = stands.when in
          absurd (omega (arith, later, not_later claim.place))),
    );
    seen = λ claim has.
        absurd (none_in claim (subst (λ (claims : List Claim). Contains claims claim) none_seen has));
    stale = λ place. inr (record { earlier = omega (arith, not_later place); same = refl });
  }

  -- all that was made is what the owner knows
  made_home : all_made (Owning owner ∷ k.others) ≡ together owner.made
  made_home =
      ap (λ (claims : List Claim). together owner.made ++ claims) none_made ∙ append-nil (together owner.made)

  -- with no seat out, no place stands twice in what the owner took back
  pub once_home : AreApart (together owner.made)
  once_home place = subst (λ (claims : List Claim). times claims place ≤ 1) made_home (k.once place)

  -- and each claim that was seen is in it
  pub seen_home : (claim : Claim) → Contains owner.seen claim → Contains (together owner.made) claim
  seen_home claim has =
      subst (λ (claims : List Claim). Contains claims claim) made_home
      (k.seen claim (Contains-append_left owner.seen (flat_map seen_in k.others) claim has))

-- the rule allows that a round begins
begin_allowed : {S : Type 0} (places slots i : ℕ) (owner : OwnerView) → owner.out ≡ 0
    → Allows (KeepsRule {S = S} places) slots 0 (Owning owner, []) i (λ m. m)
    (tells_begun (step slots i 0 0 none) (Owning owner, []))
begin_allowed {S} places slots i owner home s kept deep at bound =
    let k = owner_rule places s owner kept at in
    let now : OwnerView = begun owner s.words in
    let P : List ℕ → Type 0 =
    λ ws. KeptBy {S = S} places (record { words = ws; homes = s.homes; views = set s.views 0 (Owning now) }) now in (
      Owning now,
      keeps,
      tt,
      (now, subst P (sym (set-get_or s.words i 0)) (new_round places s owner k home)),
      (s.words, refl),
    )

-- and that one ends
end_allowed : {S : Type 0} (places slots i : ℕ) (owner : OwnerView) → owner.out ≡ 0
    → Allows (KeepsRule {S = S} places) slots 0 (Owning owner, []) i (λ m. m)
    (tells_ended (step slots i 0 0 none) (Owning owner, []))
end_allowed {S} places slots i owner home s kept deep at bound =
    let k = owner_rule places s owner kept at in
    let P : List ℕ → Type 0 =
    λ ws. KeptBy {S = S} places (record { words = ws; homes = s.homes; views = set s.views 0 (Owning owner) }) owner in
    let Q : List View → Type 0 =
    λ vs. KeptBy {S = S} places (record { words = s.words; homes = s.homes; views = vs }) owner in (
      Owning owner,
      keeps,
      tt,
      (owner, subst P (sym (set-get_or s.words i 0)) (subst Q (sym (set_again s.views 0 (Owning owner) at)) k)),
      (refl, once_home places s owner k home, seen_home places s owner k home),
    )

-- so the owner, which knows itself, may begin a round and end it
module _ {S : Type 0} (places slots id i : ℕ) (me : Me S View) (owner : OwnerView) (is_id : id ≡ 0)
    (is_me : me ≡ (Owning owner, [])) (home : owner.out ≡ 0) where
  -- the owner may begin a round
  pub begin_may : Allows (KeepsRule {S = S} places) slots id me i (λ m. m) (tells_begun (step slots i 0 0 none) me)
  begin_may = rw (is_id, is_me) (begin_allowed {S = S} places slots i owner home)

  -- and end one
  pub end_may : Allows (KeepsRule {S = S} places) slots id me i (λ m. m) (tells_ended (step slots i 0 0 none) me)
  end_may = rw (is_id, is_me) (end_allowed {S = S} places slots i owner home)
