-- A seat that is lent makes a claim, of a place whose word is of an earlier round.
use Rattle.std.proofs.Common.{◌≡◌, ◌≢◌, ◌⊎◌, inl, ⊎_elim, ℕ, suc, ◌<◌, ◌≤◌, List, [], ◌∷◌, length}
use Rattle.std.proofs.Common.{length-set, slice_index, slice_set, set, Contains, refl, sym, ap, subst, ◌∙◌, arith}
use Rattle.std.proofs.Common.{get_or-set_other, get_or-set_same}
use Rattle.std.proofs.lemmas.List.Elements.{Contains-append_left, Contains-push, Contains-push_cases}
use mathlib.Core.Option.{some}
use mathlib.Core.Logic.{dite}
use native.Mathlib.Decide.{ℕ_discrete}
use lib.ListN.{get_elem?}
use Rattle.atomic_table.specs.Table.{State}
use Rattle.claims.specs.declared.view.Claim.{Claim}
use Rattle.claims.specs.declared.view.OwnerView.{OwnerView}
use Rattle.claims.specs.declared.view.SeatView.{SeatView}
use Rattle.claims.specs.declared.view.View.{View}
use Rattle.claims.specs.declared.view.View.TheVariants.{Owning, Lent}
use Rattle.claims.specs.Halves.{round_in, value_in, IsClaimedFor}
use Rattle.claims.specs.Claimed.{claim_of, times}
use Rattle.claims.specs.Changes.{making}
use Rattle.claims.specs.Keeping.{made_in, all_made, all_seen, IsStale, KeptBy}
use Rattle.claims.proofs.Counts.{one_here, one_else, times-append, times-cons, times_none}
use Rattle.claims.proofs.AllViews.{at_here, in_all, after_set, times_set}
use Rattle.claims.proofs.RoundSeats.{seats_set}
use Rattle.claims.proofs.SeatViews as lent

module _ {S : Type 0} (places j : ℕ) (s : State S View) (owner : OwnerView) (v : SeatView) (k : KeptBy places s owner)
    (at : get_elem? k.others j ≡ some (Lent v)) (place x : ℕ) (inside : place < length s.words)
    (is : round_in x ≡ owner.round) (earlier : round_in (slice_index s.words place) < owner.round) where
  -- all views, before the step and after it
  abbrev before : List View
  before = Owning owner ∷ k.others

  abbrev after : SeatView → List View
  after seat = Owning owner ∷ set k.others j (Lent seat)

  abbrev new : Claim
  new = claim_of place (value_in x)

  abbrev w : SeatView
  w = making v new

  abbrev words : List ℕ
  words = slice_set s.words place x

  -- no claim of the place was made
  none_made : (claim : Claim) → Contains (all_made before) claim → claim.place ≡ place → ⊥
  none_made claim has same =
      let stands : round_in (slice_index s.words claim.place) ≡ owner.round = ((k.stands claim).0 has).when in
      let there : round_in (slice_index s.words claim.place) ≡ round_in (slice_index s.words place) =
      ap (λ (p : ℕ). round_in (slice_index s.words p)) same in
      absurd (omega (arith, stands, there, earlier))

  word_else : (p : ℕ) → p ≢ place → slice_index words p ≡ slice_index s.words p
  word_else p other = get_or-set_other s.words place p x 0 other

  word_here : slice_index words place ≡ x
  word_here = get_or-set_same s.words place x 0 inside

  new_made : Contains (all_made (after w)) new
  new_made =
      in_all made_in (after w) (suc j) (Lent w) new (at_here before (suc j) (Lent v) (Lent w) at)
      (Contains-push v.made new)

  made_still : (claim : Claim) → Contains (all_made before) claim → Contains (all_made (after w)) claim
  made_still = lent.made_kept places j s owner v k at w (λ c h. Contains-append_left v.made (new ∷ []) c h)

  once_still : (p : ℕ) → times (all_made (after w)) p ≤ 1
  once_still p =
      let count = times_set made_in before (suc j) (Lent v) (Lent w) p at in
      let more = times-append p v.made (new ∷ []) in
      let one = times-cons p new [] in
      dite (ℕ_discrete place p)
      (λ same.
      let none = times_none p (all_made before) (λ claim has e. none_made claim has (e ∙ sym same)) in
      omega (arith, count, more, one, none, one_here p new same))
      (λ other. omega (arith, count, more, one, k.once p, one_else p new other))

  -- a claim that was made before stands still
  stood : (claim : Claim) → Contains (all_made before) claim
      → IsClaimedFor owner.round claim.value (slice_index words claim.place)
  stood claim has =
      subst (λ (n : ℕ). IsClaimedFor owner.round claim.value n)
      (sym (word_else claim.place (λ e. none_made claim has e))) ((k.stands claim).0 has)

  new_stands : IsClaimedFor owner.round (value_in x) (slice_index words place)
  new_stands =
      subst (λ (n : ℕ). IsClaimedFor owner.round (value_in x) n) (sym word_here) (record { when = is; what = refl })

  stands_to : (claim : Claim) → Contains (all_made (after w)) claim
      → IsClaimedFor owner.round claim.value (slice_index words claim.place)
  stands_to claim has =
      ⊎_elim
      (λ h. ⊎_elim (λ t. stood claim (in_all made_in before (suc j) (Lent v) claim at t))
      (λ (e : new ≡ claim).
      subst (λ (c : Claim). IsClaimedFor owner.round c.value (slice_index words c.place)) e new_stands)
      (Contains-push_cases v.made new claim h))
      (λ h. stood claim h) (after_set made_in before (suc j) (Lent w) claim has)

  -- a claim of the place whose value stands there is the new one
  is_new : (claim : Claim) → claim.place ≡ place
      → IsClaimedFor owner.round claim.value (slice_index words claim.place) → new ≡ claim
  is_new claim same stands =
      let value : value_in x ≡ claim.value =
      ap value_in (sym word_here) ∙ ap (λ (p : ℕ). value_in (slice_index words p)) (sym same) ∙ stands.what in
      ap (λ (p : ℕ). claim_of p (value_in x)) (sym same) ∙ ap (λ (n : ℕ). claim_of claim.place n) value

  stands_from : (claim : Claim) → IsClaimedFor owner.round claim.value (slice_index words claim.place)
      → Contains (all_made (after w)) claim
  stands_from claim stands = dite (ℕ_discrete claim.place place)
      (λ same. subst (λ (c : Claim). Contains (all_made (after w)) c) (is_new claim same stands) new_made)
      (λ other. made_still claim
      ((k.stands claim).1
      (subst (λ (n : ℕ). IsClaimedFor owner.round claim.value n) (word_else claim.place other) stands)))

  seen_still : (claim : Claim) → Contains (all_seen (after w)) claim → Contains (all_made (after w)) claim
  seen_still claim has =
      ⊎_elim
      (λ h. ⊎_elim (λ t. made_still claim (lent.seen_before places j s owner v k at claim t))
      (λ (e : new ≡ claim). subst (λ (c : Claim). Contains (all_made (after w)) c) e new_made)
      (Contains-push_cases v.seen new claim h))
      (λ h. made_still claim h) (lent.seen_now places j s owner v k at w claim has)

  stale_still : (p : ℕ) → (round_in (slice_index words p) ≡ owner.round)
      ⊎ IsStale owner.round owner.start p (slice_index words p)
  stale_still p = dite (ℕ_discrete p place)
      (λ same. inl (ap (λ (q : ℕ). round_in (slice_index words q)) same ∙ (ap round_in word_here ∙ is)))
      (λ other. subst (λ (n : ℕ). (round_in n ≡ owner.round) ⊎ IsStale owner.round owner.start p n)
      (sym (word_else p other)) (k.stale p))

  pub makes : KeptBy places (lent.put places j s owner v k at words w) owner
  makes = record {
    others = set k.others j (Lent w);
    views = ap (λ vs. set vs (suc j) (Lent w)) k.views;
    long = length-set s.words place x ∙ k.long;
    seats = seats_set owner.round owner.start k.others j (Lent w) k.seats (lent.of_round places j s owner v k at);
    out = lent.outs places j s owner v k at w;
    once = once_still;
    stands = λ claim. (stands_to claim, stands_from claim);
    seen = seen_still;
    stale = stale_still;
  }
