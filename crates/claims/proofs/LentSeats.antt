-- A lend and a return keep the rule.
use Rattle.std.proofs.Common.{◌≡◌, ⊎_elim, ℕ, zero, suc, ◌+◌, ◌-◌, List, [], ◌∷◌, ◌++◌, set, Contains}
use Rattle.std.proofs.Common.{refl, sym, ap, subst, ◌∙◌, arith}
use Rattle.std.specs.List.{flat_map}
use Rattle.std.proofs.lemmas.List.Elements.{Contains-append_left, Contains-append_right, Contains-append_cases}
use Rattle.std.proofs.lemmas.List.Sums.{sum_by_push}
use mathlib.Core.Option.{some}
use lib.ListN.{get_elem?}
use Rattle.atomic_table.specs.Table.{State, Me, Splits, Joins}
use Rattle.claims.specs.declared.view.Claim.{Claim}
use Rattle.claims.specs.declared.view.OwnerView.{OwnerView}
use Rattle.claims.specs.declared.view.SeatView.{SeatView}
use Rattle.claims.specs.declared.view.View.{View}
use Rattle.claims.specs.declared.view.View.TheVariants.{Owning, Lent, Gone}
use Rattle.claims.specs.Claimed.{times, together}
use Rattle.claims.specs.Changes.{lending_view, lent_view, taking_view}
use Rattle.claims.specs.Keeping.{made_in, seen_in, all_made, all_seen, KeptBy, KeepsRule}
use Rattle.claims.proofs.Counts.{times-append, together-push}
use Rattle.claims.proofs.AllViews.{in_all, after_set, split_set, times_set, more_nothing, last_or_before}
use Rattle.claims.proofs.RoundSeats.{one_out, out_set, seats_set, seats_more}
use Rattle.claims.proofs.KeptRule.{none_in, owner_rule, carried}

-- what a seat that is lent has seen was made: the owner had seen it, or a seat made it that was taken back
lent_seen : {S : Type 0} (places : ℕ) (owner : OwnerView) (s : State S View) (k : KeptBy places s owner) (claim : Claim)
    → Contains (owner.seen ++ flat_map seen_in (k.others ++ lent_view (Owning owner) ∷ [])) claim
    → Contains (all_made (Owning owner ∷ k.others)) claim
lent_seen places owner s k claim has =
    let seat : View = lent_view (Owning owner) in
    let of_owner : Contains owner.seen claim → Contains (all_made (Owning owner ∷ k.others)) claim =
    λ h. k.seen claim (Contains-append_left owner.seen (flat_map seen_in k.others) claim h) in
    ⊎_elim of_owner
    (λ h. ⊎_elim (λ t. k.seen claim (Contains-append_right owner.seen (flat_map seen_in k.others) claim t))
    (λ t. ⊎_elim of_owner
    (λ u. Contains-append_left (together owner.made) (flat_map made_in k.others) claim u)
    (Contains-append_cases owner.seen (together owner.made) claim t))
    (last_or_before seen_in k.others seat claim h))
    (Contains-append_cases owner.seen (flat_map seen_in (k.others ++ seat ∷ [])) claim has)

-- a seat is lent
lend_allowed : {S : Type 0} (places : ℕ) (owner : OwnerView)
    → Splits (KeepsRule {S = S} places) 0 (Owning owner) (lending_view (Owning owner)) (lent_view (Owning owner))
lend_allowed {S} places owner s kept at =
    let k = owner_rule places s owner kept at in
    let now : OwnerView = record owner { out = owner.out + 1 } in
    let seat : View = lent_view (Owning owner) in
    let others : List View = k.others ++ seat ∷ [] in
    let made : all_made (Owning now ∷ others) ≡ all_made (Owning owner ∷ k.others) =
    ap (λ (claims : List Claim). together owner.made ++ claims) (more_nothing made_in k.others seat refl) in (
      now,
      carried places s owner k (owner.out + 1) owner.made owner.seen others (set s.views 0 (Owning now) ++ seat ∷ [])
          (ap (λ vs. set vs 0 (Owning now) ++ seat ∷ []) k.views)
          (seats_more owner.round owner.start k.others seat k.seats (refl, refl))
          (omega (arith, k.out, sum_by_push one_out k.others seat))
          (λ place. ap (λ (claims : List Claim). times claims place) made)
          (λ claim. (
            (λ has. subst (λ (claims : List Claim). Contains claims claim) made has),
            (λ has. subst (λ (claims : List Claim). Contains claims claim) (sym made) has),
          ))
          (λ claim has. lent_seen places owner s k claim has),
    )

-- so the owner, which knows itself, may lend
pub lend_may : {S : Type 0} (places id : ℕ) (me : Me S View) (owner : OwnerView) → id ≡ 0 → me ≡ (Owning owner, [])
    → Splits (KeepsRule {S = S} places) id me.0 (lending_view me.0) (lent_view me.0)
lend_may {S} places id me owner is_id is_me = rw (is_id, is_me) (lend_allowed {S = S} places owner)

-- a seat that is taken back
module _ {S : Type 0} (places j : ℕ) (s : State S View) (owner : OwnerView) (v : SeatView) (k : KeptBy places s owner)
    (at : get_elem? k.others j ≡ some (Lent v)) where
  abbrev rest : List View
  rest = set k.others j Gone

  abbrev now : OwnerView
  now = record owner { out = owner.out - 1; made = owner.made ++ v.made ∷ []; seen = owner.seen ++ v.seen }

  -- what the owner has now, by what it had and what the seat had
  made_now : all_made (Owning now ∷ rest) ≡ (together owner.made ++ v.made) ++ flat_map made_in rest
  made_now = ap (λ (claims : List Claim). claims ++ flat_map made_in rest) (together-push owner.made v.made)

  times_now : (place : ℕ)
      → times (all_made (Owning now ∷ rest)) place ≡ times (all_made (Owning owner ∷ k.others)) place
  times_now place =
      let is : times (all_made (Owning now ∷ rest)) place
      ≡ times ((together owner.made ++ v.made) ++ flat_map made_in rest) place =
      ap (λ (claims : List Claim). times claims place) made_now in
      omega (
        arith,
        is,
        times-append place (together owner.made ++ v.made) (flat_map made_in rest),
        times-append place (together owner.made) v.made,
        times-append place (together owner.made) (flat_map made_in k.others),
        times_set made_in k.others j (Lent v) Gone place at,
      )

  -- lists of the owner, of the seat and of the others hold what they held
  pass : (has : View → List Claim) → has Gone ≡ [] → (mine : List Claim) (claim : Claim)
      → Contains ((mine ++ has (Lent v)) ++ flat_map has rest) claim → Contains (mine ++ flat_map has k.others) claim
  pass has nothing mine claim there =
      ⊎_elim
      (λ h. ⊎_elim (λ t. Contains-append_left mine (flat_map has k.others) claim t)
      (λ t. Contains-append_right mine (flat_map has k.others) claim (in_all has k.others j (Lent v) claim at t))
      (Contains-append_cases mine (has (Lent v)) claim h))
      (λ h. Contains-append_right mine (flat_map has k.others) claim
      (⊎_elim (λ t. absurd (none_in claim (subst (λ (claims : List Claim). Contains claims claim) nothing t))) (λ t. t)
      (after_set has k.others j Gone claim h)))
      (Contains-append_cases (mine ++ has (Lent v)) (flat_map has rest) claim there)

  back : (claim : Claim) → Contains (all_made (Owning owner ∷ k.others)) claim
      → Contains ((together owner.made ++ v.made) ++ flat_map made_in rest) claim
  back claim there =
      let left = together owner.made ++ v.made in
      ⊎_elim
      (λ h. Contains-append_left left (flat_map made_in rest) claim
      (Contains-append_left (together owner.made) v.made claim h))
      (λ h. ⊎_elim
      (λ t. Contains-append_left left (flat_map made_in rest) claim
      (Contains-append_right (together owner.made) v.made claim t))
      (λ t. Contains-append_right left (flat_map made_in rest) claim t)
      (split_set made_in k.others j (Lent v) Gone claim at h))
      (Contains-append_cases (together owner.made) (flat_map made_in k.others) claim there)

  pub taken : (views : List View) → views ≡ Owning now ∷ rest
      → KeptBy {S = S} places (record { words = s.words; homes = s.homes; views = views }) now
  taken views are =
      carried places s owner k (owner.out - 1) (owner.made ++ v.made ∷ []) (owner.seen ++ v.seen) rest views are
      (seats_set owner.round owner.start k.others j Gone k.seats tt)
      (omega (arith, k.out, out_set k.others j (Lent v) Gone at)) times_now
      (λ claim. (
        (λ has. pass made_in refl (together owner.made) claim
            (subst (λ (claims : List Claim). Contains claims claim) made_now has)),
        (λ has. subst (λ (claims : List Claim). Contains claims claim) (sym made_now) (back claim has)),
      ))
      (λ claim has. k.seen claim (pass seen_in refl owner.seen claim has))

take_allowed : {S : Type 0} (places other : ℕ) (owner : OwnerView) (v : SeatView)
    → Joins (KeepsRule {S = S} places) 0 (Owning owner) other (Lent v) (taking_view (Owning owner) (Lent v)) Gone
take_allowed places zero owner v s kept at apart here = absurd (apart refl)
take_allowed {S} places (suc j) owner v s kept at apart here =
    let k = owner_rule places s owner kept at in
    let both : View = taking_view (Owning owner) (Lent v) in
    let there : get_elem? k.others j ≡ some (Lent v) =
    ap (λ vs. get_elem? (set vs 0 both) (suc j)) (sym k.views) ∙ here in (
      now places j s owner v k there,
      taken places j s owner v k there (set (set s.views 0 both) (suc j) Gone)
          (ap (λ vs. set (set vs 0 both) (suc j) Gone) k.views),
    )

-- so the owner may take back a seat that it lent
pub take_may : {S : Type 0} (places id other : ℕ) (me them : Me S View) (owner : OwnerView) (v : SeatView) → id ≡ 0
    → me ≡ (Owning owner, []) → them ≡ (Lent v, [])
    → Joins (KeepsRule {S = S} places) id me.0 other them.0 (taking_view me.0 them.0) Gone
take_may {S} places id other me them owner v is_id is_me is_them =
    rw (is_id, is_me, is_them) (take_allowed {S = S} places other owner v)
