-- The rule, as a step finds it and leaves it.
use Rattle.std.proofs.Common.{◌≡◌, ℕ, suc, ◌↔◌, List, [], ◌∷◌}
use Rattle.std.proofs.Common.{Contains, sym, ap, subst, ◌∙◌, arith}
use Rattle.std.specs.List.{count_by}
use mathlib.Core.Option.{some, some-injective}
use lib.ListN.{get_elem?}
use Rattle.atomic_table.specs.Table.{State}
use Rattle.claims.specs.declared.view.Claim.{Claim}
use Rattle.claims.specs.declared.view.OwnerView.{OwnerView}
use Rattle.claims.specs.declared.view.SeatView.{SeatView}
use Rattle.claims.specs.declared.view.View.{View}
use Rattle.claims.specs.declared.view.View.TheVariants.{Owning, Lent}
use Rattle.claims.specs.Claimed.{times, AreAmong}
use Rattle.claims.specs.Changes.{owner_of}
use Rattle.claims.specs.Keeping.{is_out, all_made, all_seen, AreOfRound, KeptBy, KeepsRule}

-- no claim is in no list
pub none_in : (claim : Claim) → Contains [] claim → ⊥
none_in claim has = absurd (omega (arith, has.1))

-- the rule with the owner's own view
pub owner_rule : {S : Type 0} (places : ℕ) (s : State S View) (owner : OwnerView) → KeepsRule places s
    → get_elem? s.views 0 ≡ some (Owning owner) → KeptBy places s owner
owner_rule places s owner kept at =
    let same = some-injective (Owning kept.0) (Owning owner) (ap (λ vs. get_elem? vs 0) (sym kept.1.views) ∙ at) in
    subst (KeptBy places s) (ap owner_of same) kept.1

-- no lent seat is the owner
pub not_owner : {S : Type 0} (places : ℕ) (s : State S View) (v : SeatView) → KeepsRule places s
    → get_elem? s.views 0 ≡ some (Lent v) → ⊥
not_owner places s v kept at =
    let no : Owning kept.0 ≡ Lent v =
    some-injective (Owning kept.0) (Lent v) (ap (λ vs. get_elem? vs 0) (sym kept.1.views) ∙ at) in
    absurd cc

-- a lent seat stands among the others
pub lent_there : {S : Type 0} (places j : ℕ) (s : State S View) (owner : OwnerView) (v : SeatView)
    (k : KeptBy places s owner) → get_elem? s.views (suc j) ≡ some (Lent v) → get_elem? k.others j ≡ some (Lent v)
lent_there places j s owner v k at = ap (λ vs. get_elem? vs (suc j)) (sym k.views) ∙ at

-- The words stay, and so do the round, how the words stood at its start, and all that was made; of what was seen each
-- claim was made.
pub carried : {S : Type 0} (places : ℕ) (s : State S View) (owner : OwnerView) (k : KeptBy places s owner)
    (out : ℕ) (made : List (List Claim)) (seen : List Claim) (others views : List View)
    → (let now : OwnerView = record owner { out = out; made = made; seen = seen } in
    views ≡ Owning now ∷ others → AreOfRound owner.round owner.start others → out ≡ count_by is_out others
    → ((place : ℕ) → times (all_made (Owning now ∷ others)) place ≡ times (all_made (Owning owner ∷ k.others)) place)
    → ((claim : Claim) → Contains (all_made (Owning now ∷ others)) claim
    ↔ Contains (all_made (Owning owner ∷ k.others)) claim)
    → AreAmong (all_seen (Owning now ∷ others)) (all_made (Owning owner ∷ k.others))
    → KeptBy {S = S} places (record { words = s.words; homes = s.homes; views = views }) now)
carried places s owner k out made seen others views are seats outs count same saw = record {
  others = others;
  views = are;
  long = k.long;
  seats = seats;
  out = outs;
  once = λ place. omega (arith, count place, k.once place);
  stands = λ claim. (
    (λ has. (k.stands claim).0 ((same claim).0 has)),
    (λ stands. (same claim).1 ((k.stands claim).1 stands)),
  );
  seen = λ claim has. (same claim).1 (saw claim has);
  stale = k.stale;
}
