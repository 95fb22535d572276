-- One seat that is lent: what the rule says of it, and that it may see a claim.
use Rattle.std.proofs.Common.{◌≡◌, ◌≢◌, ◌⊎◌, inl, inr, ⊎_elim, ℕ, suc, List, ◌∷◌, slice_index, set}
use Rattle.std.proofs.Common.{Contains, refl, sym, ap, subst, ◌∙◌, arith}
use Rattle.std.specs.List.{count_by}
use Rattle.std.proofs.lemmas.List.Elements.{Contains-push_cases}
use mathlib.Core.Option.{some}
use lib.ListN.{get_elem?}
use Rattle.atomic_table.specs.Table.{State}
use Rattle.claims.specs.declared.view.Claim.{Claim}
use Rattle.claims.specs.declared.view.OwnerView.{OwnerView}
use Rattle.claims.specs.declared.view.SeatView.{SeatView}
use Rattle.claims.specs.declared.view.View.{View}
use Rattle.claims.specs.declared.view.View.TheVariants.{Owning, Lent}
use Rattle.claims.specs.Halves.{round_in, value_in, IsClaimedFor}
use Rattle.claims.specs.Claimed.{claim_of}
use Rattle.claims.specs.Changes.{seeing}
use Rattle.claims.specs.Keeping.{made_in, seen_in, all_made, all_seen, is_out, IsStale, KeptBy}
use Rattle.claims.specs.Told.{Finds}
use Rattle.claims.proofs.AllViews.{in_all, after_set, kept_set, times_set}
use Rattle.claims.proofs.RoundSeats.{out_set, seat_at, seats_set}
use Rattle.claims.proofs.KeptRule.{carried}

-- of one seat that is lent
module _ {S : Type 0} (places j : ℕ) (s : State S View) (owner : OwnerView) (v : SeatView) (k : KeptBy places s owner)
    (at : get_elem? k.others j ≡ some (Lent v)) where
  -- all views, before the step and after it
  abbrev pub before : List View
  before = Owning owner ∷ k.others

  abbrev pub after : SeatView → List View
  after w = Owning owner ∷ set k.others j (Lent w)

  -- the table after the step
  abbrev pub put : List ℕ → SeatView → State S View
  put words w = record { words = words; homes = s.homes; views = set s.views (suc j) (Lent w) }

  -- the seat is of the round
  pub of_round : (v.round ≡ owner.round) × (v.start ≡ owner.start)
  of_round = seat_at owner.round owner.start k.others j (Lent v) k.seats at

  -- a word of the seat's round is a claim that was made, and each other one is of an earlier round
  pub made_there : (place : ℕ) → round_in (slice_index s.words place) ≡ owner.round
      → Contains (all_made before) (claim_of place (value_in (slice_index s.words place)))
  made_there place is =
      (k.stands (claim_of place (value_in (slice_index s.words place)))).1 (record { when = is; what = refl })

  pub stale_there : (place : ℕ) → round_in (slice_index s.words place) ≢ owner.round
      → IsStale owner.round owner.start place (slice_index s.words place)
  stale_there place other = ⊎_elim (λ is. absurd (other is)) (λ is. is) (k.stale place)

  -- what the seat finds
  pub finds : (place : ℕ) → Finds v place (slice_index s.words place)
  finds place = record {
    stays = λ value has.
        let claim = claim_of place value in
        subst (λ (round : ℕ). IsClaimedFor round value (slice_index s.words place)) (sym of_round.0)
        ((k.stands claim).0 (k.seen claim (in_all seen_in before (suc j) (Lent v) claim at has)));
    stale = λ other.
        (stale_there place (λ is. other (is ∙ sym of_round.0))).same
        ∙ ap (λ (ws : List ℕ). slice_index ws place) (sym of_round.1);
  }

  -- what was made stays so where the seat has made what it had
  pub made_kept : (w : SeatView) → ((claim : Claim) → Contains v.made claim → Contains w.made claim)
      → (claim : Claim) → Contains (all_made before) claim → Contains (all_made (after w)) claim
  made_kept w more = kept_set made_in before (suc j) (Lent v) (Lent w) at more

  -- what is seen now the seat has seen, or it was made
  pub seen_now : (w : SeatView) (claim : Claim) → Contains (all_seen (after w)) claim
      → Contains w.seen claim ⊎ Contains (all_made before) claim
  seen_now w claim has =
      ⊎_elim (λ h. inl h) (λ h. inr (k.seen claim h)) (after_set seen_in before (suc j) (Lent w) claim has)

  -- what the seat had seen was made
  pub seen_before : (claim : Claim) → Contains v.seen claim → Contains (all_made before) claim
  seen_before claim has = k.seen claim (in_all seen_in before (suc j) (Lent v) claim at has)

  -- so many seats are out still
  pub outs : (w : SeatView) → owner.out ≡ count_by is_out (set k.others j (Lent w))
  outs w = omega (arith, k.out, out_set k.others j (Lent v) (Lent w) at)

  -- a seat sees a claim that was made
  pub sees : (claim : Claim) → Contains (all_made before) claim → KeptBy places (put s.words (seeing v claim)) owner
  sees claim is =
      let w : SeatView = seeing v claim in
      carried places s owner k owner.out owner.made owner.seen (set k.others j (Lent w)) (set s.views (suc j) (Lent w))
      (ap (λ vs. set vs (suc j) (Lent w)) k.views)
      (seats_set owner.round owner.start k.others j (Lent w) k.seats of_round) (outs w)
      (λ place. omega (arith, times_set made_in before (suc j) (Lent v) (Lent w) place at))
      (λ one. (
        (λ has. ⊎_elim (λ h. in_all made_in before (suc j) (Lent v) one at h) (λ h. h)
            (after_set made_in before (suc j) (Lent w) one has)),
        made_kept w (λ c h. h) one,
      ))
      (λ one has. ⊎_elim
      (λ h. ⊎_elim (λ t. seen_before one t)
      (λ (e : claim ≡ one). subst (λ (c : Claim). Contains (all_made before) c) e is)
      (Contains-push_cases v.seen claim one h)) (λ h. h) (seen_now w one has))
