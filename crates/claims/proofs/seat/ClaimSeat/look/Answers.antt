-- A look keeps the rule, and finds the claim that the seat saw.
use Rattle.std.proofs.Common.{◌≡◌, ℕ, Contains, Some, sym, ap, subst, ◌∙◌, arith, rules}
use Rattle.claims.specs.Halves.{IsClaimedFor}
use Rattle.claims.specs.Claimed.{claim_of}
use Rattle.claims.specs.Changes.{seat_of}
use Rattle.claims.specs.Sides.{PlacesSide, SeatSide}
use Rattle.claims.proofs.SeatSteps.{look_may}
use Rattle.claims.proofs.seat.ClaimSeat.look.Goals as goal
use Rattle.claims.proofs.seat.ClaimSeat.look.Goals.{then-round_in-self, else-round_in-self}

pub load-found-requires : goal.load-found-requires
load-found-requires c =
    let s = c.self.inside in
    let count : c.claims.inside.table.shared.key ≡ c.args.claims.now.places =
    ap (λ (v : PlacesSide). v.places) c.claims.view_is in (
      search rules,
      omega (arith, c.claims.invariant, count, c.requires.within),
      look_may _ _ s.seat.id c.args.place s.seat.me (seat_of s.seat.me.0) c.self.invariant.me,
    )

pub returns-clause-stays : goal.returns-clause-stays
returns-clause-stays c = λ value has.
    let s = c.self.inside in
    let inv = c.self.invariant in
    let stands : IsClaimedFor (seat_of s.seat.me.0).round value c.load-found.result =
    c.load-found.ensures.2.1.stays value
    (subst (λ (v : SeatSide). Contains v.seen (claim_of c.args.place value)) (sym c.self.view_is) has) in
    elim c.if-round_in-self.branch [
      | then-round_in-self w ↦ w.result-is ∙ ap (λ (n : ℕ). Some n) (w.value_in.ensures ∙ stands.what)
      | else-round_in-self w ↦ absurd (w.if-round_in-self.false (c.round_in.ensures ∙ (stands.when ∙ inv.round)))
    ]
