-- The cell lies in eden; where no claim was found, none was seen.
use Rattle.std.proofs.Common.{◌≡◌, ℕ, ◌-◌, sym, subst, arith, Some, None}
use Rattle.std.specs.List.{Contains}
use Rattle.claims.specs.Claimed.{claim_of}
use Rattle.claims.specs.Sides.{SeatSide}
use Rattle.eden_copies.specs.Steps.{cell_claim}
use Rattle.eden_copies.proofs.following.home_of.Goals as goal

pub overflow_sub-place : goal.overflow_sub-place
overflow_sub-place g c = omega (arith, c.eden_at.ensures.at, c.requires.can.stands.from)

pub look-requires-clause-within : goal.look-requires-clause-within
look-requires-clause-within g c =
    omega (
      arith,
      c.eden_at.ensures.at,
      c.requires.can.stands.from,
      c.requires.can.stands.below,
      c.requires.ready.places,
    )

pub copy_cell-requires-clause-unseen : goal.copy_cell-requires-clause-unseen
copy_cell-requires-clause-unseen g c = λ home has.
    let before : Contains c.args.seat.now.seen (claim_of (c.args.at - c.eden_at.result) home) =
    subst (λ (eden : ℕ). Contains c.args.seat.now.seen (claim_of (c.args.at - eden) home)) (sym c.eden_at.ensures.at)
    (subst (λ (seat : SeatSide). Contains seat.seen (cell_claim c.args.words.now c.args.at home))
    c.in-None.ensures.looked has) in
    let none : None ≡ Some home = c.in-None.ensures.stays home before in
    absurd cc
