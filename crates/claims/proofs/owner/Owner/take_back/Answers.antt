-- A return keeps the rule.
use Rattle.std.proofs.Common.{ap, arith, rules}
use Rattle.claims.specs.Changes.{owner_of, seat_of}
use Rattle.claims.proofs.LentSeats.{take_may}
use Rattle.claims.proofs.owner.Owner.take_back.Goals as goal

pub join_seat-requires : goal.join_seat-requires
join_seat-requires c =
    let s = c.self.inside in
    let inv = c.self.invariant in
    let other = c.seat.inside.seat in (
      search rules,
      search rules,
      ap (λ e. e.1) c.seat.invariant.me,
      omega (arith, c.claims.invariant),
      take_may _ s.seat.id other.id s.seat.me other.me (owner_of s.seat.me.0) (seat_of other.me.0) inv.id inv.me
          c.seat.invariant.me,
    )
