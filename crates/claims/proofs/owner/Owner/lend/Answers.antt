-- A lend keeps the rule.
use Rattle.std.proofs.Common.{arith, rules}
use Rattle.claims.specs.Changes.{owner_of}
use Rattle.claims.proofs.LentSeats.{lend_may}
use Rattle.claims.proofs.owner.Owner.lend.Goals as goal

pub split_seat-seat-requires : goal.split_seat-seat-requires
split_seat-seat-requires c =
    let s = c.self.inside in
    let inv = c.self.invariant in (
      search rules,
      omega (arith, c.claims.invariant),
      lend_may _ s.seat.id s.seat.me (owner_of s.seat.me.0) inv.id inv.me,
    )
