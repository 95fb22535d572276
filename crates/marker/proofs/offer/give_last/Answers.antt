-- The cell waits, and the list has the others.
use Rattle.std.proofs.Common.{arith}
use Rattle.marker.proofs.Listed.{others_listed}
use Rattle.marker.proofs.offer.give_last.Goals as goal

pub give_cell-requires-clause-waits : goal.give_cell-requires-clause-waits
give_cell-requires-clause-waits c = (c.requires.rests.listed.members c.in-Some.at).0 c.in-Some.ensures.1

pub give_cell-requires-clause-listed : goal.give_cell-requires-clause-listed
give_cell-requires-clause-listed c =
    others_listed c.args.room.now.list c.next_cell.new.list c.args.seat.now.lent c.in-Some.at c.requires.rests.listed
    c.in-Some.ensures.0 c.in-Some.ensures.3

pub give_cell-requires-clause-within : goal.give_cell-requires-clause-within
give_cell-requires-clause-within c = omega (arith, c.in-Some.ensures.0, c.in-Some.ensures.2)
