-- A turn visits or looks.
use Rattle.std.proofs.Common.{inl, arith}
use Rattle.marker.proofs.Listed.{others_listed}
use Rattle.marker.proofs.Looked.{look_turns}
use Rattle.marker.proofs.ShadeAll.{visit_ends}
use Rattle.marker.proofs.marking.turn.Goals as goal

pub visit_cell-requires-clause-waits : goal.visit_cell-requires-clause-waits
visit_cell-requires-clause-waits g c =
    (c.requires.rests.listed.members c.in-Some.cell).0 c.in-Some.ensures.1

pub visit_cell-requires-clause-listed : goal.visit_cell-requires-clause-listed
visit_cell-requires-clause-listed g c =
    others_listed c.args.room.now.list c.next_cell.new.list c.args.seat.now.lent c.in-Some.cell c.requires.rests.listed
    c.in-Some.ensures.0 c.in-Some.ensures.3

pub returns-in-Some-clause-turned : goal.returns-in-Some-clause-turned
returns-in-Some-clause-turned g c = (
  inl (visit_ends c.args.seat.now.lent.view.log c.visit_cell.new.seat.lent.view.log c.offer.new.seat.lent.view.log
      c.visit_cell.ensures.log c.offer.ensures.log),
  omega (arith, c.offer.ensures.place, c.visit_cell.ensures.place, c.requires.place),
)

pub returns-in-None-clause-turned : goal.returns-in-None-clause-turned
returns-in-None-clause-turned g c =
    look_turns c.args.seat.now.lent.view.log c.look.new.seat.lent.view.log c.args.room.now.place c.look.new.room.place
    c.args.room.now.list c.next_cell.new.list c.look.new.room.list c.look.result c.in-None.ensures c.look.ensures.log
    c.look.ensures.place c.look.ensures.same c.look.ensures.found
