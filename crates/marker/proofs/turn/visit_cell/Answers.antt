-- A visit is a turn.
use Rattle.marker.proofs.OneTurn.{dropped_rests, kept_listed, kept_may, kept_rests}
use Rattle.marker.proofs.turn.visit_cell.Goals as goal

pub shade_targets-requires-clause-listed : goal.shade_targets-requires-clause-listed
shade_targets-requires-clause-listed g c =
    kept_listed c.args.seat.now c.visit.new.seat c.args.cell c.in-Kept.snapshot.header c.in-Kept.snapshot.slots.now
    c.in-Kept.ensures c.args.room.now.list c.requires.listed

pub shade_targets-requires-clause-may : goal.shade_targets-requires-clause-may
shade_targets-requires-clause-may g c =
    kept_may c.args.seat.now c.visit.new.seat c.args.cell c.in-Kept.snapshot.header c.in-Kept.snapshot.slots.now
    c.in-Kept.ensures

pub returns-in-Kept-clause-rests : goal.returns-in-Kept-clause-rests
returns-in-Kept-clause-rests g c =
    kept_rests c.args.seat.now c.visit.new.seat c.args.cell c.in-Kept.snapshot.header c.in-Kept.snapshot.slots.now
    c.in-Kept.ensures c.shade_targets.new.seat c.shade_targets.new.list c.shade_targets.ensures.shades
    c.shade_targets.ensures.shaded c.shade_targets.ensures.listed

pub returns-in-Dropped-clause-rests : goal.returns-in-Dropped-clause-rests
returns-in-Dropped-clause-rests g c =
    dropped_rests c.args.seat.now c.visit.new.seat c.args.cell c.in-Dropped.found c.args.room.now.list
    c.in-Dropped.ensures
    c.requires.rest c.requires.listed
