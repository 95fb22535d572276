-- The last cell is taken off the lists, and made black.
use Rattle.mark_barrier.proofs.Scanned.{scans_none, scans_on, taken_off}
use Rattle.heap_table.specs.Overviews.{overview}
use Rattle.mark_barrier.proofs.scanning.blacken_listed.Goals as goal

pub loop-at-init : goal.loop-at-init
loop-at-init c = record {
  paid = c.requires.paid;
  scans = scans_none c.args.seat.now c.colours_fit.ensures.shared;
}

pub make_black-requires-clause-lists : goal.make_black-requires-clause-lists
make_black-requires-clause-lists c =
    taken_off c.loop-at.seat c.loop-at.grey c.next.new.self c.in-Some.at c.loop-at.invariant.paid.lists
    c.in-Some.ensures.taken

pub make_black-requires-clause-born : goal.make_black-requires-clause-born
make_black-requires-clause-born c = c.loop-at.invariant.paid.lists.born c.in-Some.at c.in-Some.ensures.taken.was

pub loop-at-preserved : goal.loop-at-preserved
loop-at-preserved c =
    let seat = overview c.loop-at.seat in
    record {
      paid = c.make_black.ensures.paid;
      scans = scans_on c.args.seat.now c.loop-at.seat c.make_black.new.seat seat.old c.in-Some.at seat.words
          seat.layouts c.loop-at.invariant.scans c.make_black.ensures.steps c.make_black.ensures.settled;
    }
