-- A scan leaves which cells are published and born.
use Rattle.std.proofs.Common.{refl, ap, ◌∙◌}
use Rattle.mark_world.specs.Cycles.{Cycle}
use Rattle.heap_table.specs.Seats.{Seat}
use Rattle.heap_table.specs.Overviews.{cycle_in}
use Rattle.table_tests.proofs.BegunSeats.{marking_on}
use Rattle.table_tests.proofs.barrier.scan.Goals as goal

pub returns : goal.returns
returns c =
    let now : Seat = c.args.seat.now in
    let later : Seat = c.scan.new.seat in
    let scans = c.scan.ensures.scans in
    marking_on now later c.args.grey.now c.scan.new.self now.table (cycle_in later) c.requires scans.steps
    (ap (λ (one : Cycle). one.starts) scans.cycle ∙ c.requires.starts)
    (ap (λ (one : Cycle). one.born) scans.cycle ∙ c.requires.born) refl c.scan.ensures.paid
