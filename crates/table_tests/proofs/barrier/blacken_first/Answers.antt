-- The first cell is one that the mutator made black.
use Rattle.std.proofs.Common.{refl, sym, subst, Contains}
use Rattle.core_parts.proofs.Joining.{joined_in}
use Rattle.mark_world.specs.Cycles.{Cycle}
use Rattle.heap_table.specs.Overviews.{cycle_in, overview}
use Rattle.heap_table.specs.Seats.{Seat}
use Rattle.mark_barrier.specs.CycleSteps.{made_black}
use Rattle.table_tests.proofs.BegunSeats.{marking_on}
use Rattle.table_tests.proofs.barrier.blacken_first.Goals as goal

pub returns : goal.returns
returns c =
    let now : Seat = c.args.seat.now in
    let cycle : Cycle = made_black (overview now).old (overview now).words (overview now).layouts (cycle_in now) 0 in
    record {
      marking = marking_on now c.blacken.new.seat c.args.grey.now c.blacken.new.self now.table cycle c.requires
          c.blacken.ensures.steps c.requires.starts c.requires.born refl c.blacken.ensures.paid;
      mine = subst (λ (one : Cycle). Contains one.mine 0) (sym c.blacken.ensures.steps.moves.cycle)
          (joined_in (cycle_in now).mine 0);
    }
