-- What is owed is the target of a slot that is still to come.
use Rattle.std.proofs.Common.{◌≡◌, ◌-◌}
use Rattle.heap_table.specs.Overviews.{cycle_in}
use Rattle.mark_barrier.specs.Owing.{Owes}
use Rattle.mark_barrier.specs.Paid.{AreNoMore, ListsGrey, StepsTo}
use Rattle.mark_barrier.proofs.blackening.shade_slots.Given as goal

abbrev pub invariant-loop-offset : goal.invariant-loop-offset
invariant-loop-offset l = record {
  lists : ListsGrey l.seat l.grey;
  passed : l.grey.passed ≡ l.initial.grey.passed;
  owes : Owes l.seat l.cell l.from;
  steps : StepsTo l.initial.seat l.seat l.initial.seat.table (cycle_in l.initial.seat);
  no_more : AreNoMore l.initial.seat l.initial.grey l.seat l.grey;
}

abbrev pub decreases-loop-offset : goal.decreases-loop-offset
decreases-loop-offset l = l.cell.size - l.from
