-- What is removed so far, and what is left to do.
use Rattle.std.proofs.Common.{◌≡◌}
use Rattle.write_barrier.specs.Seats.{heap_words}
use Rattle.write_barrier.specs.MutatorState.{heap_of}
use Rattle.linear_probing.proofs.Removals.{left}
use Rattle.ephemeron_table.specs.Removals.{ChangesPairs}
use Rattle.weak_pairs.specs.Tables.{numbers, pairs_of}
use Rattle.weak_pairs.proofs.BackwardShifts.{HasShifted}
use Rattle.ephemeron_table.proofs.removing.backward_shift.Given as goal

abbrev pub invariant-loop-passed : goal.invariant-loop-passed
invariant-loop-passed l = record {
  changes : ChangesPairs l.fn.main l.main l.table;
  cycle : l.main.cycle ≡ l.fn.main.cycle;
  shifting : HasShifted (heap_of l.fn.main) (pairs_of (heap_words l.fn.main.seat) l.table)
      (pairs_of (heap_words l.main.seat) l.table) l.at l.hole l.passed;
}

abbrev pub decreases-loop-passed : goal.decreases-loop-passed
decreases-loop-passed l =
    left (numbers (heap_of l.fn.main) (pairs_of (heap_words l.main.seat) l.table)) l.hole l.passed
