-- What the slots before an offset refer to is listed.
use Rattle.std.proofs.Common.{ℕ, ◌+◌, ◌<◌, Contains}
use Rattle.tagged_word.specs.Cells.{tagged_offsets}
use Rattle.write_barrier.specs.MutatorState.{heap_of}
use Rattle.ephemeron_mark.specs.Progress.{HoldsReference}
use Rattle.marking_tests.proofs.starts.has_listed_targets.Given as goal

abbrev pub invariant-loop-offset : goal.invariant-loop-offset
invariant-loop-offset l =
    (offset to : ℕ) → Contains (tagged_offsets l.cell.layout l.cell.length) offset → offset < l.offset
    → HoldsReference (heap_of l.main) (l.cell.at + offset) to → Contains l.cells.addresses to
