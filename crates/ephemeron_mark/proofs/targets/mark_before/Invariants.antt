-- What the slots before an offset refer to is marked.
use Rattle.std.proofs.Common.{ℕ, ◌+◌, ◌<◌, Contains}
use Rattle.tagged_word.specs.Cells.{tagged_offsets}
use Rattle.write_barrier.specs.MutatorState.{heap_of}
use Rattle.ephemeron_mark.specs.Progress.{HoldsReference, HasGrown}
use Rattle.ephemeron_mark.proofs.targets.mark_before.Given as goal

abbrev pub invariant-loop-offset : goal.invariant-loop-offset
invariant-loop-offset l = record {
  grown : HasGrown l.main l.initial.cells l.cells;
  slots : (offset at : ℕ) → Contains (tagged_offsets l.cell.layout l.cell.length) offset → offset < l.offset
      → HoldsReference (heap_of l.main) (l.cell.at + offset) at → Contains l.cells.addresses at;
}
