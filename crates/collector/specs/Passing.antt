-- How far a count of a heap's cells has come.
use Rattle.std.specs.Prelude.{ℕ}
use Rattle.heap_model.specs.Heaps.{Heap}
use Rattle.live_cells.specs.Counting.{CountsTo as CountedTo}
use Rattle.collector.specs.declared.census.Census.{Census}

-- the census is what a count that has come to the address counts
abbrev pub CountsTo : Heap → ℕ → Census → Type 0
CountsTo heap to census = CountedTo heap to census.objects census.entries
