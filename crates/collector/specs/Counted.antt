-- What a count of a heap's cells tells.
use Rattle.std.specs.Prelude.{List}
use Rattle.heap_model.specs.Heaps.{Heap, Row}
use Rattle.live_cells.specs.Census.{objects_in}
use Rattle.live_cells.specs.Counting.{CountsCellsAndPairs}
use Rattle.collector.specs.declared.census.Census.{Census}

-- so many cells of objects stand in these rows, and their weak maps count so many pairs together
abbrev pub IsCensusOf : Heap → List Row → Census → Type 0
IsCensusOf heap rows census = CountsCellsAndPairs heap (objects_in rows) census.objects census.entries
