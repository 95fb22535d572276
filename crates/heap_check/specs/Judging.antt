-- What a check answers.
use Rattle.std.specs.Prelude.{List, Result, Ok, Err}
use Rattle.heap_model.specs.Heaps.{Heap, Row, AreRows}
use Rattle.heap_model.specs.Wholeness.{Whole, Blank}
use Rattle.heap_check.specs.declared.checker.CheckStop.{CheckStop}
use Rattle.heap_check.specs.declared.checker.CheckStop.TheVariants.{Flaw as Broken, NoMemory}
use Rattle.heap_check.specs.declared.counts.Counts.{Counts}
use Rattle.heap_check.specs.declared.flaw.Flaw.{Flaw}
use Rattle.live_cells.specs.Census.{objects_in}
use Rattle.live_cells.specs.Counting.{CountsCellsAndPairs}
use Rattle.page_space.specs.Sizes.{AreWithin}
use Rattle.heap_check.specs.FirstFlaws.{IsFirstFlaw}
use Rattle.heap_check.specs.LayoutParts.{HasBlankRows}

-- The heap is whole, with 0 in each word that no cell uses. So many cells of objects stand in its rows, and its weak
-- maps count so many pairs together.
pub record IsCounted (heap : Heap) (counts : Counts) : Type 0 where
  pub whole : Whole heap
  pub blank : Blank heap
  pub counted : (rows : List Row) → AreRows heap rows
      → CountsCellsAndPairs heap (objects_in rows) counts.objects counts.entries

-- either the heap is whole, and these are its counts; or this is its first flaw
abbrev pub Judges : Heap → Result Counts Flaw → Type 0
Judges heap (Ok counts) = IsCounted heap counts
Judges heap (Err flaw) = IsFirstFlaw heap flaw

-- the same of a check that takes its own memory, which may be refused
abbrev pub JudgesOnce : Heap → Result Counts CheckStop → Type 0
JudgesOnce heap (Ok counts) = IsCounted heap counts
JudgesOnce heap (Err (Broken flaw)) = IsFirstFlaw heap flaw
JudgesOnce heap (Err NoMemory) = Unit {0}

-- A first flaw of the sizes or the rows: no heap of sizes within their limits that has it has both, with 0 behind the
-- rows.
pub record IsRowsFlaw (heap : Heap) (flaw : Flaw) : Type 0 where
  pub first : IsFirstFlaw heap flaw
  pub breaks : AreWithin heap.space.sizes heap.space.variables → HasBlankRows heap → ⊥
