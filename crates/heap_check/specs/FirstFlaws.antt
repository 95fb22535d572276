-- The first flaw of an image: of the first part that is broken, and there of the lowest address.
use Rattle.page_space.specs.Sizes.{AreWithin}
use Rattle.heap_model.specs.Heaps.{Heap}
use Rattle.heap_model.specs.Wholeness.{Whole, Blank, HasSizes, HasRows}
use Rattle.heap_check.specs.RegionRows.{IsFew}
use Rattle.image_walk.specs.Words.{HasWords}
use Rattle.heap_check.specs.LayoutParts.{HasFrame}
use Rattle.heap_check.specs.SoundCells.{HasSoundCells}
use Rattle.heap_check.specs.declared.flaw.Flaw.{Flaw}
use Rattle.heap_check.specs.Firsts.{IsFirst}
use Rattle.heap_check.specs.Frames.{BreaksUsed, BreaksLength, BreaksLayouts, BreaksRows, BreaksSurvivors, BreaksRoots}
use Rattle.heap_check.specs.Cells.{BreaksCells, BreaksOwners}

-- The parts in order: used words, number of words, layout words, rows of cells and what is blank behind them, words of
-- survivors, roots, cells, owners.
pub data IsFirstFlaw (heap : Heap) (flaw : Flaw) : Type 0 where
  of_used : IsFirst (BreaksUsed heap) flaw → IsFirstFlaw heap flaw
  of_length : IsFew heap → IsFirst (BreaksLength heap) flaw → IsFirstFlaw heap flaw
  of_layouts : IsFew heap → HasWords heap → IsFirst (BreaksLayouts heap) flaw → IsFirstFlaw heap flaw
  of_rows : IsFew heap → HasSizes heap → IsFirst (BreaksRows heap) flaw → IsFirstFlaw heap flaw
  of_survivors : HasSizes heap → Blank heap → IsFirst (BreaksSurvivors heap) flaw → IsFirstFlaw heap flaw
  of_roots : HasSizes heap → HasRows heap → Blank heap → IsFirst (BreaksRoots heap) flaw → IsFirstFlaw heap flaw
  of_cells : HasFrame heap → IsFirst (BreaksCells heap) flaw → IsFirstFlaw heap flaw
  of_owners : HasFrame heap → HasSoundCells heap → IsFirst (BreaksOwners heap) flaw → IsFirstFlaw heap flaw

-- No whole heap of sizes within their limits, with 0 in each word that no cell uses, has a first flaw.
abbrev pub WholeHasNoFlaw : Type 0
WholeHasNoFlaw =
    (heap : Heap) (flaw : Flaw) → AreWithin heap.space.sizes heap.space.variables → Whole heap → Blank heap
    → IsFirstFlaw heap flaw → ⊥
