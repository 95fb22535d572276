-- What holds at the end of a cycle, when the last marking begins with the cells that have a colour.
use Rattle.std.specs.Prelude.{◌≡◌, ◌≢◌, ◌≤◌, ◌<◌, ◌+◌, ◌⊎◌, ℕ, List, IsTrue}
use Rattle.tagged_word.specs.declared.layout.Kind.TheVariants as kind
use Rattle.tagged_word.specs.Cells.{is_free_kind}
use Rattle.page_space.specs.Extents.{eden_start}
use Rattle.page_space.specs.Sizes.{page_words}
use Rattle.mark_world.specs.declared.world.World.{World}
use Rattle.mark_world.specs.Coverage.{colour_of}
use Rattle.mark_world.specs.Soundness.{Sound}
use Rattle.mark_world.specs.BornCells.{Born}
use Rattle.mark_world.specs.Steps.{white, black}
use Rattle.mark_laws.specs.Runs.{HasNoneOut}
use Rattle.heap_model.specs.Types.{Cell, Run}
use Rattle.heap_model.specs.Heaps.{Heap, HasCell}
use Rattle.heap_model.specs.Wholeness.{Whole}
use Rattle.heap_model.specs.Collectable.{IsFreeCell}
use Rattle.live_cells.specs.Live.{HasSlotTo}
use Rattle.mark_world.specs.Cycles.{Cycle}
use Rattle.cycle_state.specs.Cycles.{IsWorldOf}
use Rattle.cycle_state.specs.Keeping.{IsKept}
use Rattle.cycle_state.specs.Resting.{IsPageCell, Rests}

-- each cell that has a colour is a kept cell of a page
abbrev pub ColouredIsKept : Type 0
ColouredIsKept =
    (heap : Heap) (cycle : Cycle) (world : World) (at : ℕ) → Rests heap cycle → IsWorldOf heap cycle world → Sound world
    → Born world → colour_of world at ≢ white → IsPageCell heap at × IsKept heap cycle.born at

-- With no seat out, what a slot of a black cell refers to that marking visits is young, or has a colour. So the last
-- marking looks at no slot of a black cell but those of weak maps, whose tables are no starts of it.
abbrev pub BlackSlotsLeadOn : Type 0
BlackSlotsLeadOn =
    (heap : Heap) (cycle : Cycle) (world : World) (from at : ℕ) → Rests heap cycle → IsWorldOf heap cycle world
    → Sound world → HasNoneOut world → colour_of world from ≡ black → HasSlotTo heap from at
    → (eden_start heap.space ≤ at) ⊎ (colour_of world at ≢ white)

-- The last marking may start at the cell of the address: it is neither free nor a weak table, and is young or has a
-- colour.
pub record IsLastStart (heap : Heap) (world : World) (at : ℕ) : Type 0 where
  pub cell : Cell
  pub words : List ℕ
  pub has : HasCell heap cell words
  pub stands : cell.at ≡ at
  pub used : IsTrue (is_free_kind cell.layout.kind) → ⊥
  pub no_table : cell.layout.kind ≢ kind.Table
  pub given : (eden_start heap.space ≤ at) ⊎ (colour_of world at ≢ white)

-- So a slot of a black cell that is no weak map refers to such a cell: where all of them are given, black ones may be
-- given as seen.
abbrev pub BlackSlotsLeadToStarts : Type 0
BlackSlotsLeadToStarts =
    (heap : Heap) (cycle : Cycle) (world : World) (from at : ℕ) → Whole heap → Rests heap cycle
    → IsWorldOf heap cycle world → Sound world → HasNoneOut world → colour_of world from ≡ black
    → (slot : HasSlotTo heap from at) → slot.cell.layout.kind ≢ kind.Weak → IsLastStart heap world at

-- in a page that is one free run no cell has a colour
abbrev pub FreePagesAreWhite : Type 0
FreePagesAreWhite =
    (heap : Heap) (cycle : Cycle) (world : World) (run : Run) (at : ℕ) → Whole heap → Rests heap cycle
    → IsWorldOf heap cycle world → Sound world → IsFreeCell heap run → run.words ≡ page_words → run.at ≤ at
    → at < run.at + run.words → colour_of world at ≡ white
