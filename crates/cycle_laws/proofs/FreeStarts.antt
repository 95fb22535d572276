-- Where a heap rests, the words of a cell of a page are claimed. So a free start's cell has such a word only if it is
-- that cell.
use Rattle.std.proofs.Common.{◌≡◌, ◌≢◌, ℕ, ◌+◌, true, false, IsTrue, refl, sym, ◌∙◌, ap}
use Rattle.std.proofs.lemmas.Option.{same_Some}
use Rattle.page_space.specs.Extents.{eden_start}
use Rattle.cell_layout.specs.Cells.{layouts_in, reading_of}
use Rattle.mark_world.specs.Cycles.{Cycle}
use Rattle.mark_world.specs.Pages.{cell_at, is_free, is_inside, is_quiet, leaves_alone}
use Rattle.mark_laws.specs.Types.{Reading}
use Rattle.heap_model.specs.Types.{Cell}
use Rattle.heap_model.specs.Heaps.{Heap}
use Rattle.heap_model.specs.Wholeness.{Whole}
use Rattle.cycle_state.specs.Claims.{Claims}
use Rattle.cycle_state.specs.Cycles.{main_of, words_of_pages, world_in}
use Rattle.cycle_state.specs.Resting.{Rests}
use Rattle.cycle_state.proofs.PageCells.{page_cells_are_read}
use Rattle.cycle_state.proofs.Claimed as claimed
use Rattle.cycle_laws.specs.Steps.{IsPageWord}

module _ {heap : Heap} {cycle : Cycle} {cell : Cell} {offset : ℕ} (whole : Whole heap) (rests : Rests heap cycle)
    (word : IsPageWord heap cell offset) where
  -- the words of the cell are claimed
  claims : Claims (world_in heap cycle) cell.at cell.size cell.layout.kind
  claims =
      claimed.page_cells_are_claimed heap cycle (world_in heap cycle) cell word.words whole rests (record { is = refl })
      word.has word.of_page

  -- the word lies in no cell of another free start
  pub outside_other : (start : ℕ) → IsTrue (is_free (main_of cycle) start) → start ≢ cell.at
      → is_inside start
      (cell_at (eden_start heap.space) (words_of_pages heap) (layouts_in heap.space heap.words) start)
      (cell.at + offset)
      ≡ false
  outside_other = claimed.outside_other claims word.within

  -- and no helper minds it, where it is a quiet word of its own cell
  pub left_alone : is_quiet (reading_of cell) offset ≡ true → (start : ℕ) → IsTrue (is_free (main_of cycle) start)
      → leaves_alone start
      (cell_at (eden_start heap.space) (words_of_pages heap) (layouts_in heap.space heap.words) start)
      (cell.at + offset)
      ≡ true
  left_alone quiet =
      claimed.left_alone claims word.within (λ free reading is.
      let read = page_cells_are_read heap cell word.words word.has word.of_page in
      ap (λ (one : Reading). is_quiet one offset) (same_Some reading (reading_of cell) (sym is ∙ read)) ∙ quiet)
