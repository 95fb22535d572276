-- Touched slots and words fit the cells that went and came: those of cells that stand, and those of a box that is made
-- in the run.
use Rattle.std.proofs.Common.{◌≡◌, ℕ, ◌+◌, ◌≤◌, List, Contains, refl}
use Rattle.heap_model.specs.Types.{Cell}
use Rattle.heap_model.specs.Heaps.{Heap, HasCell, words_of_cell}
use Rattle.heap_model.specs.Needs.{box_words}
use Rattle.heap_model.specs.Wholeness.{HasRows}
use Rattle.heap_model.specs.Remembered.{IsSlotOf, Touch}
use Rattle.heap_model.proofs.CellsApart.{IsOfCell}
use Rattle.object_cells.specs.declared.content.SlotContent.{SlotContent}
use Rattle.object_cells.specs.declared.content.SlotContent.TheVariants as content
use Rattle.object_cells.specs.Made.{content_need, content_touch}
use Rattle.object_cells.proofs.SlotsOfCells.{in_one_cell, slot_in_one, no_slot_of_one}
use Rattle.object_cells.proofs.TouchedCells.{FitsTouch, IsBeside, kept_fits, kept_beside}

-- a slot of a cell that stayed fits where a slot's word was put
pub slot_fits : {heap : Heap} {gone came : List Cell} {cell : Cell} {words : List ℕ} {at : ℕ} → HasCell heap cell words
    → Contains gone cell → Contains came cell → IsSlotOf cell at → FitsTouch gone came at Touch.Stored
slot_fits {cell = cell} has among stays slot =
    (slot_in_one has among slot, record { cell = cell; among = stays; slot = slot })

-- so does one of a cell that came, where one that went has the address
pub new_slot_fits : {gone came : List Cell} {at : ℕ} (cell one : Cell) → Contains gone cell → IsOfCell cell at
    → Contains came one → IsSlotOf one at → FitsTouch gone came at Touch.Stored
new_slot_fits cell one among of_cell comes slot =
    (in_one_cell cell among of_cell, record { cell = one; among = comes; slot = slot })

-- a word that is no slot of the cell that came fits where no slot's was put, where one that went has the address
pub word_fits : {heap : Heap} {gone came : List Cell} {words : List ℕ} {at : ℕ} (cell one : Cell) → HasRows heap
    → ((other : Cell) → Contains came other → HasCell heap other (words_of_cell heap other)) → Contains gone cell
    → IsOfCell cell at → HasCell heap one words → IsOfCell one at → (IsSlotOf one at → ⊥)
    → FitsTouch gone came at Touch.Wiped
word_fits cell one rows stand among of_cell has of_one none =
    (in_one_cell cell among of_cell, no_slot_of_one rows stand has of_one none)

-- a box that is made in the run touches nothing beside it
pub content_kept : (holds : SlotContent) (from to box at : ℕ) → from ≤ box → box + content_need holds ≤ to
    → IsBeside from to at → content_touch holds box at ≡ Touch.Kept
content_kept (content.Tagged word) from to box at begins ends beside = refl
content_kept (content.Raw word) from to box at begins ends beside = refl
content_kept (content.Boxed v) from to box at begins ends beside =
    kept_beside Touch.Wiped from to box (box + box_words) at begins ends beside

-- so it fits
pub content_fits : (gone came : List Cell) (holds : SlotContent) (from to box at : ℕ) → from ≤ box
    → box + content_need holds ≤ to → IsBeside from to at → FitsTouch gone came at (content_touch holds box at)
content_fits gone came holds from to box at begins ends beside =
    kept_fits gone came at (content_touch holds box at) (content_kept holds from to box at begins ends beside)
