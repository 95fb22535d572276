-- What was touched of the run in which cells were made: each address by what its touch owes these, and each of their
-- slots was put.
use Rattle.std.proofs.Common.{◌≡◌, ℕ, ◌+◌, ◌*◌, ◌≤◌, ◌<◌, inl, inr, List, [], ◌∷◌, Contains, refl, sym, ◌∙◌, subst}
use Rattle.std.proofs.Common.{arith}
use Rattle.tagged_word.specs.declared.layout.Kind.TheVariants as kind
use Rattle.tagged_word.specs.Cells.{store_head}
use Rattle.tagged_word.proofs.Members.{first_in}
use Rattle.page_space.specs.Extents.{eden_start}
use Rattle.cell_layout.specs.Cells.{IsRow}
use Rattle.cell_layout.proofs.OneCell.{slots_lie_within}
use Rattle.cell_layout.proofs.Rows.{cell_within, rows_part_around}
use Rattle.heap_model.specs.Types.{Cell}
use Rattle.heap_model.specs.Heaps.{Heap, HasCell, words_of_cell}
use Rattle.heap_model.specs.Needs.{box_words}
use Rattle.heap_model.specs.Wholeness.{HasRows}
use Rattle.heap_model.specs.Changes.{IsFillerAt, IsRunOf}
use Rattle.heap_model.specs.Remembered.{IsSlotOf, IsSlotOfOne, IsInOneOf, Touch, TouchesMade}
use Rattle.heap_model.proofs.CellsApart.{IsOfCell}
use Rattle.heap_model.proofs.RowCovers.{covered}
use Rattle.write_barrier.specs.Recording.{touched}
use Rattle.write_barrier.proofs.TouchedRanges.{touched_inside}
use Rattle.object_cells.specs.declared.content.SlotContent.{SlotContent}
use Rattle.object_cells.specs.declared.content.SlotContent.TheVariants as content
use Rattle.object_cells.specs.Made.{content_touch, store_touch}
use Rattle.object_cells.proofs.FittingCells.{slot_fits, word_fits}
use Rattle.object_cells.proofs.MadeBoxes.{made_boxes, made_boxed}
use Rattle.object_cells.proofs.NewBoxes.{box_cell}
use Rattle.object_cells.proofs.SlotsOfCells.{slot_of_one_cases}
use Rattle.object_cells.proofs.TouchedCells.{FitsTouch, fits_range, fits_then, then_kept}
use Rattle.object_cells.proofs.TouchedOffsets.{IsBehindHead, store_has_slot, slot_of_store, table_has_slot}
use Rattle.object_cells.proofs.TouchedOffsets.{slot_of_table}
use Rattle.object_cells.proofs.TouchedOffsets.{box_has_no_slots}

-- a word of pages in the run was a filler
pub run_fillers : {old new : Heap} {from to : ℕ} → IsRunOf old new from to → (at : ℕ) → at < eden_start old.space
    → from ≤ at → at < to → IsFillerAt old at
run_fillers (IsRunOf.of_eden begins ends grown) at below above before = absurd (omega (arith, begins, above, below))
run_fillers (IsRunOf.of_page forward same fillers) at below above before = fillers.each at above before

-- each address of a row is in one of its cells
row_covers : (heap : Heap) {from to : ℕ} {made : List Cell} → IsRow heap.space heap.words from to made → (at : ℕ)
    → from ≤ at → at < to → IsInOneOf made at
row_covers heap {from} {to} {made} row at above below =
    let one = covered heap.space heap.words from to made at row above below in
    record { cell = one.cell; among = one.among; from = one.of_cell.from; below = one.of_cell.below }

-- and the slots of these are in it
row_within : (heap : Heap) {from to : ℕ} {made : List Cell} → IsRow heap.space heap.words from to made → (at : ℕ)
    → IsSlotOfOne made at → (from ≤ at) × (at < to)
row_within heap {from} {to} {made} row at slot =
    let cell : Cell = slot.cell in
    let within = cell_within heap.space heap.words from to made cell row slot.among in
    let is_cell = (rows_part_around heap.space heap.words from to made cell row slot.among).is_cell in
    let inside = slots_lie_within heap.space heap.words cell slot.slot.offset is_cell slot.slot.visited in
    let stands = slot.slot.stands in (
      omega (arith, within.0, stands),
      omega (arith, within.1, stands, inside.within),
    )

-- a touch that fits is that of a slot's word only at a slot
fits_stored : (made : List Cell) (at : ℕ) (how : Touch) → FitsTouch made made at how → how ≡ Touch.Stored
    → IsSlotOfOne made at
fits_stored made at how fits is = (subst (FitsTouch made made at) is fits).1

-- and at a slot it is one, unless it keeps it
slot_stored : (made : List Cell) (at : ℕ) (how : Touch) → FitsTouch made made at how → (how ≡ Touch.Kept → ⊥)
    → IsSlotOfOne made at → how ≡ Touch.Stored
slot_stored made at Touch.Kept fits touched slot = absurd (touched refl)
slot_stored made at Touch.Stored fits touched slot = refl
slot_stored made at Touch.Wiped fits touched slot = absurd (fits.1 slot)

-- Where cells stand in the run, and each of its addresses of pages fits them, and each slot of these was put, the run
-- was touched as it has to be.
pub made_touched : {old new : Heap} {from to : ℕ} (made : List Cell) (touch : ℕ → Touch) → IsRunOf old new from to
    → IsRow new.space new.words from to made
    → ((at : ℕ) → at < eden_start old.space → from ≤ at → at < to → FitsTouch made made at (touch at))
    → ((at : ℕ) → at < eden_start old.space → IsSlotOfOne made at → touch at ≡ Touch.Kept → ⊥)
    → TouchesMade old from to made touch
made_touched {new = new} made touch run row fits put = record {
  fillers = run_fillers run;
  covers = row_covers new row;
  within = row_within new row;
  stored = λ at below above before is. fits_stored made at (touch at) (fits at below above before) is;
  slots = λ at below slot.
      let within = row_within new row at slot in
      slot_stored made at (touch at) (fits at below within.0 within.1) (put at below slot) slot;
}

-- The slots of the cell, a store or a table, are so many words behind its head.
pub record HasSlotsBehind (cell : Cell) (many : ℕ) : Type 0 where
  pub head : store_head ≤ cell.size
  pub slots : (at : ℕ) → IsSlotOf cell at → IsBehindHead cell many at
  pub words : (at : ℕ) → IsBehindHead cell many at → IsSlotOf cell at

-- those of a store are as many as its length
pub store_slots_behind : (cell : Cell) → cell.layout.kind ≡ kind.Store → store_head ≤ cell.size
    → HasSlotsBehind cell cell.length
store_slots_behind cell of_kind head = record {
  head = head;
  slots = λ at slot. slot_of_store of_kind slot;
  words = λ at behind. store_has_slot of_kind behind;
}

-- those of a table are twice as many
pub table_slots_behind : (cell : Cell) → cell.layout.kind ≡ kind.Table → store_head ≤ cell.size
    → HasSlotsBehind cell (2 * cell.length)
table_slots_behind cell of_kind head = record {
  head = head;
  slots = λ at slot. slot_of_table of_kind slot;
  words = λ at behind. table_has_slot of_kind behind;
}

module _ {heap : Heap} (made : List Cell) (rows : HasRows heap)
    (stand : (cell : Cell) → Contains made cell → HasCell heap cell (words_of_cell heap cell)) where
  -- a slot of a cell that was made fits where a slot's word was put
  pub made_slot_fits : {at : ℕ} (cell : Cell) → Contains made cell → IsSlotOf cell at
      → FitsTouch made made at Touch.Stored
  made_slot_fits cell among slot = slot_fits (stand cell among) among among slot

  -- and a word that is no slot where no slot's was
  pub made_word_fits : {at : ℕ} (cell : Cell) → Contains made cell → IsOfCell cell at → (IsSlotOf cell at → ⊥)
      → FitsTouch made made at Touch.Wiped
  made_word_fits cell among of_cell none =
      word_fits cell cell rows stand among of_cell (stand cell among) of_cell none

  -- the words of a box fit
  box_fits : (box at : ℕ) → Contains made (box_cell box)
      → FitsTouch made made at (touched Touch.Wiped box (box + box_words) at)
  box_fits box at among =
      fits_range made made Touch.Wiped box (box + box_words) at (λ begins ends.
      made_word_fits (box_cell box) among (record { from = begins; below = ends }) (λ slot. box_has_no_slots refl slot))

  -- so does what making the box of what a slot comes to hold touches
  pub made_content_fits : (holds : SlotContent) (box at : ℕ)
      → ((cell : Cell) → Contains (made_boxes holds box) cell → Contains made cell)
      → FitsTouch made made at (content_touch holds box at)
  made_content_fits (content.Tagged word) box at among = tt
  made_content_fits (content.Raw word) box at among = tt
  made_content_fits (content.Boxed v) box at among =
      box_fits box at (among (box_cell box) (first_in (box_cell box) []))

  module _ (first : Cell) (many : ℕ) (among : Contains made first) (behind : HasSlotsBehind first many) where
    -- the head of a store or a table fits
    pub made_head_fits : (at : ℕ) → FitsTouch made made at (touched Touch.Wiped first.at (first.at + store_head) at)
    made_head_fits at =
        fits_range made made Touch.Wiped first.at (first.at + store_head) at (λ begins ends.
        made_word_fits first among (record { from = begins; below = omega (arith, ends, behind.head) })
        (λ slot. let from = (behind.slots at slot).from in omega (arith, from, ends)))

    -- and so do its slots, and some of them
    pub made_slots_fit : (from to at : ℕ) → first.at + store_head ≤ from → to ≤ first.at + (store_head + many)
        → FitsTouch made made at (touched Touch.Stored from to at)
    made_slots_fit from to at above below =
        fits_range made made Touch.Stored from to at (λ begins ends.
        made_slot_fits first among (behind.words at (record {
          from = omega (arith, above, begins);
          below = omega (arith, below, ends);
        })))

    -- so what making it touches fits
    pub made_store_fits : (at : ℕ) → FitsTouch made made at (store_touch many first.at at)
    made_store_fits at =
        let from : ℕ = first.at + store_head in
        let to : ℕ = first.at + (store_head + many) in
        fits_then made made (touched Touch.Wiped first.at from) (touched Touch.Stored from to) at (made_head_fits at)
        (made_slots_fit from to at (omega arith) (omega arith))

-- a slot of a store or a table with a box is none of the box
slot_of_first : {at : ℕ} (first : Cell) (holds : SlotContent) (box : ℕ)
    → IsSlotOfOne (first ∷ made_boxes holds box) at → IsSlotOf first at
slot_of_first first holds box slot = elim (slot_of_one_cases first (made_boxes holds box) slot) [
  | inl own ↦ own
  | inr other ↦ absurd (box_has_no_slots (made_boxed holds box other.cell other.among) other.slot)
]

-- in the touch of its slots none of them is kept
pub store_touched : (many at one : ℕ) → at + store_head ≤ one → one < at + (store_head + many)
    → store_touch many at one ≡ Touch.Kept → ⊥
store_touched many at one above below kept =
    let from : ℕ = at + store_head in
    let to : ℕ = at + (store_head + many) in
    let next = (then_kept (touched Touch.Wiped at from) (touched Touch.Stored from to) one kept).1 in
    let is : Touch.Stored ≡ Touch.Kept = sym (touched_inside Touch.Stored from to one above below) ∙ next in
    cc

-- Where a store or a table was made, and the box of what a slot comes to hold behind it, each of its slots was put, and
-- each address of the run fits, the run was touched as it has to be.
pub first_touched : {old new : Heap} {from to : ℕ} (first : Cell) (many : ℕ) (holds : SlotContent) (box : ℕ)
    (touch : ℕ → Touch) → HasSlotsBehind first many → IsRunOf old new from to
    → IsRow new.space new.words from to (first ∷ made_boxes holds box)
    → ((at : ℕ) → at < eden_start old.space → from ≤ at → at < to
    → FitsTouch (first ∷ made_boxes holds box) (first ∷ made_boxes holds box) at (touch at))
    → ((at : ℕ) → at < eden_start old.space → IsBehindHead first many at → touch at ≡ Touch.Kept → ⊥)
    → TouchesMade old from to (first ∷ made_boxes holds box) touch
first_touched first many holds box touch behind run row fits put =
    made_touched (first ∷ made_boxes holds box) touch run row fits
    (λ at below slot. put at below (behind.slots at (slot_of_first first holds box slot)))

-- Where this box alone was made, if it is needed, it has no slots.
pub box_touched : {old new : Heap} {from to : ℕ} (holds : SlotContent) (box : ℕ) (touch : ℕ → Touch)
    → IsRunOf old new from to → IsRow new.space new.words from to (made_boxes holds box)
    → ((at : ℕ) → at < eden_start old.space → from ≤ at → at < to
    → FitsTouch (made_boxes holds box) (made_boxes holds box) at (touch at))
    → TouchesMade old from to (made_boxes holds box) touch
box_touched holds box touch run row fits =
    made_touched (made_boxes holds box) touch run row fits
    (λ at below slot. absurd (box_has_no_slots (made_boxed holds box slot.cell slot.among) slot.slot))
