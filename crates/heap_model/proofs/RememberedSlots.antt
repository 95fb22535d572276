-- The slots of cells of pages: they stand before eden, and are slots of what stands or came.
use Rattle.std.proofs.Common.{◌≡◌, ℕ, ◌+◌, ◌*◌, ◌/◌, ◌≤◌, ◌<◌, List, Contains, slice_get, refl, ◌∙◌, arith}
use Rattle.page_space.specs.declared.region.Region.TheVariants.{Page}
use Rattle.page_space.specs.Sizes.{page_words}
use Rattle.page_space.specs.Extents.{eden_start}
use Rattle.page_space.proofs.CellAddresses.{in_page, page_ends, cells_end}
use Rattle.page_space.proofs.CellEnds.{end_once}
use Rattle.cell_layout.proofs.OneCell.{slots_lie_within}
use Rattle.heap_model.specs.Types.{Cell}
use Rattle.heap_model.specs.Heaps.{Heap, HasCell, words_of_cell}
use Rattle.heap_model.specs.Wholeness.{Whole}
use Rattle.heap_model.specs.Remembered.{IsSlotOf, IsPageSlot, RefersToYoung, IsSlotOfOne}
use Rattle.heap_model.proofs.CellsApart.{IsOfCell, has_is_cell}

-- a cell of a page ends before eden
pub ends_in_page : {heap : Heap} {cell : Cell} {words : List ℕ} → HasCell heap cell words
    → cell.at < eden_start heap.space → cell.at + cell.size ≤ eden_start heap.space
ends_in_page {heap} {cell} has below =
    let space = heap.space in
    let is_cell = has_is_cell has in
    let page : ℕ = cell.at / page_words in
    let in_one = in_page space cell.at below in
    let end : ℕ = page_words * page + page_words in
    let same : is_cell.end ≡ end = end_once space cell.at is_cell.end end is_cell.stands
    (cells_end space (Page page) cell.at end refl in_one refl) in
    omega (arith, is_cell.reads.ends, same, page_ends space page in_one.is_region)

-- a slot of a cell is one of its addresses
pub slot_of_cell : {heap : Heap} {cell : Cell} {words : List ℕ} {at : ℕ} → HasCell heap cell words → IsSlotOf cell at
    → IsOfCell cell at
slot_of_cell {heap} {cell} has slot =
    let within = slots_lie_within heap.space heap.words cell slot.offset (has_is_cell has) slot.visited in
    record { from = omega (arith, slot.stands); below = omega (arith, slot.stands, within.within) }

-- a slot of a cell of a page stands before eden
pub page_slot_below : {heap : Heap} {at : ℕ} → IsPageSlot heap at → at < eden_start heap.space
page_slot_below slot =
    omega (arith, (slot_of_cell slot.has slot.slot).below, ends_in_page slot.has slot.of_page)

-- so it does in a whole heap
pub slots_below : {heap : Heap} {at : ℕ} → Whole heap → IsPageSlot heap at → at < eden_start heap.space
slots_below whole slot = page_slot_below slot

-- before eden, a slot of one of these cells is one of a page's, where all of them stand in the heap
pub page_slot_of_one : {heap : Heap} {cells : List Cell} {at : ℕ}
    → ((cell : Cell) → Contains cells cell → HasCell heap cell (words_of_cell heap cell))
    → at < eden_start heap.space → IsSlotOfOne cells at → IsPageSlot heap at
page_slot_of_one {heap} stand below one =
    let has = stand one.cell one.among in
    record {
      cell = one.cell;
      words = words_of_cell heap one.cell;
      has = has;
      of_page = omega (arith, (slot_of_cell has one.slot).from, below);
      slot = one.slot;
    }

-- a word that stays refers to a young cell where it did
pub refers_to_young_stays : {eden : ℕ} {old new : List ℕ} {at : ℕ} → slice_get new at ≡ slice_get old at
    → RefersToYoung eden old at → RefersToYoung eden new at
refers_to_young_stays same young = record {
  word = young.word;
  stands = same ∙ young.stands;
  cell = young.cell;
  refers = young.refers;
  young = young.young;
}
