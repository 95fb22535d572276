-- Which words of a list's cells are touched where an element is put in its store: its slot there, and the list's slot
-- for a store and its length. Each fits the cells, which stay.
use Rattle.std.proofs.Common.{◌≡◌, ℕ, ◌+◌, ◌<◌, List, ◌∷◌, Contains, ap, subst, arith}
use Rattle.tagged_word.specs.declared.layout.Kind.TheVariants as kind
use Rattle.tagged_word.specs.Cells.{store_head, store_slot, is_object_kind}
use Rattle.tagged_word.proofs.Members.{first_in, rest_in}
use Rattle.object_graph.specs.Graphs.{ListObject}
use Rattle.heap_model.specs.Types.{Cell}
use Rattle.heap_model.specs.Heaps.{Heap, HasCell, words_of_cell}
use Rattle.heap_model.specs.Kinds.{count_offset}
use Rattle.heap_model.specs.Remembered.{IsSlotOf, Touch}
use Rattle.heap_model.specs.Wholeness.{Whole}
use Rattle.write_barrier.specs.Recording.{touched_one}
use Rattle.object_cells.proofs.FittingCells.{slot_fits, word_fits}
use Rattle.object_cells.proofs.ListCells.{ListShown}
use Rattle.object_cells.proofs.ListChanging.{list_word}
use Rattle.object_cells.proofs.SlotsOfCells.{all_stand}
use Rattle.object_cells.proofs.TouchedCells.{FitsTouch, fits_one}
use Rattle.object_cells.proofs.TouchedOffsets.{list_slot, object_store_slot, store_has_slot}

module _ {heap : Heap} {at : ℕ} {list : ListObject} (others : List Cell) (whole : Whole heap)
    (shown : ListShown heap at list)
    (stand : (one : Cell) → Contains others one → HasCell heap one (words_of_cell heap one)) where
  -- the list's cell, and those beside it
  abbrev cells : List Cell
  cells = shown.cell ∷ others

  -- all of them stand in the heap
  cells_stand : (one : Cell) → Contains cells one → HasCell heap one (words_of_cell heap one)
  cells_stand = all_stand shown.cell others shown.has stand

  -- the list's length fits where it is wiped: it is no slot
  pub count_fits : (a : ℕ) → FitsTouch cells cells a (touched_one Touch.Wiped (at + count_offset) a)
  count_fits a =
      let of_cell = list_word 2 shown (omega arith) in
      fits_one cells cells Touch.Wiped (at + count_offset) a
      (word_fits shown.cell shown.cell whole.rows cells_stand (first_in shown.cell others) of_cell shown.has of_cell
      (λ slot. omega (arith, list_slot shown.shows.of_kind slot, shown.stands)))

  -- its slot for a store fits where it is stored
  pub store_fits : (a : ℕ) → FitsTouch cells cells a (touched_one Touch.Stored (at + store_slot) a)
  store_fits a =
      let among = first_in shown.cell others in
      let slot : IsSlotOf shown.cell (at + store_slot) =
      subst (λ n. IsSlotOf shown.cell (n + store_slot)) shown.stands
      (object_store_slot shown.cell (ap is_object_kind shown.shows.of_kind)) in
      fits_one cells cells Touch.Stored (at + store_slot) a (slot_fits shown.has among among slot)

  -- and so does a slot of a store beside it
  pub element_fits : {store : Cell} (slot a : ℕ) → Contains others store → store.layout.kind ≡ kind.Store
      → slot < store.length
      → FitsTouch cells cells a (touched_one Touch.Stored (store.at + (store_head + slot)) a)
  element_fits {store} slot a there of_kind below =
      let among = rest_in shown.cell others store there in
      let is : IsSlotOf store (store.at + (store_head + slot)) =
      store_has_slot of_kind (record { from = omega arith; below = omega (arith, below) }) in
      fits_one cells cells Touch.Stored (store.at + (store_head + slot)) a
      (slot_fits (stand store there) among among is)
