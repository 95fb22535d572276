-- The store of a list that is shown, as a trim of it finds it.
use Rattle.std.proofs.Common.{◌≡◌, ℕ, ◌+◌, ◌<◌, ◌≤◌, length, Some, slice_get, unwrap_or}
use Rattle.std.proofs.Common.{inl, sym, ◌∙◌, ap, subst, arith, length-drop}
use Rattle.std.proofs.lemmas.Option.{same_Some}
use Rattle.tagged_word.specs.declared.layout.Kind.TheVariants as kind
use Rattle.tagged_word.specs.Cells.{store_slot, store_head}
use Rattle.object_graph.specs.Graphs.{Graph, ListObject}
use Rattle.page_space.specs.Sizes.{AreWithin}
use Rattle.page_space.specs.Extents.{layouts_start}
use Rattle.heap_model.specs.Types.{Cell}
use Rattle.write_barrier.specs.Seats.{heap_words}
use Rattle.heap_model.specs.Heaps.{Heap, words_of_cell}
use Rattle.heap_model.specs.Slots.{RefersTo}
use Rattle.heap_model.specs.Needs.{capacity_at}
use Rattle.heap_model.specs.Wholeness.{Whole}
use Rattle.heap_model.proofs.CellsApart.{IsOfCell, cells_apart}
use Rattle.write_barrier.specs.MutatorState.{Mutator, heap_of, MainShows}
use Rattle.object_cells.specs.ListObjects.{IsListAt}
use Rattle.object_cells.proofs.CellsRead.{word_stands, cell_before_marks}
use Rattle.object_cells.proofs.KeptCapacities.{capacity_of_store}
use Rattle.object_cells.proofs.ListSlots.{list_sound}
use Rattle.object_cells.proofs.OwnCells.{list_size, cell_below_layouts}
use Rattle.object_cells.proofs.OwnPlaces.{has_own_words}
use Rattle.heap_model.proofs.OneBeside.{one_beside}
use Rattle.object_cells.proofs.StoresRead.{IsFoundStore, found_store}
use Rattle.object_cells.proofs.WordsTold.{cell_fits}
use Rattle.object_cells.proofs.ListCells.{ListShown, list_shown}
use Rattle.object_cells.proofs.ListChanging.{list_is_no_store}
use Rattle.array_trim.specs.TrimWords.{HasStoreAt}

-- A list is shown, and its store of so many slots stands at the address.
pub record ListStored (main : Mutator) (at : ℕ) (list : ListObject) (store : ℕ) : Type 0 where
  pub whole : Whole (heap_of main)
  pub shown : ListShown (heap_of main) at list
  pub cell : Cell
  pub refers : RefersTo (heap_of main) shown.shows.store cell (words_of_cell (heap_of main) cell)
  pub of_kind : cell.layout.kind ≡ kind.Store
  pub stands : cell.at ≡ store
  pub capacity : capacity_at (heap_of main) at ≡ cell.length
  pub size : cell.size ≡ store_head + cell.length
  pub room : length list.elements ≤ cell.length

module _ {main : Mutator} {graph : Graph} {at : ℕ} {list : ListObject} (store : ℕ) (shows : MainShows main graph)
    (is : IsListAt main graph at list) (within : AreWithin main.seat.space.sizes main.seat.space.variables)
    (has : HasStoreAt main at store) where
  -- the heap
  abbrev heap : Heap
  heap = heap_of main

  -- the list's cell
  shown : ListShown heap at list
  shown = list_shown shows is

  -- the word of its slot for a store
  slot_stands : slice_get heap.words (at + store_slot) ≡ Some shown.shows.store
  slot_stands =
      ap (λ n. slice_get heap.words (n + store_slot)) (sym shown.stands)
      ∙ word_stands store_slot shown.shows.store shown.has shown.shows.slot

  -- refers to the store at the address
  found : IsFoundStore heap shown.shows.store shown.shows.slots store
  found =
      found_store shown.shows.store shown.shows.slots store shown.shows.has
      (sym (ap (λ word. unwrap_or word 0) slot_stands) ∙ has)

  -- which has so many slots
  has_capacity : capacity_at heap at ≡ found.cell.length
  has_capacity =
      capacity_of_store at found.refers.has (inl found.of_kind)
      (cell_fits shows.shows.whole.sized within found.refers.has) (slot_stands ∙ ap Some found.refers.refers)

  -- of which there is one for each element
  has_room : length list.elements ≤ found.cell.length
  has_room =
      let sound = list_sound shows.shows.whole shown.has shown.shows.of_kind in
      let same : sound.store ≡ shown.shows.store =
      same_Some sound.store shown.shows.store (sym sound.slot ∙ shown.shows.slot) in
      let slots = one_beside sound.store shown.shows.store sound.beside shown.shows.slots same sound.stands
      shown.shows.has in
      omega (
        arith,
        sound.hold.room,
        same_Some sound.count (length list.elements) (sym sound.counted ∙ shown.shows.counted),
        ap length slots,
        ap length found.are,
        length-drop store_head found.words,
        found.long,
      )

  -- so the list's store is found
  pub list_stored : ListStored main at list store
  list_stored = record {
    whole = shows.shows.whole;
    shown = shown;
    cell = found.cell;
    refers = record { refers = found.refers.refers; has = has_own_words found.refers.has };
    of_kind = found.of_kind;
    stands = found.stands;
    capacity = has_capacity;
    size = found.size;
    room = has_room;
  }

module _ {main : Mutator} {at store : ℕ} {list : ListObject} (stored : ListStored main at list store) where
  -- a word of the list's cell, by its address
  pub of_list : (a : ℕ) → at ≤ a → a < at + 3 → IsOfCell stored.shown.cell a
  of_list a from below = record {
    from = omega (arith, from, stored.shown.stands);
    below = omega (arith, below, stored.shown.stands, list_size stored.shown.has stored.shown.shows.of_kind);
  }

  -- a word of its store
  pub of_store : (a : ℕ) → store ≤ a → a < store + (store_head + stored.cell.length) → IsOfCell stored.cell a
  of_store a from below = record {
    from = omega (arith, from, stored.stands);
    below = omega (arith, below, stored.stands, stored.size);
  }

  -- no word is one of both
  pub words_apart : (a b : ℕ) → at ≤ a → a < at + 3 → store ≤ b → b < store + (store_head + stored.cell.length)
      → a ≡ b
      → ⊥
  words_apart a b from below from_too below_too same =
      let of_cell : IsOfCell stored.shown.cell b = subst (IsOfCell stored.shown.cell) same (of_list a from below) in
      let of_other = of_store b from_too below_too in
      let one = cells_apart b stored.whole.rows stored.shown.has stored.refers.has of_cell of_other in
      list_is_no_store stored.shown.shows.of_kind (ap (λ (c : Cell). c.layout.kind) one ∙ stored.of_kind)

  -- each word of the list's cell is one of the heap's
  pub list_in_words : at + 3 ≤ length (heap_words main.seat)
  list_in_words =
      omega (
        arith,
        cell_before_marks stored.whole.sized stored.shown.has,
        stored.whole.sized.words,
        stored.shown.stands,
        list_size stored.shown.has stored.shown.shows.of_kind,
      )

  -- and each of its store
  pub store_in_words : store + (store_head + stored.cell.length) ≤ length (heap_words main.seat)
  store_in_words =
      omega (
        arith,
        cell_before_marks stored.whole.sized stored.refers.has,
        stored.whole.sized.words,
        stored.stands,
        stored.size,
      )

  -- the list's cell ends before the layout words
  pub list_before_layouts : at + 3 ≤ layouts_start main.seat.space
  list_before_layouts =
      omega (arith, cell_below_layouts stored.whole stored.shown.has (of_list (at + 2) (omega arith) (omega arith)))

  -- and so does its store
  pub store_before_layouts : store + (store_head + stored.cell.length) ≤ layouts_start main.seat.space
  store_before_layouts =
      let last : ℕ = store + (1 + stored.cell.length) in
      omega (arith, cell_below_layouts stored.whole stored.refers.has (of_store last (omega arith) (omega arith)))
