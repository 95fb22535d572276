-- The cells of lists, by their addresses, and the stores beside them.
use Rattle.std.proofs.Common.{◌≡◌, ℕ, ◌+◌, ◌≤◌, ◌<◌, length, Some}
use Rattle.std.proofs.Common.{slice_get, unwrap_or, sym, ◌∙◌, ap, subst, arith}
use Rattle.std.proofs.lemmas.Option.{same_Some}
use Rattle.page_space.specs.Extents.{marks_start}
use Rattle.object_graph.specs.declared.object.Object.TheVariants.{List as ListOf}
use Rattle.object_graph.specs.Graphs.{Graph, ListObject}
use Rattle.heap_model.specs.Types.{Cell}
use Rattle.heap_model.specs.Heaps.{Heap, HasCell, words_of_cell}
use Rattle.heap_model.specs.Kinds.{HasWord, IsListCell, count_offset}
use Rattle.heap_model.specs.Wholeness.{Whole}
use Rattle.heap_model.specs.Showing.{ShowsList}
use Rattle.write_barrier.specs.MutatorState.{Mutator, heap_of, MainShows}
use Rattle.object_cells.specs.declared.stores.Store.{Store}
use Rattle.object_cells.specs.ListObjects.{IsListAt, IsListCellAt, IsListReady}
use Rattle.object_cells.specs.Made.{HasStoreSlot, IsStoreAt}
use Rattle.object_cells.proofs.CellsRead.{word_before_marks, word_stands}
use Rattle.object_cells.proofs.ListSlots.{list_sound}
use Rattle.object_cells.proofs.PlainFields.{shown_whole}
use Rattle.heap_model.specs.Needs.{count_at}

-- the cell of a list at an address is sound
pub sound_at : {heap : Heap} {at : ℕ} → Whole heap → (there : IsListCellAt heap at) → IsListCell heap there.words
sound_at whole there = list_sound whole there.has there.of_kind

-- what is read at its length is how many elements it has
pub count_read : {heap : Heap} {at : ℕ} (count read : ℕ) (there : IsListCellAt heap at)
    → HasWord there.words count_offset count → slice_get heap.words (at + count_offset) ≡ Some read → read ≡ count
count_read {heap} count read there counted reads =
    same_Some read count (sym reads ∙ ap (λ n. slice_get heap.words (n + count_offset)) (sym there.stands)
    ∙ word_stands count_offset count there.has counted)

-- so many are counted
pub count_is : {heap : Heap} {at : ℕ} (count : ℕ) (there : IsListCellAt heap at)
    → HasWord there.words count_offset count
    → count_at heap at ≡ count
count_is {heap} count there counted =
    ap (λ n. count_at heap n) (sym there.stands)
    ∙ ap (λ found. unwrap_or found 0) (word_stands count_offset count there.has counted)

-- so are those of its slot for a store and of its length
pub slot_within : {heap : Heap} {at : ℕ} → Whole heap → IsListCellAt heap at → at + 1 < marks_start heap.space
slot_within whole there =
    let sound = sound_at whole there in
    word_before_marks 1 sound.store whole.sized there.has there.stands sound.slot

-- the word of its length is before the marks
pub count_within : {heap : Heap} {at : ℕ} → Whole heap → IsListCellAt heap at → at + 2 < marks_start heap.space
count_within whole there =
    let sound = sound_at whole there in
    word_before_marks 2 sound.count whole.sized there.has there.stands sound.counted

-- it has a slot for a store
pub list_beside : {heap : Heap} {at : ℕ} → Whole heap → IsListCellAt heap at → HasStoreSlot heap at
list_beside whole there =
    let sound = sound_at whole there in
    record {
      cell = there.cell;
      words = there.words;
      has = there.has;
      stands = there.stands;
      word = sound.store;
      slot = sound.slot;
      beside = sound.beside;
      are = sound.stands;
    }

-- the store has slots for all elements
pub store_has_room : {main : Mutator} {list count : ℕ} (store : Store) → IsListReady main list count
    → IsStoreAt (heap_of main) list store → count ≤ store.capacity
store_has_room store ready is =
    let there = ready.there in
    let sound = sound_at ready.whole there in
    omega (
      arith,
      sound.hold.room,
      is.slots there.cell there.words sound.beside sound.store there.has there.stands sound.slot sound.stands,
      count_is sound.count there sound.counted,
      ready.counted,
    )

-- the list's cell stands at the address and shows it
pub record ListShown (heap : Heap) (at : ℕ) (list : ListObject) : Type 0 where
  pub cell : Cell
  pub has : HasCell heap cell (words_of_cell heap cell)
  pub stands : cell.at ≡ at
  pub carries : cell.header.object ≡ list.number
  pub shows : ShowsList heap cell (words_of_cell heap cell) list.elements

-- so it is where a graph with the list is shown
pub list_shown : {main : Mutator} {graph : Graph} {at : ℕ} {list : ListObject} → MainShows main graph
    → IsListAt main graph at list → ListShown (heap_of main) at list
list_shown {main} {at = at} {list} shows is =
    let heap = heap_of main in
    let shown = shows.shows.reached list.number (ListOf list.elements) is.object is.reached in
    let same = sym shown.has.words_are in
    record {
      cell = shown.cell;
      has = subst (HasCell heap shown.cell) same shown.has;
      stands = sym (shown.once at is.place);
      carries = shown.carries;
      shows = subst (λ words. ShowsList heap shown.cell words list.elements) same shown.shows;
    }

-- its cell is there
pub shown_there : {heap : Heap} {at : ℕ} {list : ListObject} → ListShown heap at list → IsListCellAt heap at
shown_there {heap} shown = record {
  cell = shown.cell;
  words = words_of_cell heap shown.cell;
  has = shown.has;
  stands = shown.stands;
  of_kind = shown.shows.of_kind;
}

-- and a slot for a store
pub shown_beside : {heap : Heap} {at : ℕ} {list : ListObject} → ListShown heap at list → HasStoreSlot heap at
shown_beside {heap} shown = record {
  cell = shown.cell;
  words = words_of_cell heap shown.cell;
  has = shown.has;
  stands = shown.stands;
  word = shown.shows.store;
  slot = shown.shows.slot;
  beside = shown.shows.slots;
  are = shown.shows.has;
}

-- it has as many elements as are counted
pub count_shown : {heap : Heap} {at : ℕ} {list : ListObject} → ListShown heap at list
    → count_at heap at ≡ length list.elements
unfolding shown_there
count_shown {list = list} shown = count_is (length list.elements) (shown_there shown) shown.shows.counted

-- so the list may change
pub shown_ready : {main : Mutator} {graph : Graph} {at count : ℕ} {list : ListObject} → MainShows main graph
    → ListShown (heap_of main) at list → count ≡ count_at (heap_of main) at → IsListReady main at count
shown_ready shows shown counted = record {
  tied = shows.tied;
  whole = shown_whole shows;
  there = shown_there shown;
  counted = sym counted;
}
