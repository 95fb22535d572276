-- The store of a list that may change: where it ends, and that the list's cell refers to it.
use Rattle.std.proofs.Common.{ℕ, ◌+◌, ◌≤◌, ◌<◌, IsTrue, Some, unwrap_or, sym, ◌∙◌, ap, subst, arith}
use Rattle.tagged_word.specs.Cells.{is_object_kind, store_head, store_slot, length_offset}
use Rattle.page_space.specs.Extents.{marks_start}
use Rattle.heap_model.specs.Types.{Cell}
use Rattle.heap_model.specs.Needs.{word_at}
use Rattle.heap_model.proofs.CellsApart.{IsOfCell, cells_apart}
use Rattle.mark_world.specs.declared.event.Event.TheVariants as event
use Rattle.object_graph.specs.Graphs.{Graph, ListObject}
use Rattle.object_graph.specs.Reach.{is_marked, reach}
use Rattle.write_barrier.specs.Marking.{MayPut}
use Rattle.write_barrier.specs.MutatorState.{MainShows, Mutator, heap_of}
use Rattle.object_cells.specs.declared.stores.Store.{Store}
use Rattle.object_cells.specs.Made.{IsStoreAt}
use Rattle.object_cells.proofs.CellsRead.{word_stands}
use Rattle.object_cells.specs.ListObjects.{IsListAt, IsListReady}
use Rattle.object_cells.proofs.CalmCells.{owned_may_blacken}
use Rattle.object_cells.proofs.ListCells.{list_shown, sound_at, store_has_room}
use Rattle.object_cells.proofs.ListChanging.{list_is_no_store}
use Rattle.object_cells.proofs.ListsInCycle.{list_in_cells, list_may_change, list_store_may_change, store_in_cells}
use Rattle.object_cells.proofs.OwnCells.{list_size}
use Rattle.object_cells.proofs.StoresRead.{stored_at}
use Rattle.array_trim.specs.TrimSteps.{MayTrim}
use Rattle.array_trim.specs.TrimWords.{HasStoreAt}
use Rattle.array_trim.proofs.TrimMoves.{MayBegin}

-- a store that has a slot is the one to which the list's cell refers
pub store_named : {main : Mutator} {list count : ℕ} (store : Store) → IsListReady main list count
    → IsStoreAt (heap_of main) list store → 0 < store.capacity → HasStoreAt main list store.at
store_named {main} store ready is some =
    let there = ready.there in
    let sound = sound_at ready.whole there in
    ap (λ n. word_at (heap_of main) (n + store_slot)) (sym there.stands)
    ∙ ap (λ found. unwrap_or found 0) (word_stands store_slot sound.store there.has sound.slot)
    ∙ is.refers there.cell there.words sound.beside sound.store there.has there.stands sound.slot sound.stands some

-- both words before the slots are before the marks, of the store itself and of one that begins some elements later
pub head_within : {main : Mutator} {list count : ℕ} (store : Store) (gone : ℕ) → IsListReady main list count
    → IsStoreAt (heap_of main) list store → gone ≤ count
    → store.at + gone + length_offset < marks_start main.seat.space
head_within store gone ready is few = omega (arith, is.within, store_has_room store ready is, few)

-- so is the length of the store itself
pub length_within : {main : Mutator} {list count : ℕ} (store : Store) → IsListReady main list count
    → IsStoreAt (heap_of main) list store → store.at + length_offset < marks_start main.seat.space
length_within store ready is = omega (arith, is.within)

-- no word of the list's cell is one of its store
pub list_beside_store : {main : Mutator} {list count : ℕ} (store : Store) (a : ℕ) → IsListReady main list count
    → IsStoreAt (heap_of main) list store → 0 < store.capacity → list ≤ a → a < list + 3 → store.at ≤ a
    → a < store.at + (store_head + store.capacity) → ⊥
list_beside_store {main} {list} store a ready is some from below from_too below_too =
    let there = ready.there in
    let sound = sound_at ready.whole there in
    let stored = stored_at list sound.store sound.beside store is there.has there.stands sound.slot sound.stands some in
    let found = stored.found in
    let of_list : IsOfCell there.cell a = record {
      from = omega (arith, from, there.stands);
      below = omega (arith, below, there.stands, list_size there.has there.of_kind);
    } in
    let of_store : IsOfCell found.cell a = record {
      from = omega (arith, from_too, found.stands);
      below = omega (arith, below_too, found.stands, found.size, stored.capacity);
    } in
    let one = cells_apart a ready.whole.rows there.has found.refers.has of_list of_store in
    list_is_no_store there.of_kind (ap (λ (c : Cell). c.layout.kind) one ∙ found.of_kind)

-- the first step of a trim may be made
pub may_begin : {main : Mutator} {list count : ℕ} (store : Store) → IsListReady main list count
    → IsStoreAt (heap_of main) list store → 0 < store.capacity → MayTrim main list
    → MayBegin main list store.at store.capacity
may_begin {list = list} store ready is some may = record {
  of_list = may.of_list;
  of_store = may.of_store store is some;
  black = may.black store is some;
  list_in = list_in_cells ready.whole ready.there;
  store_in = store_in_cells list store ready.whole is some;
}

-- and it may be where a list is shown
pub may_trim : {main : Mutator} {graph : Graph} {at : ℕ} {list : ListObject} → MainShows main graph
    → IsListAt main graph at list → MayTrim main at
may_trim {main} {graph} {at} shows is =
    let shown = list_shown shows is in
    record {
      of_list = list_may_change shows shown;
      of_store = λ store is_store some. list_store_may_change store shows shown is_store some;
      black = λ store is_store some.
          let found = (stored_at at shown.shows.store shown.shows.slots store is_store shown.has shown.stands
          shown.shows.slot shown.shows.has some).found in
          subst (λ n. MayPut main n (event.Blacken n)) found.stands
          (owned_may_blacken shows shown.has (ap is_object_kind shown.shows.of_kind)
          (subst (λ n. IsTrue (is_marked (reach graph) n)) (sym shown.carries) is.reached)
          (shown.shows.slot ∙ ap Some found.refers.refers) found.refers.has);
    }
