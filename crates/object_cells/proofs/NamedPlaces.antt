-- The places that indices name in a list, and their slots.
use Rattle.std.proofs.Common.{◌≡◌, ℕ, ◌+◌, ◌<◌, length, get_or, Option, Some}
use Rattle.std.proofs.Common.{ℤ, slice_get, sym, ◌∙◌, ap, subst, arith}
use Rattle.std.proofs.Common.{to_z, of_z}
use Rattle.std.specs.Prelude.{FitsSigned}
use Rattle.std.specs.Int.{w64}
use Rattle.std.proofs.lemmas.Int.{to_z-of_z}
use Rattle.std.proofs.lemmas.Option.{slice_get-get_or, same_Some}
use Rattle.tagged_word.specs.Cells.{store_head}
use Rattle.page_space.specs.Extents.{marks_start}
use Rattle.object_graph.specs.declared.value.Value.TheVariants.{Undefined}
use Rattle.object_graph.specs.Graphs.{ListObject}
use Rattle.object_graph.specs.Meaning.{below}
use Rattle.heap_model.specs.Heaps.{Heap}
use Rattle.heap_model.specs.Wholeness.{Whole}
use Rattle.heap_model.specs.Showing.{ShowsValue}
use Rattle.write_barrier.specs.MutatorState.{Mutator, heap_of}
use Rattle.object_cells.specs.declared.stores.Store.{Store}
use Rattle.object_cells.specs.Made.{IsStoreAt}
use Rattle.heap_model.specs.Needs.{count_at}
use Rattle.object_cells.specs.ListObjects.{IsListReady}
use Rattle.object_cells.proofs.ListCells.{ListShown, count_shown, store_has_room}
use Rattle.object_cells.proofs.ElementsRead.{slot_read}

-- what was found of an index below one number is what is found below a number that is the same
pub named_below : (most wanted : ℕ) (index : ℤ) (found : Option ℕ) → wanted ≡ most → FitsSigned w64 index
    → found ≡ below most (to_z w64 (of_z w64 index)) → below wanted index ≡ found
named_below most wanted index found same fits is =
    ap (λ n. below n index) same ∙ ap (below most) (sym (to_z-of_z w64 index fits)) ∙ sym is

-- so what was found of it is what it names in the list
pub index_named : {heap : Heap} {at : ℕ} {list : ListObject} (count : ℕ) (index : ℤ) (found : Option ℕ)
    → ListShown heap at list → count ≡ count_at heap at → FitsSigned w64 index
    → found ≡ below count (to_z w64 (of_z w64 index)) → below (length list.elements) index ≡ found
index_named {list = list} count index found shown counted fits is =
    named_below count (length list.elements) index found (sym (counted ∙ count_shown shown)) fits is

-- a place of the list has a slot, which stands before the marks
pub record PlaceStands (main : Mutator) (store : Store) (place : ℕ) : Type 0 where
  pub below : place < store.capacity
  pub within : store.at + (store_head + place) < marks_start main.seat.space

-- so it is of each place below the length, in the store that stands beside the list
pub place_stands : {main : Mutator} {list count : ℕ} (store : Store) (place : ℕ) → IsListReady main list count
    → IsStoreAt (heap_of main) list store → place < count → PlaceStands main store place
place_stands store place ready is below =
    let room = store_has_room store ready is in
    record { below = omega (arith, room, below); within = omega (arith, is.within, room, below) }

-- the word that is read there shows the element
pub element_shown : {heap : Heap} {at : ℕ} {list : ListObject} (store : Store) (place word : ℕ) → Whole heap
    → (shown : ListShown heap at list) → IsStoreAt heap at store → place < length list.elements → place < store.capacity
    → slice_get heap.words (store.at + (store_head + place)) ≡ Some word
    → ShowsValue heap word (get_or list.elements place Undefined)
element_shown {heap} {at} {list} store place word whole shown is below room reads =
    let shows = shown.shows in
    let read = slot_read at shows.store place shows.slots store whole is shown.has shown.stands shows.slot shows.has
    room in
    let same : get_or shows.slots place 0 ≡ word = same_Some _ _ (sym read.stands ∙ reads) in
    subst (λ w. ShowsValue heap w (get_or list.elements place Undefined)) same
    (shows.each place (get_or list.elements place Undefined) (get_or shows.slots place 0)
    (slice_get-get_or list.elements place Undefined below) read.holds)
