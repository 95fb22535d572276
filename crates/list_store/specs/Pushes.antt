-- How a value comes behind the elements of a list, or in place of one: which words that puts.
use Rattle.std.specs.Prelude.{◌≡◌, ℕ, ◌+◌, ◌^◌, ◌<◌, List, slice_set}
use Rattle.tagged_word.specs.declared.layout.Kind.TheVariants as kind
use Rattle.tagged_word.specs.Cells.{store_head, store_slot}
use Rattle.nursery.specs.Young.{HasRoom}
use Rattle.heap_model.specs.Types.{Held}
use Rattle.write_barrier.specs.Seats.{heap_words}
use Rattle.heap_model.specs.Slots.{reference_word}
use Rattle.heap_model.specs.Kinds.{count_offset}
use Rattle.heap_model.specs.Remembered.{Touch}
use Rattle.write_barrier.specs.MutatorState.{Mutator, heap_of, reserved}
use Rattle.write_barrier.specs.Recording.{Touches, touched_one, touched_then}
use Rattle.write_barrier.specs.Storing.{IsMadeYoung, MayChange, MayHold, StoresOn}
use Rattle.write_barrier.specs.SureStores.{StoresSurely}
use Rattle.object_cells.specs.declared.stores.Store.{Store}
use Rattle.object_cells.specs.ListObjects.{IsListReady}
use Rattle.object_cells.specs.Contents.{next_at}
use Rattle.object_cells.specs.Made.{PutsWords, IsStoreAt, begun_store, with_content, content_need, content_word}
use Rattle.object_cells.specs.Made.{store_content, content_touch, store_touch}
use Rattle.heap_model.specs.Needs.{grown_list}

-- The elements of the list at the address, which are so many, may change, and stand in this store.
pub record CanChange (main : Mutator) (list count : ℕ) (store : Store) : Type 0 where
  pub ready : IsListReady main list count
  pub is : IsStoreAt (heap_of main) list store

-- the words with a value put in the slot at an address, where its box is made at another one, if it needs one
abbrev pub with_element : List ℕ → ℕ → Held → ℕ → List ℕ
with_element words at value box =
    slice_set (with_content words (store_content value) box) at (content_word (store_content value) box)

-- the words with the length of the list at an address
abbrev pub with_count : List ℕ → ℕ → ℕ → List ℕ
with_count words list count = slice_set words (list + count_offset) count

-- which addresses are touched where the value comes to a slot of a store, and a box that it needs is made at an address
abbrev pub pushed_touch : (box list slot : ℕ) → Held → Store → ℕ → Touch
pushed_touch box list slot value store =
    let boxed = content_touch (store_content value) box in
    let put = touched_then boxed (touched_one Touch.Stored (store.at + (store_head + slot))) in
    touched_then put (touched_one Touch.Wiped (list + count_offset))

-- and where a store is made for it at an address, with a box behind it
abbrev pub grown_touch : (at list count : ℕ) → Held → ℕ → Touch
grown_touch at list count value =
    let behind = at + (store_head + grown_list count) in
    let boxed = touched_then (store_touch (grown_list count) at) (content_touch (store_content value) behind) in
    let put = touched_then boxed (touched_one Touch.Stored (at + (store_head + count))) in
    let linked = touched_then put (touched_one Touch.Stored (list + store_slot)) in
    touched_then linked (touched_one Touch.Wiped (list + count_offset))

-- The words of the list at the address and of its store are the mutator's to change, where a cycle is open; cells are
-- made young then; and a slot may hold the word of the value, if a box that it needs is made so.
pub record MayPush (main : Mutator) (list : ℕ) (value : Held) : Type 0 where
  pub of_list : MayChange main list 3 kind.List
  pub of_store : (store : Store) → IsStoreAt (heap_of main) list store → 0 < store.capacity
      → MayChange main store.at (store_head + store.capacity) kind.Store
  pub young : IsMadeYoung main (next_at main)
  pub holds : (box : ℕ) → (0 < content_need (store_content value) → (box < 2 ^ 32) × IsMadeYoung main box)
      → MayHold main (content_word (store_content value) box)

-- The value comes to this slot of the list's store, and the list has so many elements; a box that it needs is made. In
-- an open cycle helpers may read the words as they are stored.
pub record WritesSlot (old new : Mutator) (list slot count : ℕ) (value : Held) (store : Store) : Type 0 where
  pub room : HasRoom old.young (content_need (store_content value))
  pub words : let put = with_element (heap_words old.seat) (store.at + (store_head + slot)) value (next_at old) in
      PutsWords (reserved old (content_need (store_content value))) new (with_count put list count)
  pub touches : Touches old new (pushed_touch (next_at old) list slot value store)
  pub stores : StoresOn old new
  pub surely : StoresSurely new (pushed_touch (next_at old) list slot value store)

-- The value comes to the next slot of the list's store.
abbrev pub PushesToStore : Mutator → Mutator → ℕ → ℕ → Held → Store → Type 0
PushesToStore old new list count value store = WritesSlot old new list count (count + 1) value store

-- A store is made in place of the one before, and the value comes to its first slot behind the slots of that one; a box
-- that it needs is made behind the store. Then the store is the list's. In an open cycle helpers may read the words as
-- they are stored.
pub record PushesToNewStore (old new : Mutator) (list count : ℕ) (value : Held) (store : Store) : Type 0 where
  pub room : HasRoom old.young (store_head + grown_list count + content_need (store_content value))
  pub words : let at = next_at old in
      let behind = at + (store_head + grown_list count) in
      let begun = begun_store (heap_words old.seat) store (grown_list count) at in
      let put = with_element begun (at + (store_head + count)) value behind in
      let linked = slice_set put (list + store_slot) (reference_word at) in
      PutsWords (reserved old (store_head + grown_list count + content_need (store_content value))) new
      (with_count linked list (count + 1))
  pub touches : Touches old new (grown_touch (next_at old) list count value)
  pub stores : StoresOn old new
  pub surely : StoresSurely new (grown_touch (next_at old) list count value)

-- How the value comes behind so many elements of the list at the address: to the list's store, which is made anew where
-- it is full or absent.
pub data PushesAt (old new : Mutator) (list count : ℕ) (value : Held) : Type 0 where
  to_store : (store : Store) → CanChange old list count store → count < store.capacity
      → PushesToStore old new list count value store → PushesAt old new list count value
  to_new_store : (store : Store) → CanChange old list count store → count ≡ store.capacity
      → PushesToNewStore old new list count value store → PushesAt old new list count value
