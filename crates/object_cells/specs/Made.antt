-- Stores and boxes that are made for an object, and the words that making them puts.
use Rattle.std.specs.Prelude.{◌≡◌, ◌≢◌, ℕ, ◌+◌, ◌<◌, ◌≤◌, ◌⊎◌, Bool, false, not, List, length, slice_set}
use Rattle.tagged_word.specs.declared.layout.Kind.TheVariants as kind
use Rattle.tagged_word.specs.Words.{small}
use Rattle.tagged_word.specs.Headers.{header_bits}
use Rattle.tagged_word.specs.Cells.{store_head, store_slot, cell_words_most}
use Rattle.page_space.specs.Extents.{marks_start}
use Rattle.nursery.specs.Young.{HasRoom}
use Rattle.heap_model.specs.Types.{Cell, Held}
use Rattle.handle_roots.specs.declared.held.Held.TheVariants as held
use Rattle.word_store.specs.Copies.{copied}
use Rattle.write_barrier.specs.Seats.{heap_words, RestStays}
use Rattle.heap_model.specs.Heaps.{Heap, HasCell}
use Rattle.heap_model.specs.Slots.{reference_word, raw_word, HoldsStore}
use Rattle.heap_model.specs.Kinds.{HasWord}
use Rattle.heap_model.specs.Needs.{box_words, capacity_at}
use Rattle.heap_model.specs.Remembered.{Touch}
use Rattle.write_barrier.specs.declared.room.NoRoom.{NoRoom}
use Rattle.write_barrier.specs.MutatorState.{Mutator}
use Rattle.write_barrier.specs.Values.{with_range}
use Rattle.write_barrier.specs.Recording.{touched, touched_then, untouched}
use Rattle.object_cells.specs.Formats.{box_header, empty_store}
use Rattle.object_cells.specs.declared.content.SlotContent.{SlotContent}
use Rattle.object_cells.specs.declared.content.SlotContent.TheVariants as content
use Rattle.object_cells.specs.declared.stores.Store.{Store}
use Rattle.object_cells.specs.Contents.{held_rep, content_of}

-- Of the seat, the paths and the young generation only the words of the heap are others, and they are these. What
-- becomes of records and free runs is said beside it.
pub record PutsWords (old new : Mutator) (words : List ℕ) : Type 0 where
  pub beside : RestStays old.seat new.seat
  pub paths : new.paths ≡ old.paths
  pub young : new.young ≡ old.young
  pub heap : heap_words new.seat ≡ words

-- there is no room for so many words, and nothing has changed
pub record RefusesRoom (old new : Mutator) (need : ℕ) (no_room : NoRoom) : Type 0 where
  pub need_is : no_room.need ≡ need
  pub lacks : HasRoom old.young need → ⊥
  pub same : new ≡ old

-- a cell that has a slot for a store stands at the address
pub record HasStoreSlot (heap : Heap) (at : ℕ) : Type 0 where
  pub cell : Cell
  pub words : List ℕ
  pub has : HasCell heap cell words
  pub stands : cell.at ≡ at
  pub word : ℕ
  pub slot : HasWord words store_slot word
  pub beside : List ℕ
  pub are : HoldsStore heap kind.Store word beside

-- The words from an address up to another are those of a cell that is no filler.
pub record IsUsedRange (heap : Heap) (from to : ℕ) : Type 0 where
  pub cell : Cell
  pub words : List ℕ
  pub has : HasCell heap cell words
  pub starts : cell.at ≡ from
  pub ends : cell.at + cell.size ≡ to
  pub no_filler : cell.layout.kind ≢ kind.Filler

-- What stands beside the object at the address: a store of so many slots at its own address, or nothing, which is no
-- slots. It ends before the marks.
pub record IsStoreAt (heap : Heap) (object : ℕ) (store : Store) : Type 0 where
  pub capacity : capacity_at heap object ≡ store.capacity
  pub small : store_head + store.capacity ≤ cell_words_most
  pub within : store.at + (store_head + store.capacity) ≤ marks_start heap.space
  pub used : (store.capacity ≡ 0) ⊎ IsUsedRange heap store.at (store.at + (store_head + store.capacity))
  pub slots : (cell : Cell) (words beside : List ℕ) (word : ℕ) → HasCell heap cell words → cell.at ≡ object
      → HasWord words store_slot word → HoldsStore heap kind.Store word beside → length beside ≡ store.capacity
  pub refers : (cell : Cell) (words beside : List ℕ) (word : ℕ) → HasCell heap cell words → cell.at ≡ object
      → HasWord words store_slot word → HoldsStore heap kind.Store word beside → 0 < store.capacity
      → word ≡ reference_word store.at

-- the words with a store of so many slots made at an address: it has the slots of another and holes behind them
abbrev pub begun_store : List ℕ → Store → ℕ → ℕ → List ℕ
begun_store words store capacity at =
    copied (with_range words at (empty_store capacity)) (store.at + store_head) (at + store_head) store.capacity

-- and it is the object's
abbrev pub with_store : List ℕ → ℕ → Store → ℕ → ℕ → List ℕ
with_store words object store capacity at =
    slice_set (begun_store words store capacity at) (object + store_slot) (reference_word at)

-- how many words are made for what a slot comes to hold: those of a box, or none
abbrev pub content_need : SlotContent → ℕ
content_need (content.Tagged word) = 0
content_need (content.Raw word) = 0
content_need (content.Boxed v) = box_words

-- the words with that box made at an address
abbrev pub with_content : List ℕ → SlotContent → ℕ → List ℕ
with_content words (content.Tagged word) at = words
with_content words (content.Raw word) at = words
with_content words (content.Boxed v) at =
    slice_set (slice_set words at (header_bits box_header)) (at + 1) (raw_word v)

-- which addresses making that box touches
abbrev pub content_touch : SlotContent → ℕ → ℕ → Touch
content_touch (content.Tagged word) at = untouched
content_touch (content.Raw word) at = untouched
content_touch (content.Boxed v) at = touched Touch.Wiped at (at + box_words)

-- how the slot itself is touched
abbrev pub slot_touch : SlotContent → Touch
slot_touch (content.Tagged word) = Touch.Stored
slot_touch (content.Raw word) = Touch.Wiped
slot_touch (content.Boxed v) = Touch.Stored

-- which addresses making a store of so many slots touches: its head, and its slots
abbrev pub store_touch : ℕ → ℕ → ℕ → Touch
store_touch capacity at =
    touched_then (touched Touch.Wiped at (at + store_head))
    (touched Touch.Stored (at + store_head) (at + (store_head + capacity)))

-- the word that the slot holds, where its box stands at an address
abbrev pub content_word : SlotContent → ℕ → ℕ
content_word (content.Tagged word) at = word.0
content_word (content.Raw word) at = word
content_word (content.Boxed v) at = reference_word at

-- whether what is held is an integer that is not small
abbrev pub is_wide_held : Held → Bool
is_wide_held (held.Int v) = not (small v)
is_wide_held _ = false

-- what a slot of a store comes to hold for a value
abbrev pub store_content : Held → SlotContent
store_content value = content_of false (held_rep value) value
