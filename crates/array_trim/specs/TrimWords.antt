-- Which words a trim of a list puts: those of its store and of its own cell, and a free cell over the words given up.
use Rattle.std.specs.Prelude.{◌≡◌, ℕ, ◌+◌, ◌-◌, List, slice_set}
use Rattle.tagged_word.specs.Headers.{header_bits}
use Rattle.tagged_word.specs.Cells.{length_offset, store_head, store_slot}
use Rattle.write_barrier.specs.Seats.{heap_words}
use Rattle.heap_model.specs.Slots.{reference_word}
use Rattle.heap_model.specs.Kinds.{count_offset}
use Rattle.heap_model.specs.Needs.{capacity_at, word_at}
use Rattle.heap_model.specs.Remembered.{Touch}
use Rattle.write_barrier.specs.MutatorState.{Mutator, heap_of}
use Rattle.write_barrier.specs.Recording.{Touches, touched, touched_one, touched_then}
use Rattle.write_barrier.specs.FreeCells.{with_free_cell}
use Rattle.object_cells.specs.Formats.{store_header}
use Rattle.object_cells.specs.Made.{PutsWords}
use Rattle.array_trim.specs.TrimSteps.{PublishesStore, BlackensStore}

-- the words with a store of so many slots that begins at an address; its slots are what stands there
abbrev pub with_store_head : List ℕ → ℕ → ℕ → List ℕ
with_store_head words at capacity =
    slice_set (slice_set words at (header_bits store_header)) (at + length_offset) capacity

-- The words once the list at an address, of so many elements, lost its first `gone`. Its store, of so many slots,
-- begins so many words later and has so many slots fewer; the words before it are free.
abbrev pub shifted_words : List ℕ → (list store capacity count gone : ℕ) → List ℕ
shifted_words words list store capacity count gone =
    let moved = with_store_head words (store + gone) (capacity - gone) in
    let linked = slice_set moved (list + store_slot) (reference_word (store + gone)) in
    with_free_cell (slice_set linked (list + count_offset) (count - gone)) store gone

-- The words once the list at an address has its first `kept` elements alone. Its store, of so many slots, has as many
-- now; the words behind them are free.
abbrev pub truncated_words : List ℕ → (list store capacity kept : ℕ) → List ℕ
truncated_words words list store capacity kept =
    let shrunk = slice_set words (store + length_offset) kept in
    with_free_cell (slice_set shrunk (list + count_offset) kept) (store + (store_head + kept)) (capacity - kept)

-- which addresses these trims touch: words given up are recorded no more
abbrev pub shifted_touch : (list store gone : ℕ) → ℕ → Touch
shifted_touch list store gone =
    let head = touched Touch.Wiped (store + gone) (store + gone + store_head) in
    let linked = touched_then head (touched_one Touch.Stored (list + store_slot)) in
    let counted = touched_then linked (touched_one Touch.Wiped (list + count_offset)) in
    touched_then counted (touched Touch.Wiped store (store + gone))

abbrev pub truncated_touch : (list store capacity kept : ℕ) → ℕ → Touch
truncated_touch list store capacity kept =
    let shrunk = touched_one Touch.Wiped (store + length_offset) in
    let counted = touched_then shrunk (touched_one Touch.Wiped (list + count_offset)) in
    let behind = store + (store_head + kept) in
    touched_then counted (touched Touch.Wiped behind (behind + (capacity - kept)))

-- the list at the address has its store at another one
abbrev pub HasStoreAt : Mutator → ℕ → ℕ → Type 0
HasStoreAt main list store = word_at (heap_of main) (list + store_slot) ≡ reference_word store

-- The list at the address, of so many elements, lost its first `gone`, and nothing else was put. In an open cycle its
-- store was made black and published where it begins then, before any word was put.
pub record PutsShifted (old new : Mutator) (list count gone : ℕ) : Type 0 where
  pub store : ℕ
  pub has : HasStoreAt old list store
  pub puts : let capacity = capacity_at (heap_of old) list in
      PutsWords old new (shifted_words (heap_words old.seat) list store capacity count gone)
  pub touches : Touches old new (shifted_touch list store gone)
  pub marks : PublishesStore old new list store (store + gone)

-- The list at the address has its first `kept` elements alone, and nothing else was put. In an open cycle its store was
-- made black before any word was.
pub record PutsTruncated (old new : Mutator) (list kept : ℕ) : Type 0 where
  pub store : ℕ
  pub has : HasStoreAt old list store
  pub puts : let capacity = capacity_at (heap_of old) list in
      PutsWords old new (truncated_words (heap_words old.seat) list store capacity kept)
  pub touches : let capacity = capacity_at (heap_of old) list in
      Touches old new (truncated_touch list store capacity kept)
  pub marks : BlackensStore old new store
