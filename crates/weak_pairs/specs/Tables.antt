-- The table of a weak map as its words are read: its pairs, and the numbers of their keys.
use Rattle.std.specs.Prelude.{◌≡◌, ℕ, ◌+◌, ◌*◌, ◌<◌, ◌≤◌, ◌⊎◌, List, length, map, Option, Some, slice_get}
use Rattle.std.specs.Prelude.{slice_set, slice_range, option_map, unwrap_or}
use Rattle.tagged_word.specs.Cells.{store_head}
use Rattle.tagged_word.specs.Readings.{header_at, reference_in}
use Rattle.page_space.specs.Extents.{marks_start}
use Rattle.heap_model.specs.Heaps.{Heap}
use Rattle.heap_model.specs.Kinds.{Pair, pairs_in}
use Rattle.heap_model.specs.Needs.{word_at}
use Rattle.weak_pairs.specs.Pairs.{IsFilledAt}
use Rattle.weak_pairs.specs.declared.table.Table.{Table}

-- the offset of the key of a pair in its table
abbrev pub key_offset : ℕ → ℕ
key_offset place = store_head + 2 * place

-- the offset of the value of a pair in its table
abbrev pub value_offset : ℕ → ℕ
value_offset place = store_head + (2 * place + 1)

-- the word of the key of a pair of the table at an address
abbrev pub key_in : Heap → ℕ → ℕ → ℕ
key_in heap table place = word_at heap (table + key_offset place)

-- the word of the value of a pair of the table at an address
abbrev pub value_in : Heap → ℕ → ℕ → ℕ
value_in heap table place = word_at heap (table + value_offset place)

-- the words of a table end before the marks
abbrev pub TableIsWithin : Heap → Table → Type 0
TableIsWithin heap table = table.at + (store_head + 2 * table.capacity) ≤ marks_start heap.space

-- the words of the pairs stand in the table
pub record ArePairsIn (words : List ℕ) (table : Table) (pairs : List Pair) : Type 0 where
  pub long : length pairs ≡ table.capacity
  pub keys : (place : ℕ) (pair : Pair) → slice_get pairs place ≡ Some pair
      → slice_get words (table.at + key_offset place) ≡ Some pair.key
  pub values : (place : ℕ) (pair : Pair) → slice_get pairs place ≡ Some pair
      → slice_get words (table.at + value_offset place) ≡ Some pair.value

-- the pairs of a table, by its words
abbrev pub pairs_of : List ℕ → Table → List Pair
pairs_of words table =
    pairs_in (slice_range words (table.at + store_head) (table.at + (store_head + 2 * table.capacity)))

-- the pair of two words
abbrev pub made_pair : ℕ → ℕ → Pair
made_pair key value = record { key = key; value = value }

-- the words with another pair at a place of the table at an address
abbrev pub with_pair : List ℕ → ℕ → ℕ → Pair → List ℕ
with_pair words table place pair =
    slice_set (slice_set words (table + key_offset place) pair.key) (table + value_offset place) pair.value

-- the address is not one of the table's pairs
abbrev pub IsOutsidePairs : Table → ℕ → Type 0
IsOutsidePairs table at = (at < table.at + store_head) ⊎ (table.at + (store_head + 2 * table.capacity) ≤ at)

-- no word of the one table's pairs is one of the other's
abbrev pub TablesDisjoint : Table → Table → Type 0
TablesDisjoint from to =
    (at : ℕ) → from.at + store_head ≤ at → at < from.at + (store_head + 2 * from.capacity) → IsOutsidePairs to at

-- the number in the header at an address; 0 where there is no header
abbrev pub number_at : Heap → ℕ → ℕ
number_at heap at = unwrap_or (option_map (λ header. header.object) (header_at heap.words at)) 0

-- the number of a pair's key, if it has one
abbrev pub key_number : Heap → Pair → Option ℕ
key_number heap pair = option_map (number_at heap) (reference_in pair.key)

-- the numbers of the keys of all pairs
abbrev pub numbers : Heap → List Pair → List (Option ℕ)
numbers heap pairs = map (key_number heap) pairs

-- the address is one before the marks, and not that of a word of the table's pairs
pub record IsKeyOutside (heap : Heap) (table : Table) (at : ℕ) : Type 0 where
  pub within : at < marks_start heap.space
  pub beside : IsOutsidePairs table at

-- each key of the table is such an address
abbrev pub KeysOutsidePairs : Heap → Table → Type 0
KeysOutsidePairs heap table =
    (place at : ℕ) (pair : Pair) → slice_get (pairs_of heap.words table) place ≡ Some pair
    → reference_in pair.key ≡ Some at → IsKeyOutside heap table at

-- each pair of the one table that holds something has the word of an address as its key, which is one before the marks
-- and not that of a word of the other's pairs
abbrev pub KeysMovable : Heap → Table → Table → Type 0
KeysMovable heap from to =
    (place : ℕ) (pair : Pair) → IsFilledAt (pairs_of heap.words from) place pair
    → (at : ℕ) × (reference_in pair.key ≡ Some at) × IsKeyOutside heap to at
