-- Breaches in a span of words.
use Rattle.std.specs.Prelude.{◌≡◌, ◌≢◌, ℕ, ◌+◌, Some, slice_get}
use Rattle.heap_model.specs.Heaps.{Heap}
use Rattle.heap_model.specs.Types.{Kind, Cell}
use Rattle.tagged_word.specs.Cells.{store_slot}
use Rattle.heap_model.specs.Heaps.{words_of_cell}
use Rattle.heap_model.specs.Kinds.{HasWord, Pair, count_offset}
use Rattle.image_walk.specs.declared.spans.Span.{Span}
use Rattle.image_walk.specs.Spans.{span_words}
use Rattle.image_walk.specs.TablePairs.{table_pairs, filled_pairs}
use Rattle.heap_check.specs.Cells.{BreaksPair}
use Rattle.image_walk.specs.Spans.{IsBeside}

-- a word of the span is not what is asked for at its place
pub data BreaksSpan (heap : Heap) (span : Span) (Fits : ℕ → ℕ → Type 0) (asked : ℕ → ℕ → ℕ) : ℕ → ℕ → ℕ → Type 0 where
  word : (place found : ℕ) → HasWord (span_words heap span) place found → (Fits place found → ⊥)
      → BreaksSpan heap span Fits asked (span.from + place) found (asked place found)

-- the word at an address is not what is asked for there
pub data BreaksWord (at word : ℕ) (Fits : ℕ → Type 0) (asked : ℕ → ℕ) : ℕ → ℕ → ℕ → Type 0 where
  word : (Fits word → ⊥) → BreaksWord at word Fits asked at word (asked word)

-- slot 1 of the cell refers to the store or table of the kind whose slots are the span, or says that there is none
pub record HasBeside (heap : Heap) (cell : Cell) (of : Kind) (span : Span) : Type 0 where
  pub word : ℕ
  pub slot : HasWord (words_of_cell heap cell) store_slot word
  pub is : IsBeside heap of word span

-- some pair of the table whose slots are the span is broken
pub data BreaksPairs (heap : Heap) (table : Span) : ℕ → ℕ → ℕ → Type 0 where
  pair : (place at found wanted : ℕ) (pair : Pair) → slice_get (table_pairs heap table) place ≡ Some pair
      → BreaksPair heap table.from (table_pairs heap table) place pair at found wanted
      → BreaksPairs heap table at found wanted

-- the count of a weak map is not that of the filled pairs of its table
pub data BreaksCount (heap : Heap) (cell : Cell) (table : Span) : ℕ → ℕ → ℕ → Type 0 where
  count : (found : ℕ) → HasWord (words_of_cell heap cell) count_offset found
      → found ≢ filled_pairs (table_pairs heap table)
      → BreaksCount heap cell table (cell.at + count_offset) found (filled_pairs (table_pairs heap table))
