-- Weak tables: the pairs in a span.
use Rattle.std.specs.Prelude.{ℕ, List, not, count_by}
use Rattle.heap_model.specs.Heaps.{Heap}
use Rattle.heap_model.specs.Kinds.{Pair, pairs_in, is_free_pair, HasTable}
use Rattle.image_walk.specs.declared.spans.Span.{Span}
use Rattle.image_walk.specs.declared.tables.KeyValue.{KeyValue}
use Rattle.image_walk.specs.Spans.{span_words, IsSpan}

-- the pairs of the table whose slots are a span
abbrev pub table_pairs : Heap → Span → List Pair
table_pairs heap table = pairs_in (span_words heap table)

-- the pair of two words
abbrev pub pair_of : KeyValue → Pair
pair_of words = record { key = words.key; value = words.value }

-- how many of the pairs hold something
abbrev pub filled_pairs : List Pair → ℕ
filled_pairs pairs = count_by (λ pair. not (is_free_pair pair)) pairs

-- the slots of the weak table to which the word refers are the span, or there is no table and none are
pub record IsTableAs (heap : Heap) (word : ℕ) (table : Span) : Type 0 where
  pub has : HasTable heap word (table_pairs heap table)
  pub is : IsSpan heap table
