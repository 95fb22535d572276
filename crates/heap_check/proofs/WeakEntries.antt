-- A weak map by its two words and the pairs of its table.
use Rattle.std.proofs.Common.{◌≡◌, ℕ, List, Some, ◌∙◌, ap}
use Rattle.tagged_word.specs.Cells.{store_slot}
use Rattle.heap_model.specs.Heaps.{Heap}
use Rattle.heap_model.specs.Kinds.{HasWord, Pair, IsWeakCell, count_offset}
use Rattle.image_walk.specs.declared.spans.Span.{Span}
use Rattle.image_walk.specs.TablePairs.{table_pairs, filled_pairs, IsTableAs}
use Rattle.heap_check.specs.HeldPairs.{AreHeldPairs}

-- the pairs hold nothing or entries where probing finds them, and so many entries
abbrev pub HasEntries : Heap → List Pair → ℕ → Type 0
HasEntries heap pairs count = AreHeldPairs heap pairs × (count ≡ filled_pairs pairs)

-- a weak map is one by its words and the pairs of its table
pub weak_from : (heap : Heap) (words : List ℕ) (store count : ℕ) (table : Span) → HasWord words store_slot store
    → HasWord words count_offset count → IsTableAs heap store table → HasEntries heap (table_pairs heap table) count
    → IsWeakCell heap words
weak_from heap words store count table slot counted has entries = record {
  store = store;
  slot = slot;
  pairs = table_pairs heap table;
  table = has.has;
  each = entries.0;
  counted = counted ∙ ap (λ n. Some n) entries.1;
}
