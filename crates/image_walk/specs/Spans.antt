-- Words of a cell, and spans of words.
use Rattle.std.specs.Prelude.{◌≡◌, ℕ, ◌+◌, ◌≤◌, ◌⊎◌, List, length, Some, slice_get, slice_range}
use Rattle.heap_model.specs.Types.{Kind, Cell}
use Rattle.tagged_word.specs.declared.layout.Kind.TheVariants as kind
use Rattle.heap_model.specs.Heaps.{Heap, HasCell, words_of_cell}
use Rattle.tagged_word.specs.Cells.{store_head}
use Rattle.heap_model.specs.Slots.{HoldsStore, RefersTo, undefined_word}
use Rattle.heap_model.specs.Kinds.{HasWord}
use Rattle.image_walk.specs.declared.spans.Span.{Span}

-- the cell stands in the heap
abbrev pub StandsIn : Heap → Cell → Type 0
StandsIn heap cell = HasCell heap cell (words_of_cell heap cell)

-- the words of a span
abbrev pub span_words : Heap → Span → List ℕ
span_words heap span = slice_range heap.words span.from span.end

-- the words of the span are all there
pub record IsSpan (heap : Heap) (span : Span) : Type 0 where
  pub ascends : span.from ≤ span.end
  pub within : span.end ≤ length heap.words

-- what is said holds of each word of a list, and of its place there
abbrev pub EachWord : List ℕ → (ℕ → ℕ → Type 0) → Type 0
EachWord words P = (at word : ℕ) → HasWord words at word → P at word

-- what is said holds of the word at the address, if there is one
abbrev pub WordAt : Heap → ℕ → (ℕ → Type 0) → Type 0
WordAt heap at P = (word : ℕ) → slice_get heap.words at ≡ Some word → P word

-- the words of the span are the slots of the store or table of the kind to which the word refers, or none
pub record SpansStore (heap : Heap) (of : Kind) (word : ℕ) (span : Span) : Type 0 where
  pub beside : HoldsStore heap of word (span_words heap span)
  pub is : IsSpan heap span

-- the word neither refers to a store or table of the kind nor says that there is none
abbrev pub HoldsNoStore : Heap → Kind → ℕ → Type 0
HoldsNoStore heap of word = (slots : List ℕ) → HoldsStore heap of word slots → ⊥

-- a store or a weak table
abbrev pub IsStoreKind : Kind → Type 0
IsStoreKind k = (k ≡ kind.Store) ⊎ (k ≡ kind.Table)

-- The slots of the store or table of the kind to which the word refers are those of the span; or there is none, and the
-- span is empty.
pub data IsBeside (heap : Heap) (of : Kind) (word : ℕ) (span : Span) : Type 0 where
  none : word ≡ undefined_word → span.from ≡ 0 → span.end ≡ 0 → IsBeside heap of word span
  store : (cell : Cell) (words : List ℕ) → RefersTo heap word cell words → cell.layout.kind ≡ of
      → span.from ≡ cell.at + store_head → span.end ≡ cell.at + cell.size → IsBeside heap of word span
