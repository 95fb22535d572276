-- The span of the slots beside an object, and where its store or table stands.
use Rattle.std.proofs.Common.{◌≡◌, ℕ, ◌+◌, List, drop, slice_range, refl, sym, ◌∙◌, ap, subst}
use Rattle.std.proofs.Common.{arith}
use Rattle.std.proofs.lemmas.Option.{slice_get_within, same_Some}
use Rattle.tagged_word.specs.Cells.{store_slot, store_head}
use Rattle.heap_model.specs.Types.{Kind, Cell}
use Rattle.heap_model.specs.Heaps.{Heap, words_of_cell}
use Rattle.heap_model.specs.Slots.{undefined_word, RefersTo, HoldsStore}
use Rattle.heap_model.specs.Kinds.{HasWord}
use Rattle.heap_model.proofs.WordClasses.{undefined_refers_not}
use Rattle.heap_model.proofs.SlotWords.{same_target}
use Rattle.image_walk.specs.declared.spans.Span.{Span}
use Rattle.image_walk.specs.Spans.{StandsIn, span_words, IsStoreKind, SpansStore}
use Rattle.image_walk.proofs.SpanWords.{length-slice_range, behind_first, cell_ends}
use Rattle.image_walk.proofs.StoreSlots.{store_has_head, none_beside, store_beside, target_stands}
use Rattle.heap_check.specs.Cells.{BreaksStore}
use Rattle.image_walk.specs.Spans.{IsBeside}

-- no word stands in the span
abbrev pub HasNone : Heap → Span → Type 0
HasNone heap span = (place word : ℕ) → HasWord (span_words heap span) place word → ⊥

-- What a word says of a span: there is no store and no slot, or a store or table of the kind has the words of the span
-- behind its head.
pub data IsSpanBeside (heap : Heap) (of : Kind) (word : ℕ) (span : Span) : Type 0 where
  none : word ≡ undefined_word → HasNone heap span → IsSpanBeside heap of word span
  store : (cell : Cell) → RefersTo heap word cell (words_of_cell heap cell) → cell.layout.kind ≡ of
      → span.from ≡ cell.at + store_head → span.end ≡ cell.at + cell.size
      → span_words heap span ≡ drop store_head (words_of_cell heap cell) → IsSpanBeside heap of word span

-- the slots of a cell are the words behind its head
slots_of_cell : (heap : Heap) (cell : Cell) (span : Span) → StandsIn heap cell → IsStoreKind cell.layout.kind
    → span.from ≡ cell.at + store_head → span.end ≡ cell.at + cell.size
    → span_words heap span ≡ drop store_head (words_of_cell heap cell)
slots_of_cell heap cell span stands is begins ends =
    ap (λ from. slice_range heap.words from span.end) begins
    ∙ ap (slice_range heap.words (cell.at + store_head)) ends
    ∙ behind_first heap cell store_head (store_has_head heap cell stands is)

-- a span beside an object is one of these
pub span_beside : (heap : Heap) (of : Kind) (word : ℕ) (span : Span) → IsStoreKind of → IsBeside heap of word span
    → IsSpanBeside heap of word span
span_beside heap of word span stores (IsBeside.none undefined from end) =
    IsSpanBeside.none undefined (λ place one there.
    omega (
      arith,
      from,
      end,
      slice_get_within (span_words heap span) place one there,
      length-slice_range heap.words span.from span.end,
    ))
span_beside heap of word span stores (IsBeside.store cell words refers is from end) =
    let to = target_stands refers in
    IsSpanBeside.store cell to is from end
    (slots_of_cell heap cell span to.has (subst IsStoreKind (sym is) stores) from end)

-- its words are all there, and are the slots of which the word tells
pub beside_spans : (heap : Heap) (of : Kind) (word : ℕ) (span : Span) → IsStoreKind of → IsBeside heap of word span
    → SpansStore heap of word span
beside_spans heap of word span stores (IsBeside.none undefined from end) =
    let same : record { from = 0; end = 0 } ≡ span =
    ap (λ n. record { from = n; end = 0 }) (sym from) ∙ ap (λ n. record { from = span.from; end = n }) (sym end) in
    subst (SpansStore heap of word) same (none_beside heap of word undefined)
beside_spans heap of word span stores (IsBeside.store cell words refers is from end) =
    let to = target_stands refers in
    let kind = subst IsStoreKind (sym is) stores in
    let head = store_has_head heap cell to.has kind in
    store_beside heap of word cell span to is (slots_of_cell heap cell span to.has kind from end)
    (record { ascends = omega (arith, from, end, head); within = omega (arith, end, cell_ends heap cell to.has) })

-- the store or table to which the word refers is the one whose slots the span has
pub span_of_target : (heap : Heap) (of : Kind) (word : ℕ) (span : Span) (cell : Cell) (words : List ℕ) → IsStoreKind of
    → IsBeside heap of word span → RefersTo heap word cell words
    → (span.from ≡ cell.at + store_head) × (span_words heap span ≡ drop store_head words)
span_of_target heap of word span cell words stores beside refers = elim (span_beside heap of word span stores beside) [
  | IsSpanBeside.none undefined empty ↦ absurd (undefined_refers_not cell.at (sym undefined ∙ refers.refers))
  | IsSpanBeside.store one to is from end are ↦
      let same : one ≡ cell = same_target to refers in (
        from ∙ ap (λ (c : Cell). c.at + store_head) same,
        are ∙ ap (λ c. drop store_head (words_of_cell heap c)) same ∙ ap (drop store_head) refers.has.words_are,
      )
]

-- a breach of the slot of the store is at that slot
pub store_at : (heap : Heap) (cell : Cell) (words : List ℕ) (of : Kind) (at found wanted : ℕ)
    → BreaksStore heap cell words of at found wanted → at ≡ cell.at + store_slot
store_at heap cell words of _ _ _ (BreaksStore.store found there lacks) = refl

-- and there is none where the slots beside are found
pub store_excludes : (heap : Heap) (cell : Cell) (words : List ℕ) (of : Kind) (word : ℕ) (slots : List ℕ)
    (at found wanted : ℕ) → HasWord words store_slot word → HoldsStore heap of word slots
    → BreaksStore heap cell words of at found wanted → ⊥
store_excludes heap cell words of word slots _ _ _ there holds (BreaksStore.store found here lacks) =
    lacks slots (subst (λ w. HoldsStore heap of w slots) (same_Some _ _ (sym there ∙ here)) holds)
