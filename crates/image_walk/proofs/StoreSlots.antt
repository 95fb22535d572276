-- The store or weak table to which a word refers, and its slots.
use Rattle.std.proofs.Common.{◌≡◌, ℕ, ◌≤◌, inl, inr, List, [], ◌++◌, drop, refl, sym, ◌∙◌, ap, subst, arith}
use Rattle.std.proofs.lemmas.Option.{same_Some}
use Rattle.heap_model.specs.Types.{Kind, Cell}
use Rattle.tagged_word.specs.declared.layout.Kind.TheVariants as kind
use Rattle.tagged_word.specs.Cells.{store_slot, store_head, plain_head, is_object_kind}
use Rattle.heap_model.specs.Heaps.{Heap, words_of_cell}
use Rattle.heap_model.specs.Slots.{undefined_word, RefersTo, HoldsStore}
use Rattle.heap_model.specs.Kinds.{HasWord, HasSlots}
use Rattle.heap_model.proofs.CellWords.{words_are_size, words_by_kind}
use Rattle.heap_model.proofs.SlotWords.{same_target}
use Rattle.heap_model.proofs.OneBeside.{one_beside}
use Rattle.heap_model.proofs.WordClasses.{undefined_refers_not}
use Rattle.image_walk.specs.declared.slots.Referent.{Referent}
use Rattle.image_walk.specs.declared.slots.Referent.TheVariants as sort
use Rattle.image_walk.specs.declared.spans.Span.{Span}
use Rattle.image_walk.specs.Sorts.{IsSort, RefersToOther, is_box_kind}
use Rattle.image_walk.specs.Spans.{StandsIn, span_words, IsSpan, IsStoreKind, SpansStore, HoldsNoStore}
use Rattle.image_walk.proofs.WordSorts.{undefined_sort, other_sort}

-- the cell of the heap to which a word refers has the words there
pub target_stands : {heap : Heap} {word : ℕ} {cell : Cell} {words : List ℕ} → RefersTo heap word cell words
    → RefersTo heap word cell (words_of_cell heap cell)
target_stands {heap} {word} {cell} refers =
    subst (λ all. RefersTo heap word cell all) (sym refers.has.words_are) refers

-- a store or table has a head
pub store_has_head : (heap : Heap) (cell : Cell) → StandsIn heap cell → IsStoreKind cell.layout.kind
    → store_head ≤ cell.size
store_has_head heap cell stands (inl is) = omega (arith, words_are_size stands, words_by_kind kind.Store stands is)
store_has_head heap cell stands (inr is) = omega (arith, words_are_size stands, words_by_kind kind.Table stands is)

-- what refers to a store or table refers to no object and no box
pub store_is_other : (heap : Heap) (word : ℕ) (cell : Cell) → RefersTo heap word cell (words_of_cell heap cell)
    → IsStoreKind cell.layout.kind → RefersToOther heap word cell
store_is_other heap word cell refers (inl is) =
    record { refers = refers; no_object = ap is_object_kind is; no_box = ap is_box_kind is }
store_is_other heap word cell refers (inr is) =
    record { refers = refers; no_object = ap is_object_kind is; no_box = ap is_box_kind is }

-- What a word says of the slots beside an object: there are none, or they are those of a cell of the kind.
pub data HasStoreSlots (heap : Heap) (of : Kind) (word : ℕ) (slots : List ℕ) : Type 0 where
  none : word ≡ undefined_word → slots ≡ [] → HasStoreSlots heap of word slots
  store : (cell : Cell) → RefersTo heap word cell (words_of_cell heap cell) → cell.layout.kind ≡ of
      → slots ≡ drop store_head (words_of_cell heap cell) → HasStoreSlots heap of word slots

-- slots beside an object are such
pub beside_is : {heap : Heap} {of : Kind} {word : ℕ} {slots : List ℕ} → HoldsStore heap of word slots
    → HasStoreSlots heap of word slots
beside_is HoldsStore.none = HasStoreSlots.none refl refl
beside_is (HoldsStore.store to cell words refers is) =
    HasStoreSlots.store cell (target_stands refers) is (ap (drop store_head) (sym refers.has.words_are))

-- where a slot of words says it, they are those of the span that was found for it
pub beside_is_span : {heap : Heap} {of : Kind} {slots : List ℕ} (words : List ℕ) (offset one other : ℕ) (span : Span)
    → HasWord words offset one → HasWord words offset other → SpansStore heap of one span
    → HoldsStore heap of other slots → slots ≡ span_words heap span
beside_is_span {heap} {of} {slots} words offset one other span slot slot_too stands beside =
    one_beside other one slots (span_words heap span) (same_Some other one (sym slot_too ∙ slot)) beside stands.beside

-- `undefined` says that there are none
pub none_beside : (heap : Heap) (of : Kind) (word : ℕ) → word ≡ undefined_word
    → SpansStore heap of word (record { from = 0; end = 0 })
none_beside heap of word is = record {
  beside = subst (λ w. HoldsStore heap of w []) (sym is) HoldsStore.none;
  is = record { ascends = omega arith; within = omega arith };
}

-- a reference to a cell of the kind says that they are its slots
pub store_beside : (heap : Heap) (of : Kind) (word : ℕ) (cell : Cell) (span : Span)
    → RefersTo heap word cell (words_of_cell heap cell) → cell.layout.kind ≡ of
    → span_words heap span ≡ drop store_head (words_of_cell heap cell) → IsSpan heap span → SpansStore heap of word span
store_beside heap of word cell span refers is slots there = record {
  beside = subst (HoldsStore heap of word) (sym slots) (HoldsStore.store word cell (words_of_cell heap cell) refers is);
  is = there;
}

-- a reference to a cell of another kind says nothing of that
pub wrong_beside : (heap : Heap) (of : Kind) (word : ℕ) (cell : Cell) → RefersToOther heap word cell
    → (cell.layout.kind ≡ of → ⊥) → HoldsNoStore heap of word
wrong_beside heap of word cell other wrong slots beside = elim (beside_is beside) [
  | HasStoreSlots.none undefined are ↦ undefined_refers_not cell.at (sym undefined ∙ other.refers.refers)
  | HasStoreSlots.store one refers is are ↦
      wrong (ap (λ (c : Cell). c.layout.kind) (same_target other.refers refers) ∙ is)
]

-- nor does a word of any other sort
pub no_beside : (heap : Heap) (of : Kind) (word : ℕ) (one : Referent) → IsStoreKind of → IsSort heap word one
    → (one ≡ sort.Undefined → ⊥) → ((cell : Cell) → one ≡ sort.Other cell → ⊥) → HoldsNoStore heap of word
no_beside heap of word one stores has not_undefined not_other slots beside = elim (beside_is beside) [
  | HasStoreSlots.none undefined are ↦
      not_undefined (undefined_sort heap one (subst (λ w. IsSort heap w one) undefined has))
  | HasStoreSlots.store cell refers is are ↦
      not_other cell
      (other_sort heap word cell one (store_is_other heap word cell refers (subst IsStoreKind (sym is) stores)) has)
]

-- the slots of an object are its own and those beside them
pub slots_are : {heap : Heap} {words slots : List ℕ} (word : ℕ) (own beside : Span) → HasWord words store_slot word
    → span_words heap own ≡ drop plain_head words → SpansStore heap kind.Store word beside → HasSlots heap words slots
    → slots ≡ span_words heap own ++ span_words heap beside
slots_are {heap} {words} word own beside slot own_are stands has =
    let same = beside_is_span words store_slot word has.store beside slot has.slot stands has.stands in
    has.are ∙ ap (λ all. drop plain_head words ++ all) same
    ∙ ap (λ all. all ++ span_words heap beside) (sym own_are)
