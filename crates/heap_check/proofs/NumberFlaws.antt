-- The number of a cell that is no object's, and its slots.
use Rattle.std.proofs.Common.{◌≡◌, ℕ, Option, ◌+◌, ◌<◌, List, drop, slice_get, refl, sym, ◌∙◌, ap, subst}
use Rattle.std.proofs.Common.{arith}
use Rattle.tagged_word.specs.Cells.{store_head}
use Rattle.heap_model.specs.Types.{Cell}
use Rattle.heap_model.specs.Heaps.{Heap, words_of_cell}
use Rattle.heap_model.specs.Kinds.{HasNoNumber, IsStoreCell}
use Rattle.heap_model.specs.Slots.{IsSlotWord}
use Rattle.heap_model.proofs.CellsApart.{has_is_cell}
use Rattle.image_walk.specs.declared.spans.Span.{Span}
use Rattle.image_walk.specs.Spans.{StandsIn, EachWord, span_words, IsStoreKind}
use Rattle.image_walk.proofs.SpanWords.{all_from_each}
use Rattle.heap_check.specs.declared.flaw.Flaw.{Flaw}
use Rattle.heap_check.specs.Firsts.{IsFirst, IsVerdict, asked_of}
use Rattle.heap_check.specs.Cells.{BreaksNumber, BreaksSlots, BreaksStoreCell}
use Rattle.heap_check.specs.SpanFlaws.{BreaksSpan}
use Rattle.heap_check.proofs.JoinedFinds.{Includes, Excludes, NoneBelow, finds_same}

-- a breach of a cell's number is at the cell's address
pub numbers_there : (cell : Cell) → NoneBelow (BreaksNumber cell) cell.at
numbers_there cell _ _ _ (BreaksNumber.numbered is numbered) = omega arith

-- and at no other
number_at : (cell : Cell) (at found wanted : ℕ) → BreaksNumber cell at found wanted → at ≡ cell.at
number_at cell _ _ _ (BreaksNumber.numbered is numbered) = refl

-- a cell without a number has none
pub number_excludes : (cell : Cell) → Excludes (BreaksNumber cell) (HasNoNumber cell)
number_excludes cell _ _ _ (BreaksNumber.numbered is numbered) none = numbered none

-- the shape of a cell has 16 bits
pub shape_few : (heap : Heap) (cell : Cell) → StandsIn heap cell → cell.header.shape < 65536
shape_few heap cell stands = (has_is_cell stands).reads.is_header.shape

-- a breach of a slot is behind the head of the cell
slots_behind : (heap : Heap) (cell : Cell) (words : List ℕ) → NoneBelow (BreaksSlots heap cell words) cell.at
slots_behind heap cell words _ _ _ (BreaksSlots.slot place found is there wrong) = omega arith

-- no breach of a store or table is before its address
pub stores_behind : (heap : Heap) (cell : Cell) (words : List ℕ) → NoneBelow (BreaksStoreCell heap cell words) cell.at
stores_behind heap cell words at found wanted (BreaksStoreCell.number _ _ _ breaks) =
    numbers_there cell at found wanted breaks
stores_behind heap cell words at found wanted (BreaksStoreCell.slot _ _ _ breaks) =
    slots_behind heap cell words at found wanted breaks

-- the words of the span behind the head of a store or table are its slots
slots_to : (heap : Heap) (cell : Cell) (words : List ℕ) (span : Span) → IsStoreKind cell.layout.kind
    → span.from ≡ cell.at + store_head → span_words heap span ≡ drop store_head words
    → Includes (BreaksSpan heap span (λ at word. IsSlotWord heap word) (λ at word. asked_of word))
    (BreaksStoreCell heap cell words)
slots_to heap cell words span is begins are _ _ _ (BreaksSpan.word place found there wrong) =
    let slot = BreaksSlots.slot place found is (ap (λ all. slice_get all place) (sym are) ∙ there) wrong in
    BreaksStoreCell.slot _ _ _
    (subst (λ a. BreaksSlots heap cell words (a + place) found (asked_of found)) (sym begins) slot)

-- and the slots are the words of the span
slots_from : (heap : Heap) (cell : Cell) (words : List ℕ) (span : Span) → HasNoNumber cell
    → span.from ≡ cell.at + store_head → span_words heap span ≡ drop store_head words
    → Includes (BreaksStoreCell heap cell words)
    (BreaksSpan heap span (λ at word. IsSlotWord heap word) (λ at word. asked_of word))
slots_from heap cell words span none begins are at found wanted (BreaksStoreCell.number _ _ _ breaks) =
    absurd (number_excludes cell at found wanted breaks none)
slots_from heap cell words span none begins are _ _ _ (BreaksStoreCell.slot _ _ _
    (BreaksSlots.slot place found is there wrong)) =
    let Fits : ℕ → ℕ → Type 0 = λ at word. IsSlotWord heap word in
    let asked : ℕ → ℕ → ℕ = λ at word. asked_of word in
    let slot : BreaksSpan heap span Fits asked (span.from + place) found (asked_of found) =
    BreaksSpan.word place found (ap (λ all. slice_get all place) are ∙ there) wrong in
    subst (λ a. BreaksSpan heap span Fits asked (a + place) found (asked_of found)) begins slot

-- the flaw of the number of a store or table is its first
pub number_is_first : (heap : Heap) (cell : Cell) (words : List ℕ) (flaw : Flaw) → IsFirst (BreaksNumber cell) flaw
    → IsFirst (BreaksStoreCell heap cell words) flaw
number_is_first heap cell words flaw is = record {
  breaks = BreaksStoreCell.number flaw.at flaw.found flaw.wanted is.breaks;
  first = λ at found wanted breaks.
      omega (
        arith,
        number_at cell flaw.at flaw.found flaw.wanted is.breaks,
        stores_behind heap cell words at found wanted breaks,
      );
}

-- what is found along the slots of a store or table without a number is found of it
pub store_by_slots : (heap : Heap) (cell : Cell) (span : Span) (found : Option Flaw) → IsStoreKind cell.layout.kind
    → HasNoNumber cell
    → span.from ≡ cell.at + store_head → span_words heap span ≡ drop store_head (words_of_cell heap cell)
    → IsVerdict (EachWord (span_words heap span) (λ at word. IsSlotWord heap word))
    (BreaksSpan heap span (λ at word. IsSlotWord heap word) (λ at word. asked_of word)) found
    → IsVerdict (IsStoreCell heap cell (words_of_cell heap cell))
    (BreaksStoreCell heap cell (words_of_cell heap cell)) found
store_by_slots heap cell span found is none begins are finds =
    let words = words_of_cell heap cell in
    let Each : List ℕ → Type 0 = λ all. EachWord all (λ at word. IsSlotWord heap word) in
    finds_same (Each (span_words heap span)) (IsStoreCell heap cell words)
    (BreaksSpan heap span (λ at word. IsSlotWord heap word) (λ at word. asked_of word))
    (BreaksStoreCell heap cell words) found
    (λ each. record {
      no_number = none;
      slots = all_from_each (drop store_head words) (IsSlotWord heap) (subst Each are each);
    })
    (slots_to heap cell words span is begins are) (slots_from heap cell words span none begins are) finds
