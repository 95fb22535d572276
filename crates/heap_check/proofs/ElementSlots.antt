-- What the slots of a list's store hold, slot by slot.
use Rattle.std.proofs.Common.{◌≡◌, ℕ, ◌≤◌, true, false, List, nat_lt, sym, subst, arith}
use Rattle.std.proofs.Common.{length, inl, inr}
use Rattle.std.proofs.lemmas.Bool.{cases_lt}
use Rattle.std.proofs.lemmas.Bool.Decides.{nat_tests}
use Rattle.tagged_word.specs.declared.layout.Kind.TheVariants as kind
use Rattle.tagged_word.specs.Cells.{store_slot}
use Rattle.object_graph.specs.Meaning.{list_most}
use Rattle.heap_model.specs.Heaps.{Heap}
use Rattle.heap_model.specs.Kinds.{HasWord, HoldValues, IsListCell, count_offset}
use Rattle.image_walk.specs.declared.spans.Span.{Span}
use Rattle.image_walk.specs.Spans.{EachWord, span_words, SpansStore}
use Rattle.heap_check.specs.Elements.{IsElement}

-- the slots hold elements, as many as they are, each in its place
abbrev pub AreElements : Heap → ℕ → List ℕ → Type 0
AreElements heap count slots = EachWord slots (λ at word. IsElement heap (nat_lt at count) word)

-- where each slot holds what it may, they hold so many values
pub hold_values_from : (heap : Heap) (count : ℕ) (slots : List ℕ) → count ≤ length slots → AreElements heap count slots
    → HoldValues heap count slots
hold_values_from heap count slots room each = record {
  room = room;
  each = λ at word below there.
      let used : nat_lt at count ≡ true = grind (arith, nat_tests) in
      subst (λ b. IsElement heap b word) used (each at word there);
  rest = λ at word past there.
      let unused : nat_lt at count ≡ false = grind (arith, nat_tests) in
      subst (λ b. IsElement heap b word) unused (each at word there);
}

-- where they hold so many values, each holds what it may
pub hold_values_to : (heap : Heap) (count : ℕ) (slots : List ℕ) → HoldValues heap count slots
    → AreElements heap count slots
hold_values_to heap count slots hold at word there = elim (cases_lt at count) [
  | inl below ↦
      let used : nat_lt at count ≡ true = grind (arith, nat_tests) in
      subst (λ b. IsElement heap b word) (sym used) (hold.each at word below there)
  | inr past ↦
      let unused : nat_lt at count ≡ false = grind (arith, nat_tests) in
      subst (λ b. IsElement heap b word) (sym unused) (hold.rest at word past there)
]

-- a list is one by its two words and the slots of its store
pub list_from : (heap : Heap) (words : List ℕ) (store count : ℕ) (span : Span) → HasWord words store_slot store
    → HasWord words count_offset count → count ≤ list_most → SpansStore heap kind.Store store span
    → HoldValues heap count (span_words heap span) → IsListCell heap words
list_from heap words store count span slot counted few beside hold = record {
  store = store;
  slot = slot;
  beside = span_words heap span;
  stands = beside.beside;
  count = count;
  counted = counted;
  few = few;
  hold = hold;
}
