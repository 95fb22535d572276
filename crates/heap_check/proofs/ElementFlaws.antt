-- What is found of a list, by its length and the slots of its store.
use Rattle.std.proofs.Common.{◌≡◌, ℕ, Option, ◌+◌, ◌≤◌, ◌<◌, inl, List, length, slice_get, min, nat_lt, refl, sym, ◌∙◌}
use Rattle.std.proofs.Common.{ap, subst, arith}
use Rattle.std.proofs.lemmas.Option.{same_Some}
use Rattle.tagged_word.specs.Cells.{store_slot}
use Rattle.tagged_word.specs.declared.layout.Kind.TheVariants as kind
use Rattle.object_graph.specs.Meaning.{list_most}
use Rattle.heap_model.specs.Types.{Cell}
use Rattle.heap_model.specs.Heaps.{Heap}
use Rattle.heap_model.specs.Slots.{RefersTo, HoldsStore}
use Rattle.heap_model.specs.Kinds.{HasWord, IsListCell, count_offset}
use Rattle.heap_model.proofs.OneBeside.{one_beside}
use Rattle.image_walk.specs.declared.spans.Span.{Span}
use Rattle.image_walk.specs.Spans.{span_words, HoldsNoStore}
use Rattle.heap_check.specs.Elements.{IsElement}
use Rattle.heap_check.proofs.ElementSlots.{AreElements, hold_values_from, list_from}
use Rattle.heap_check.specs.declared.flaw.Flaw.{Flaw}
use Rattle.heap_check.specs.Firsts.{IsFirst, IsVerdict, asked_of}
use Rattle.heap_check.specs.Cells.{BreaksStore, BreaksElements, BreaksList, asked_element}
use Rattle.image_walk.specs.Spans.{IsBeside}
use Rattle.heap_check.specs.SpanFlaws.{BreaksSpan}
use Rattle.heap_check.proofs.JoinedFinds.{Includes, NoneBelow, first_is, finds_same}
use Rattle.heap_check.proofs.BesideSpans.{IsSpanBeside, span_beside, beside_spans, span_of_target, store_at}
use Rattle.heap_check.proofs.BesideSpans.{store_excludes}

-- where slot 1 tells of no store, a breach of the list is there
lacks_store : (heap : Heap) (cell : Cell) (words : List ℕ) (word : ℕ) → HasWord words store_slot word
    → HoldsNoStore heap kind.Store word → NoneBelow (BreaksList heap cell words) (cell.at + store_slot)
lacks_store heap cell words word there none _ _ _ (BreaksList.store at found wanted breaks) =
    omega (arith, store_at heap cell words kind.Store at found wanted breaks)
lacks_store heap cell words word there none _ _ _
    (BreaksList.element other count at found wanted beside here holds counted breaks) =
    absurd (none beside (subst (λ w. HoldsStore heap kind.Store w beside) (same_Some _ _ (sym here ∙ there)) holds))

-- and that is its first
pub first_lacks_store : (heap : Heap) (cell : Cell) (words : List ℕ) (word : ℕ) (flaw : Flaw)
    → HasWord words store_slot word → HoldsNoStore heap kind.Store word
    → flaw ≡ record { at = cell.at + store_slot; found = word; wanted = asked_of word }
    → IsFirst (BreaksList heap cell words) flaw
first_lacks_store heap cell words word flaw there none is =
    first_is (BreaksList heap cell words) flaw (cell.at + store_slot) word (asked_of word) is
    (BreaksList.store _ _ _ (BreaksStore.store word there none)) (lacks_store heap cell words word there none)

-- the words of a list tell of a span beside it and of its length
pub record TellsOf (heap : Heap) (words : List ℕ) (span : Span) (count : ℕ) : Type 0 where
  pub word : ℕ
  pub slot : HasWord words store_slot word
  pub beside : IsBeside heap kind.Store word span
  pub counted : HasWord words count_offset count

-- the slots that slot 1 tells of are the words of the span
one_span : {heap : Heap} {words : List ℕ} {span : Span} {count : ℕ} (other : ℕ) (slots : List ℕ)
    → TellsOf heap words span count → HasWord words store_slot other → HoldsStore heap kind.Store other slots
    → slots ≡ span_words heap span
one_span {heap} {words} {span} other slots tells here holds =
    one_beside other tells.word slots (span_words heap span) (same_Some _ _ (sym here ∙ tells.slot)) holds
    (beside_spans heap kind.Store tells.word span (inl refl) tells.beside).beside

-- what breaks a list breaks its elements, where slot 1 tells of a store
pub only_elements : {heap : Heap} {words : List ℕ} {span : Span} {count : ℕ} (cell : Cell)
    → TellsOf heap words span count
    → Includes (BreaksList heap cell words) (BreaksElements heap cell words (span_words heap span) count)
only_elements {heap} {words} {span} {count} cell tells _ _ _ (BreaksList.store at found wanted breaks) =
    absurd (store_excludes heap cell words kind.Store tells.word (span_words heap span) at found wanted tells.slot
    (beside_spans heap kind.Store tells.word span (inl refl) tells.beside).beside breaks)
only_elements {heap} {words} {span} {count} cell tells _ _ _
    (BreaksList.element other number at found wanted slots here holds counted breaks) =
    subst (λ n. BreaksElements heap cell words (span_words heap span) n at found wanted)
    (same_Some _ _ (sym counted ∙ tells.counted))
    (subst (λ all. BreaksElements heap cell words all number at found wanted) (one_span other slots tells here holds)
    breaks)

-- and the other way round
pub elements_break : {heap : Heap} {words : List ℕ} {span : Span} {count : ℕ} (cell : Cell)
    → TellsOf heap words span count
    → Includes (BreaksElements heap cell words (span_words heap span) count) (BreaksList heap cell words)
elements_break {heap} {words} {span} {count} cell tells at found wanted breaks =
    BreaksList.element tells.word count at found wanted (span_words heap span) tells.slot
    (beside_spans heap kind.Store tells.word span (inl refl) tells.beside).beside tells.counted breaks

-- where the length is over what there may be, no breach of the elements is elsewhere
too_long : (heap : Heap) (cell : Cell) (words beside : List ℕ) (count : ℕ) → min (length beside) list_most < count
    → NoneBelow (BreaksElements heap cell words beside count) (cell.at + count_offset)
too_long heap cell words beside count long _ _ _ (BreaksElements.long over) = omega arith
too_long heap cell words beside count long _ _ _
    (BreaksElements.element word place found store others few slot refers is there wrong) =
    absurd (omega (arith, few, long))

-- so the length is the first breach of the list
pub first_too_long : {heap : Heap} {words : List ℕ} {span : Span} {count : ℕ} (cell : Cell) (flaw : Flaw)
    → TellsOf heap words span count → min (length (span_words heap span)) list_most < count
    → flaw ≡ record {
      at = cell.at + count_offset;
      found = count;
      wanted = min (length (span_words heap span)) list_most;
    }
    → IsFirst (BreaksList heap cell words) flaw
first_too_long {heap} {words} {span} {count} cell flaw tells long is =
    let slots : List ℕ = span_words heap span in
    first_is (BreaksList heap cell words) flaw (cell.at + count_offset) count (min (length slots) list_most) is
    (elements_break cell tells _ _ _ (BreaksElements.long long))
    (λ at found wanted breaks. too_long heap cell words slots count long at found wanted
    (only_elements cell tells at found wanted breaks))

-- what each slot of the store of a list is asked to hold
abbrev pub ElementFits : Heap → ℕ → ℕ → ℕ → Type 0
ElementFits heap count at word = IsElement heap (nat_lt at count) word

-- and the word that is asked for in its place
abbrev pub element_asked : ℕ → ℕ → ℕ → ℕ
element_asked count at word = asked_element (nat_lt at count) word

-- a breach of the span is one of the elements
span_to : {heap : Heap} {words : List ℕ} {span : Span} {count : ℕ} (cell : Cell) → TellsOf heap words span count
    → count ≤ min (length (span_words heap span)) list_most
    → Includes (BreaksSpan heap span (ElementFits heap count) (element_asked count))
    (BreaksElements heap cell words (span_words heap span) count)
span_to {heap} {words} {span} {count} cell tells few _ _ _ (BreaksSpan.word place found there wrong) =
    elim (span_beside heap kind.Store tells.word span (inl refl) tells.beside) [
      | IsSpanBeside.none undefined empty ↦ absurd (empty place found there)
      | IsSpanBeside.store store to is from end are ↦
          subst (λ a. BreaksElements heap cell words (span_words heap span) count (a + place) found
          (element_asked count place found)) (sym from)
          (BreaksElements.element tells.word place found store _ few tells.slot to is
          (ap (λ all. slice_get all place) (sym are) ∙ there) wrong)
    ]

-- and the other way round
span_from : {heap : Heap} {words : List ℕ} {span : Span} {count : ℕ} (cell : Cell) → TellsOf heap words span count
    → count ≤ min (length (span_words heap span)) list_most
    → Includes (BreaksElements heap cell words (span_words heap span) count)
    (BreaksSpan heap span (ElementFits heap count) (element_asked count))
span_from {heap} {words} {span} {count} cell tells few _ _ _ (BreaksElements.long over) =
    absurd (omega (arith, few, over))
span_from {heap} {words} {span} {count} cell tells few _ _ _
    (BreaksElements.element word place found store others room slot refers is there wrong) =
    let to = subst (λ w. RefersTo heap w store others) (same_Some _ _ (sym slot ∙ tells.slot)) refers in
    let target = span_of_target heap kind.Store tells.word span store others (inl refl) tells.beside to in
    let here : BreaksSpan heap span (ElementFits heap count) (element_asked count) (span.from + place) found
    (element_asked count place found) =
    BreaksSpan.word place found (ap (λ all. slice_get all place) target.1 ∙ there) wrong in
    subst (λ a. BreaksSpan heap span (ElementFits heap count) (element_asked count) (a + place) found
    (element_asked count place found)) target.0 here

-- what is found along the store of a list that is not too long is found of the list
pub list_by_span : {heap : Heap} {words : List ℕ} {span : Span} {count : ℕ} (cell : Cell) (found : Option Flaw)
    → TellsOf heap words span count → count ≤ min (length (span_words heap span)) list_most
    → IsVerdict (AreElements heap count (span_words heap span))
    (BreaksSpan heap span (ElementFits heap count) (element_asked count)) found
    → IsVerdict (IsListCell heap words) (BreaksList heap cell words) found
list_by_span {heap} {words} {span} {count} cell found tells few finds =
    let slots : List ℕ = span_words heap span in
    finds_same (AreElements heap count slots) (IsListCell heap words)
    (BreaksSpan heap span (ElementFits heap count) (element_asked count)) (BreaksList heap cell words) found
    (λ each. list_from heap words tells.word count span tells.slot tells.counted (omega arith)
    (beside_spans heap kind.Store tells.word span (inl refl) tells.beside)
    (hold_values_from heap count slots (omega arith) each))
    (λ at word wanted breaks. elements_break cell tells at word wanted (span_to cell tells few at word wanted breaks))
    (λ at word wanted breaks. span_from cell tells few at word wanted (only_elements cell tells at word wanted breaks))
    finds
