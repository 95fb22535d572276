-- What the slots of a list that was trimmed name: each named the same before, or a store stands where no cell began.
use Rattle.std.proofs.Common.{◌≡◌, ◌⊎◌, ℕ, ◌+◌, List, [], ◌∷◌, inl, inr, sym, ◌∙◌, ap, subst, arith}
use Rattle.std.proofs.lemmas.Bool.{cases_lt}
use Rattle.std.proofs.lemmas.Option.{same_Some}
use Rattle.tagged_word.specs.declared.layout.Kind.TheVariants as kind
use Rattle.tagged_word.specs.Cells.{store_slot}
use Rattle.heap_model.specs.Types.{Value, Cell}
use Rattle.heap_model.specs.Heaps.{Heap, words_of_cell}
use Rattle.heap_model.specs.Slots.{reference_word, RefersTo}
use Rattle.heap_model.specs.Kinds.{HasWord}
use Rattle.heap_model.specs.Changes.{IsNewPlace}
use Rattle.heap_model.proofs.WordClasses.{same_reference}
use Rattle.object_cells.specs.OwnSlots.{ComesFrom}
use Rattle.object_cells.proofs.ListSlots.{element_of_number, element_slot}
use Rattle.object_cells.proofs.NumberedSlots.{IsNumbered, has_numbers}
use Rattle.object_cells.proofs.OwnNames.{IsNewStore, Renames}
use Rattle.array_trim.proofs.TrimmedCells.{Trimming, list_now, store_now}
use Rattle.array_trim.proofs.TrimmedSlots.{is_object, trim_writing, slots_now, elements_now, slots_were, slot_was}
use Rattle.array_trim.proofs.TrimmedSlots.{later_is_new}

module _ {old new : Heap} {cell store came : Cell} {pieces : List Cell} {before after : List Value} {from : ℕ}
    (trim : Trimming old new cell store came pieces before after from) where
  -- the word for the store refers to the one that came
  word_is : (word : ℕ) → HasWord (words_of_cell new cell) store_slot word → reference_word came.at ≡ word
  word_is word holds = same_Some (reference_word came.at) word (sym (elements_now trim).slot ∙ holds)

  -- it is held as before, or refers to where no cell began
  store_comes : (word : ℕ) (named : Cell) (words : List ℕ) → HasWord (words_of_cell new cell) store_slot word
      → RefersTo new word named words → HasWord (words_of_cell old cell) store_slot word ⊎ IsNewStore old new named.at
  store_comes word named words holds refers = elim (cases_lt 0 from) [
    | inl some ↦
        let place : came.at ≡ named.at = same_reference came.at named.at (word_is word holds ∙ refers.refers) in
        inr (record {
          cell = came;
          words = words_of_cell new came;
          has = store_now trim;
          no_box = λ box. let apart : kind.Store ≡ kind.Boxed = sym trim.still_store ∙ box in
              cc;
          place = place;
          is_new = subst (IsNewPlace old) place (later_is_new trim some);
        })
    | inr none ↦
        let same : store.at ≡ came.at = omega (arith, trim.place, none) in
        inl (subst (HasWord (words_of_cell old cell) store_slot)
        (trim.refers.refers ∙ ap reference_word same ∙ word_is word holds) trim.shown.slot)
  ]

  -- each numbered slot has what one of the old store had that is so many later
  pub trimmed_names : Renames old new cell cell (store ∷ []) pieces [] (HasWord trim.shown.slots)
      (IsNumbered old cell (words_of_cell old cell)) (HasWord (slots_now trim))
      (IsNumbered new cell (words_of_cell new cell))
  trimmed_names = record {
    writing = trim_writing trim;
    numbers = has_numbers trim.whole.rows trim.has (is_object trim)
        (λ k word there. element_of_number k word trim.has trim.shown.of_kind (slots_were trim) there)
        (λ at word slot names. element_slot (list_now trim) trim.shown.of_kind (elements_now trim) slot);
    origin = λ k. from + k;
    apart = λ k other word another there there_too same. omega (arith, same);
    one = 0;
    each = λ k word there. ComesFrom.moved (slot_was trim k word there);
    store = store_comes;
  }
