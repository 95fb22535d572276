-- A list's cell that shows its elements, with holes behind them, is sound, and so is its store.
use Rattle.std.proofs.Common.{◌≡◌, ℕ, ◌<◌, ◌≤◌, List, length, slice_get}
use Rattle.std.proofs.Common.{inl, inr, sym, ◌∙◌, ap, subst, arith}
use Rattle.std.proofs.lemmas.Bool.{cases_lt}
use Rattle.std.proofs.lemmas.Option.{slice_get_cases}
use Rattle.heap_model.specs.Types.{Value, Cell}
use Rattle.object_graph.specs.Meaning.{list_most}
use Rattle.heap_model.specs.Heaps.{Heap, words_of_cell}
use Rattle.heap_model.specs.Slots.{hole_word, RefersTo, IsSlotWord, IsValueWord}
use Rattle.heap_model.specs.Kinds.{HasWord, HasNoNumber, IsListCell, IsStoreCell}
use Rattle.heap_model.specs.Showing.{ShowsList}
use Rattle.heap_model.proofs.SlotWords.{value_is_slot}
use Rattle.object_cells.proofs.FieldWords.{value_word}
use Rattle.object_cells.proofs.NumberedSlots.{is_store_of}
use Rattle.object_cells.proofs.BesideSound.{store_is_sound}

module _ {heap : Heap} {cell : Cell} {words : List ℕ} {elements : List Value}
    (shows : ShowsList heap cell words elements) where
  -- a slot below the length holds the word of a value
  element_word : (slot word : ℕ) → slot < length elements → HasWord shows.slots slot word → IsValueWord heap word
  element_word slot word below holds = elim ((slice_get_cases elements slot).1) [
    | inl there ↦ value_word word there.0 (shows.each slot there.0 word there.2 holds)
    | inr past ↦ absurd (omega (arith, below, past.0))
  ]

  module _ (few : length elements ≤ list_most) (enough : length elements ≤ length shows.slots)
      (rest : (slot word : ℕ) → length elements ≤ slot → HasWord shows.slots slot word → word ≡ hole_word) where
    -- so the list's cell is sound
    pub shown_list_is_sound : IsListCell heap words
    shown_list_is_sound = record {
      store = shows.store;
      slot = shows.slot;
      beside = shows.slots;
      stands = shows.has;
      count = length elements;
      counted = shows.counted;
      few = few;
      hold = record { room = enough; each = λ slot word below holds. element_word slot word below holds; rest = rest };
    }

  -- each slot holds a slot word
  slot_word : ((slot word : ℕ) → length elements ≤ slot → HasWord shows.slots slot word → word ≡ hole_word)
      → (slot word : ℕ) → HasWord shows.slots slot word → IsSlotWord heap word
  slot_word rest slot word holds = elim (cases_lt slot (length elements)) [
    | inl below ↦ value_is_slot word (element_word slot word below holds)
    | inr past ↦ subst (IsSlotWord heap) (sym (rest slot word past holds)) IsSlotWord.hole
  ]

  -- so its store is sound
  pub list_store_sound : {other : Cell}
      → ((slot word : ℕ) → length elements ≤ slot → HasWord shows.slots slot word → word ≡ hole_word)
      → RefersTo heap shows.store other (words_of_cell heap other) → HasNoNumber other
      → IsStoreCell heap other (words_of_cell heap other)
  list_store_sound {other} rest refers no_number =
      let are = is_store_of shows.store shows.slots shows.has refers in
      store_is_sound (words_of_cell heap other) no_number
      (λ k word holds. slot_word rest k word (ap (λ all. slice_get all k) are.are ∙ holds))
