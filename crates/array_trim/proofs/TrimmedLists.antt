-- A list that was trimmed shows the elements that stay, and the change of cells is its own.
use Rattle.std.proofs.Common.{◌≡◌, ℕ, ◌+◌, ◌<◌, ◌≤◌, List, [], ◌∷◌, ◌++◌, length, Contains, Some, slice_get}
use Rattle.std.proofs.Common.{inl, inr, sym, ◌∙◌, ap, subst, arith, length-drop}
use Rattle.std.proofs.lemmas.Option.{same_Some}
use Rattle.tagged_word.specs.declared.layout.Kind.TheVariants as kind
use Rattle.tagged_word.specs.Cells.{store_head}
use Rattle.heap_model.specs.Types.{Value, Cell}
use Rattle.heap_model.specs.Heaps.{Heap, words_of_cell}
use Rattle.heap_model.specs.Slots.{hole_word}
use Rattle.heap_model.specs.Kinds.{HasWord, IsSoundOf, IsSoundCell, count_offset}
use Rattle.heap_model.specs.Showing.{ShowsValue, ShowsList}
use Rattle.heap_model.specs.Changes.{IsOwnChange}
use Rattle.heap_model.proofs.CellWords.{words_by_kind}
use Rattle.heap_model.proofs.WordsStay.{shown_value}
use Rattle.object_cells.proofs.BesideSound.{came_sound as all_sound}
use Rattle.object_cells.proofs.ListChanging.{slot_few}
use Rattle.object_cells.proofs.ListSlots.{list_sound}
use Rattle.object_cells.proofs.OwnCells.{list_size}
use Rattle.object_cells.proofs.OwnNames.{renamed_own}
use Rattle.object_cells.proofs.OwnSteps.{own_places_stay, own_box_stays}
use Rattle.object_cells.proofs.ShownLists.{shown_list_is_sound, list_store_sound}
use Rattle.heap_model.proofs.OneBeside.{one_beside}
use Rattle.object_cells.proofs.SlotsNow.{word_at_offset}
use Rattle.array_trim.proofs.TrimmedCells.{IsFreeCell, Trimming, list_now, store_now}
use Rattle.array_trim.proofs.TrimmedSlots.{trim_step, went_no_box, came_cases, refers_now, slots_now, elements_now}
use Rattle.array_trim.proofs.TrimmedSlots.{slot_was}
use Rattle.array_trim.proofs.TrimmedNames.{trimmed_names}

-- a free cell is sound
free_sound : (heap : Heap) {cell : Cell} (words : List ℕ) → IsFreeCell cell → IsSoundCell heap cell words
free_sound heap {cell} words free = elim free.of_kind [
  | inl is ↦ subst (λ k. IsSoundOf k heap cell words) (sym is) free.no_number
  | inr is ↦ subst (λ k. IsSoundOf k heap cell words) (sym is) free.no_number
]

module _ {old new : Heap} {cell store came : Cell} {pieces : List Cell} {before after : List Value} {from : ℕ}
    (trim : Trimming old new cell store came pieces before after from) where
  -- a slot shows its element
  element_shown : (k word : ℕ) (value : Value) → slice_get after k ≡ Some value → HasWord (slots_now trim) k word
      → ShowsValue new word value
  element_shown k word value there stands =
      shown_value word (own_places_stay (trim_step trim)) (own_box_stays (trim_step trim) word (λ one among box same.
      went_no_box trim one among box))
      (trim.shown.each (from + k) value word (trim.elements k value there) (slot_was trim k word stands))

  -- the list counts the elements that stay
  counted_now : HasWord (words_of_cell new cell) count_offset (length after)
  counted_now =
      word_at_offset count_offset (list_now trim) (omega (arith, list_size (list_now trim) trim.shown.of_kind))
      ∙ trim.counted

  -- so it shows them
  pub list_shows : ShowsList new cell (words_of_cell new cell) after
  list_shows = record {
    of_kind = trim.shown.of_kind;
    counted = counted_now;
    store = (elements_now trim).store;
    slot = (elements_now trim).slot;
    slots = slots_now trim;
    has = (elements_now trim).stands;
    each = λ k value word there stands. element_shown k word value there stands;
  }

  -- a slot behind them is a hole
  rest_word : (k word : ℕ) → length after ≤ k → HasWord (slots_now trim) k word → word ≡ hole_word
  rest_word k word past stands =
      let sound = list_sound trim.whole trim.has trim.shown.of_kind in
      let below : k < came.length = slot_few k word (store_now trim) trim.still_store stands in
      let same : trim.shown.store ≡ sound.store =
      same_Some trim.shown.store sound.store (sym trim.shown.slot ∙ sound.slot) in
      let slots : trim.shown.slots ≡ sound.beside =
      one_beside trim.shown.store sound.store trim.shown.slots sound.beside same trim.shown.has sound.stands in
      let count : length before ≡ sound.count =
      same_Some (length before) sound.count (sym trim.shown.counted ∙ sound.counted) in
      sound.hold.rest (from + k) word (omega (arith, trim.rest k past below, count))
      (ap (λ all. slice_get all (from + k)) (sym slots) ∙ slot_was trim k word stands)

  -- there are slots for all
  slots_enough : length after ≤ length (slots_now trim)
  slots_enough =
      omega (
        arith,
        trim.enough,
        length-drop store_head (words_of_cell new came),
        words_by_kind kind.Store (store_now trim) trim.still_store,
      )

  -- so each cell that came is sound
  came_sound : (one : Cell) → Contains (cell ∷ (pieces ++ [])) one → IsSoundCell new one (words_of_cell new one)
  unfolding list_shows
  came_sound =
      let sound : IsSoundCell new cell (words_of_cell new cell) =
      subst (λ k. IsSoundOf k new cell (words_of_cell new cell)) (sym trim.shown.of_kind)
      (shown_list_is_sound list_shows trim.few slots_enough rest_word) in
      all_sound pieces [] sound (λ one there. elim (came_cases trim one there) [
        | inl same ↦
            let store_sound : IsSoundCell new came (words_of_cell new came) =
            subst (λ k. IsSoundOf k new came (words_of_cell new came)) (sym trim.still_store)
            (list_store_sound list_shows rest_word (refers_now trim) trim.no_number) in
            subst (λ (c : Cell). IsSoundCell new c (words_of_cell new c)) same store_sound
        | inr free ↦ free_sound new (words_of_cell new one) free
      ])

  -- so the change of cells is the list's own
  pub trimmed_own : IsOwnChange old new (cell ∷ store ∷ []) (cell ∷ pieces) []
  trimmed_own = renamed_own (trimmed_names trim) came_sound
