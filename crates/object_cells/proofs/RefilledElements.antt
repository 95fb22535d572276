-- Words of a list's own cells were written in a whole heap, and its elements become others: its words come from where
-- they may, its cell shows its new elements, and each cell that came or was made is sound. So the change is its own.
use Rattle.std.proofs.Common.{◌≡◌, ℕ, List, ◌∷◌, ◌++◌, Contains, Some, slice_get, sym, ◌∙◌, ap, subst}
use Rattle.std.proofs.lemmas.Option.{same_Some}
use Rattle.tagged_word.proofs.Members.{rest_in}
use Rattle.heap_model.specs.Types.{Value, Cell}
use Rattle.heap_model.specs.Heaps.{Heap, words_of_cell}
use Rattle.heap_model.specs.Slots.{RefersTo}
use Rattle.heap_model.specs.Kinds.{HasWord, IsSoundOf, IsSoundCell}
use Rattle.heap_model.specs.Wholeness.{Whole}
use Rattle.heap_model.specs.Showing.{ShowsValue, ShowsList}
use Rattle.heap_model.specs.Changes.{IsOwnChange}
use Rattle.heap_model.proofs.WordsStay.{shown_value}
use Rattle.object_cells.specs.ElementChanges.{WritesList, ShowsElement, RefillsElements}
use Rattle.object_cells.proofs.ListSlots.{element_of_number, element_slot}
use Rattle.object_cells.proofs.OwnerWrites.{list_owns}
use Rattle.object_cells.proofs.OwnSteps.{OwnStep, own_step, stands, own_places_stay, own_box_stays}
use Rattle.object_cells.proofs.OwnNames.{Renames, refills_rename, renamed_own}
use Rattle.object_cells.proofs.NumberedSlots.{IsNumbered, has_numbers}
use Rattle.heap_model.proofs.OneBeside.{one_beside}
use Rattle.object_cells.proofs.ShownLists.{shown_list_is_sound, list_store_sound}
use Rattle.object_cells.proofs.BesideSound.{beside_sound, came_sound}

module _ {old new : Heap} {cell : Cell} {others made : List Cell} {before after : List Value} (whole : Whole old)
    (shown : ShowsList old cell (words_of_cell old cell) before) (writes : WritesList old new cell others made)
    (slots : RefillsElements old new cell others made before after) where
  -- the cells of the list change, and no others
  abbrev step : OwnStep old new cell cell others others made
  step = own_step list_owns whole writes

  -- each word comes from where it may
  renames : Renames old new cell cell others others made (HasWord slots.slots)
      (IsNumbered old cell (words_of_cell old cell)) (HasWord slots.now) (IsNumbered new cell (words_of_cell new cell))
  renames =
      refills_rename list_owns whole writes slots.refills (has_numbers whole.rows writes.stood step.object
      (λ k word there. element_of_number k word writes.stood writes.of_kind slots.were there)
      (λ at word slot names. element_slot (stands step) writes.of_kind slots.are slot))

  -- the elements of a list have one list of slots
  one_elements : slots.slots ≡ shown.slots
  one_elements =
      let were = slots.were in
      let same : were.store ≡ shown.store = same_Some were.store shown.store (sym were.slot ∙ shown.slot) in
      one_beside were.store shown.store slots.slots shown.slots same were.stands shown.has

  -- each slot shows its element
  element_shown : (slot word : ℕ) (value : Value) → slice_get after slot ≡ Some value → HasWord slots.now slot word
      → ShowsValue new word value
  element_shown slot word value there holds = elim (slots.each_element slot word value there holds) [
    | ShowsElement.fresh shows ↦ shows
    | ShowsElement.kept was held no_box ↦
        let origin = slots.refills.origin slot in
        shown_value word (own_places_stay step) (own_box_stays step word no_box)
        (shown.each origin value word was (ap (λ all. slice_get all origin) (sym one_elements) ∙ held))
  ]

  -- so the list's cell shows its elements
  pub list_shows : ShowsList new cell (words_of_cell new cell) after
  list_shows = record {
    of_kind = writes.of_kind;
    counted = slots.counted;
    store = slots.are.store;
    slot = slots.are.slot;
    slots = slots.now;
    has = slots.are.stands;
    each = λ slot value word there holds. element_shown slot word value there holds;
  }

  -- the store that the slot refers to is the one of the elements
  one_store : slots.are.store ≡ slots.refills.store
  one_store = same_Some slots.are.store slots.refills.store (sym slots.are.slot ∙ slots.refills.has_store)

  -- each cell that came or was made is sound
  elements_sound : (one : Cell) → Contains (cell ∷ (others ++ made)) one → IsSoundCell new one (words_of_cell new one)
  unfolding list_shows
  elements_sound =
      let list = shown_list_is_sound list_shows slots.few slots.enough slots.rest in
      let sound : IsSoundOf cell.layout.kind new cell (words_of_cell new cell) =
      subst (λ k. IsSoundOf k new cell (words_of_cell new cell)) (sym writes.of_kind) list in
      came_sound others made sound (beside_sound others made list_owns writes.beside slots.refills.kinds
      (λ other there is.
      let told = slots.refills.stores other there is in
      let has = step.cells.comes other (rest_in cell (others ++ made) other there) in
      let refers : RefersTo new slots.are.store other (words_of_cell new other) =
      record { refers = one_store ∙ told.1; has = has } in
      list_store_sound list_shows slots.rest refers told.0) slots.refills.boxes)

  -- so the change of cells is the list's own
  pub elements_own : IsOwnChange old new (cell ∷ others) (cell ∷ others) made
  elements_own = renamed_own renames elements_sound
