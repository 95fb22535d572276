-- The slots of a list that was trimmed: each slot of its store is one of the old store. And what stands beside it is
-- its own.
use Rattle.std.proofs.Common.{◌≡◌, ℕ, ◌+◌, ◌<◌, ◌⊎◌, List, []}
use Rattle.std.proofs.Common.{◌∷◌, ◌++◌, drop, Contains, slice_get, IsTrue, false}
use Rattle.std.proofs.Common.{inl, inr, refl, sym, ◌∙◌, ap, subst, arith}
use Rattle.std.proofs.lemmas.List.Elements.{Contains-append_cases}
use Rattle.heap_model.specs.Types.{Kind, Value, Cell}
use Rattle.tagged_word.specs.declared.layout.Kind.TheVariants as kind
use Rattle.tagged_word.specs.Cells.{store_slot, store_head, is_object_kind}
use Rattle.tagged_word.proofs.Members.{one_in}
use Rattle.heap_model.specs.Heaps.{Heap, words_of_cell}
use Rattle.heap_model.specs.Slots.{reference_word, HoldsStore}
use Rattle.heap_model.specs.Kinds.{HasWord}
use Rattle.heap_model.specs.Wholeness.{NamesFrom}
use Rattle.heap_model.specs.Slots.{RefersTo}
use Rattle.heap_model.specs.Changes.{IsNewPlace}
use Rattle.heap_model.proofs.BoundHeaps.{none_in}
use Rattle.heap_model.proofs.CellsApart.{IsOfCell, cells_apart, first_of_cell}
use Rattle.heap_model.proofs.CellWords.{words_by_kind, words_are_size}
use Rattle.heap_model.proofs.OneOwner.{names_store}
use Rattle.object_cells.specs.ElementChanges.{HasElements}
use Rattle.object_cells.proofs.NumberedSlots.{is_store_of}
use Rattle.object_cells.proofs.OwnCells.{list_size}
use Rattle.object_cells.proofs.SlotsNow.{word_at_offset}
use Rattle.object_cells.proofs.ListChanging.{slot_stands, slot_few}
use Rattle.object_cells.proofs.OwnSteps.{OwnStep, OwnWriting}
use Rattle.array_trim.proofs.TrimmedCells.{IsFreeCell, Trimming, trimmed_cells, list_now, store_now}

-- a free cell is no object's
free_is_no_object : {k : Kind} → (k ≡ kind.Filler) ⊎ (k ≡ kind.Gap) → is_object_kind k ≡ false
free_is_no_object (inl is) = ap is_object_kind is
free_is_no_object (inr is) = ap is_object_kind is

module _ {old new : Heap} {cell store came : Cell} {pieces : List Cell} {before after : List Value} {from : ℕ}
    (trim : Trimming old new cell store came pieces before after from) where
  -- the list's cell is an object's
  pub is_object : IsTrue (is_object_kind cell.layout.kind)
  is_object = ap is_object_kind trim.shown.of_kind

  -- what came beside it is the store that came, or free
  pub came_cases : (one : Cell) → Contains (pieces ++ []) one → (came ≡ one) ⊎ IsFreeCell one
  came_cases one there = elim (Contains-append_cases pieces [] one there) [
    | inl among ↦ trim.each one among
    | inr none ↦ absurd (none_in one none)
  ]

  -- none of the cells that went beside it is a box
  pub went_no_box : (one : Cell) → Contains (store ∷ []) one → one.layout.kind ≡ kind.Boxed → ⊥
  went_no_box one there box =
      let apart : kind.Store ≡ kind.Boxed =
      sym trim.of_kind ∙ ap (λ (c : Cell). c.layout.kind) (one_in store one there) ∙ box in
      cc

  -- of the cells that went, only the list's is an object's
  pub trim_step : OwnStep old new cell cell (store ∷ []) pieces []
  trim_step = record {
    whole = trim.whole;
    cells = (trimmed_cells trim).1;
    object = is_object;
    same_kind = refl;
    place = refl;
    number = refl;
    went_none = λ one there. ap (λ (c : Cell). is_object_kind c.layout.kind) (sym (one_in store one there))
        ∙ ap is_object_kind trim.of_kind;
    boxes = λ one there box. absurd (went_no_box one there box);
  }

  -- the slots of the store that came
  abbrev pub slots_now : List ℕ
  slots_now = drop store_head (words_of_cell new came)

  -- the list's cell refers to the store that came
  pub refers_now : RefersTo new (reference_word came.at) came (words_of_cell new came)
  refers_now = record { refers = refl; has = store_now trim }

  -- so they are the list's
  abbrev pub elements_now : HasElements new (words_of_cell new cell) slots_now
  elements_now = record {
    store = reference_word came.at;
    slot = word_at_offset store_slot (list_now trim) (omega (arith, list_size (list_now trim) trim.shown.of_kind))
        ∙ trim.slot;
    stands = HoldsStore.store (reference_word came.at) came (words_of_cell new came) refers_now trim.still_store;
  }

  -- the slots that the list had
  pub slots_were : HasElements old (words_of_cell old cell) trim.shown.slots
  slots_were = record { store = trim.shown.store; slot = trim.shown.slot; stands = trim.shown.has }

  -- these were those of its store
  pub were_of_store : trim.shown.slots ≡ drop store_head (words_of_cell old store)
  were_of_store = (is_store_of trim.shown.store trim.shown.slots trim.shown.has trim.refers).are

  -- a slot holds what one of the old store held
  pub slot_was : (k word : ℕ) → HasWord slots_now k word → HasWord trim.shown.slots (from + k) word
  slot_was k word there =
      let below : k < came.length = slot_few k word (store_now trim) trim.still_store there in
      ap (λ all. slice_get all (from + k)) were_of_store
      ∙ slot_stands (from + k) trim.refers.has trim.of_kind (omega (arith, below, trim.room))
      ∙ sym (trim.slots k below) ∙ sym (slot_stands k (store_now trim) trim.still_store below) ∙ there

  -- the list named its store
  pub store_named : NamesFrom old cell (cell.at + store_slot) store.at
  store_named = names_store trim.shown.store trim.has is_object trim.shown.slot trim.refers (inl trim.of_kind)

  -- where the store that came begins later, none began
  pub later_is_new : 0 < from → IsNewPlace old came.at
  later_is_new some other words has same =
      let sizes : store.size ≡ store_head + store.length =
      sym (words_are_size trim.refers.has) ∙ words_by_kind kind.Store trim.refers.has trim.of_kind in
      let inside : IsOfCell store came.at = record {
        from = omega (arith, trim.place);
        below = omega (arith, trim.place, trim.room, sizes);
      } in
      let of_other : IsOfCell other came.at = subst (IsOfCell other) same (first_of_cell has) in
      let one : other ≡ store = cells_apart came.at trim.whole.rows has trim.refers.has of_other inside in
      absurd (omega (arith, some, trim.place, same, ap (λ (c : Cell). c.at) one))

  -- so the store that went is the list's own, and of those that came only its own is an object's
  pub trim_writing : OwnWriting old new cell cell (store ∷ []) pieces []
  trim_writing = record {
    step = trim_step;
    belong = λ one there. (
      cell.at + store_slot,
      subst (λ (c : Cell). NamesFrom old cell (cell.at + store_slot) c.at) (one_in store one there) store_named,
    );
    came_none = λ one there. elim (came_cases one there) [
      | inl same ↦ ap (λ (c : Cell). is_object_kind c.layout.kind) (sym same) ∙ ap is_object_kind trim.still_store
      | inr free ↦ free_is_no_object free.of_kind
    ];
  }
