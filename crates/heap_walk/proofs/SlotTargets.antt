-- What a slot or a variable refers to is a cell that is not free; and the words of a cell by their addresses.
use Rattle.std.proofs.Common.{◌≡◌, ℕ, ◌+◌, ◌<◌, Bool, true, false, IsTrue, List, [], Some, Contains}
use Rattle.std.proofs.Common.{ℤ, slice_get, refl, sym, ◌∙◌, ap, subst, inl, inr, arith}
use Rattle.std.specs.Prelude.{slice_index}
use Rattle.std.proofs.lemmas.Bool.{false≢true}
use Rattle.std.proofs.lemmas.Option.{unwrap_or-slice_get, slice_get-get_or}
use Rattle.tagged_word.specs.declared.layout.Kind.TheVariants as kind
use Rattle.tagged_word.specs.Words.{small}
use Rattle.tagged_word.specs.Cells.{scavenge_offsets_of, is_free_kind}
use Rattle.page_space.proofs.Lists.{contains_none}
use Rattle.handle_roots.specs.declared.held.Held.{Held}
use Rattle.handle_roots.specs.declared.held.Held.TheVariants as held
use Rattle.handle_roots.specs.Roots.{first_of, first_word}
use Rattle.heap_model.specs.Types.{Kind, Cell}
use Rattle.heap_model.specs.Heaps.{Heap, HasCell}
use Rattle.heap_model.specs.Slots.{reference_word, IsSlotWord, RefersTo, IsPlace}
use Rattle.heap_model.specs.Kinds.{HasWord, IsSoundOf, IsSoundCell}
use Rattle.heap_model.specs.Wholeness.{IsHeld, HasSizes}
use Rattle.heap_model.proofs.WordClasses.{same_reference, undefined_refers_not, hole_refers_not, small_refers_not}
use Rattle.heap_model.proofs.CellsApart.{has_is_cell}
use Rattle.heap_model.proofs.WordsRead.{word_of_cell}
use Rattle.heap_model.proofs.SlotWords.{IsStoreWord, store_is_owned}
use Rattle.heap_model.proofs.StaysCollectable.{object_not_free, owned_not_free}
use Rattle.heap_model.proofs.SlotsHold.{Holding, own_slot_holds, beside_holds}

-- a cell of the heap that is not free stands at the address
pub record IsUsedAt (heap : Heap) (at : ℕ) : Type 0 where
  pub cell : Cell
  pub words : List ℕ
  pub has : HasCell heap cell words
  pub stands : cell.at ≡ at
  pub used : IsTrue (is_free_kind cell.layout.kind) → ⊥

-- what a reference refers to stands at its address
to_cell : {heap : Heap} {word : ℕ} {cell : Cell} {words : List ℕ} (at : ℕ) → word ≡ reference_word at
    → RefersTo heap word cell words → (IsTrue (is_free_kind cell.layout.kind) → ⊥) → IsUsedAt heap at
to_cell {cell = cell} {words} at is refers used = record {
  cell = cell;
  words = words;
  has = refers.has;
  stands = same_reference cell.at at (sym refers.refers ∙ is);
  used = used;
}

-- an object of a place stands there
of_place : {heap : Heap} {number : ℕ} (at : ℕ) → IsPlace heap number at → IsUsedAt heap at
of_place at place = record {
  cell = place.cell;
  words = place.words;
  has = place.has;
  stands = place.stands;
  used = object_not_free place.cell.layout.kind place.object;
}

-- a slot word that is a reference refers to a cell
slot_to_cell : {heap : Heap} {word : ℕ} (at : ℕ) → word ≡ reference_word at → IsSlotWord heap word → IsUsedAt heap at
slot_to_cell at is (IsSlotWord.small_integer v range) = absurd (small_refers_not v at is)
slot_to_cell at is IsSlotWord.undefined = absurd (undefined_refers_not at is)
slot_to_cell at is IsSlotWord.hole = absurd (hole_refers_not at is)
slot_to_cell {heap} at is (IsSlotWord.object word refers) =
    let same : refers.1.at ≡ at = same_reference refers.1.at at (sym refers.1.refers ∙ is) in
    of_place at (subst (IsPlace heap refers.0) same refers.1.place)
slot_to_cell at is (IsSlotWord.boxed word v refers) =
    to_cell at is refers.target (λ free. false≢true (sym (ap is_free_kind refers.box) ∙ free))

-- so does the slot of a store or a table
store_to_cell : {heap : Heap} {word : ℕ} (at : ℕ) → word ≡ reference_word at → IsStoreWord heap word → IsUsedAt heap at
store_to_cell at is (IsStoreWord.none same) = absurd (undefined_refers_not at (sym same ∙ is))
store_to_cell at is (IsStoreWord.store cell words refers of_kind) =
    to_cell at is refers (owned_not_free cell.layout.kind (store_is_owned of_kind))

-- so does each slot of an object
held_to_cell : {heap : Heap} {word : ℕ} (at : ℕ) → word ≡ reference_word at → Holding heap word → IsUsedAt heap at
held_to_cell at is (Holding.to_store holds) = store_to_cell at is holds
held_to_cell at is (Holding.as_slot holds) = slot_to_cell at is holds

-- what a slot of a cell refers to is a cell, kind by kind
pub kind_to_cell : {heap : Heap} {cell : Cell} {words : List ℕ} (k : Kind) (offset word at : ℕ) → HasSizes heap
    → HasCell heap cell words → cell.layout.kind ≡ k → IsSoundCell heap cell words
    → Contains (scavenge_offsets_of k cell.layout cell.length) offset → HasWord words offset word
    → word ≡ reference_word at → IsUsedAt heap at
kind_to_cell {heap} {cell} {words} kind.Plain offset word at sized has of_kind sound there slot is =
    held_to_cell at is (own_slot_holds kind.Plain offset word sized has refl
    (subst (λ k. IsSoundOf k heap cell words) of_kind sound) there slot)
kind_to_cell {heap} {cell} {words} kind.List offset word at sized has of_kind sound there slot is =
    held_to_cell at is (own_slot_holds kind.List offset word sized has refl
    (subst (λ k. IsSoundOf k heap cell words) of_kind sound) there slot)
kind_to_cell {heap} {cell} {words} kind.Weak offset word at sized has of_kind sound there slot is =
    held_to_cell at is (own_slot_holds kind.Weak offset word sized has refl
    (subst (λ k. IsSoundOf k heap cell words) of_kind sound) there slot)
kind_to_cell {heap} {cell} {words} kind.Store offset word at sized has of_kind sound there slot is =
    let own = subst (λ k. Contains (scavenge_offsets_of k cell.layout cell.length) offset) (sym of_kind) there in
    slot_to_cell at is (beside_holds cell words offset word sound (inl of_kind) own slot)
kind_to_cell {heap} {cell} {words} kind.Table offset word at sized has of_kind sound there slot is =
    let own = subst (λ k. Contains (scavenge_offsets_of k cell.layout cell.length) offset) (sym of_kind) there in
    slot_to_cell at is (beside_holds cell words offset word sound (inr of_kind) own slot)
kind_to_cell kind.Boxed offset word at sized has of_kind sound there slot is = contains_none [] offset refl there
kind_to_cell kind.Filler offset word at sized has of_kind sound there slot is = contains_none [] offset refl there
kind_to_cell kind.Gap offset word at sized has of_kind sound there slot is = contains_none [] offset refl there

-- the word of a slot of a cell, as it is read at its address
pub word_reads : {heap : Heap} {cell : Cell} {words : List ℕ} (offset word : ℕ) → HasCell heap cell words
    → HasWord words offset word → slice_index heap.words (cell.at + offset) ≡ word
word_reads {heap} {cell} offset word has there =
    sym (unwrap_or-slice_get heap.words (cell.at + offset) 0) ∙ word_of_cell offset word has there

-- the word of a slot of a cell, as it is found at its address
pub word_found : {heap : Heap} {cell : Cell} {words : List ℕ} (offset word : ℕ) → HasCell heap cell words
    → offset < cell.size → HasWord words offset word → slice_get heap.words (cell.at + offset) ≡ Some word
word_found {heap} {cell} offset word has within there =
    slice_get-get_or heap.words (cell.at + offset) 0 (omega (arith, within, (has_is_cell has).reads.there))
    ∙ ap (λ (n : ℕ). Some n) (word_reads offset word has there)

-- no integer in a root word is a reference
no_integer : (b : Bool) (v : ℤ) (at : ℕ) → first_of b v ≡ reference_word at → ⊥
no_integer true v at is = small_refers_not v at is
no_integer false v at is = omega (arith, is)

-- what a variable holds by reference is a cell
pub held_target : (heap : Heap) (what : Held) (at : ℕ) → IsHeld heap what → first_word what ≡ reference_word at
    → IsUsedAt heap at
held_target heap held.Unbound at is refers = absurd (omega (arith, refers))
held_target heap held.Undefined at is refers = absurd (omega (arith, refers))
held_target heap (held.Int v) at is refers = absurd (no_integer (small v) v at refers)
held_target heap (held.Ref to) at is refers =
    of_place at (subst (IsPlace heap is.0) (same_reference to at refers) is.1)
