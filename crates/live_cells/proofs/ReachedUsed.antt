-- What references lead to in a whole heap is no free cell.
use Rattle.std.proofs.Common.{◌≡◌, ℕ, inl, inr, List, Some, Contains, slice_get, IsTrue, refl, sym}
use Rattle.std.proofs.Common.{◌∙◌, ap, subst, arith, unwrap_or}
use Rattle.std.proofs.lemmas.Bool.{false≢true}
use Rattle.std.proofs.lemmas.Option.{same_Some}
use Rattle.tagged_word.specs.declared.layout.Kind.TheVariants as kind
use Rattle.tagged_word.specs.Words.{small}
use Rattle.tagged_word.specs.Cells.{scavenge_offsets_of, is_free_kind}
use Rattle.cell_layout.proofs.OneCell.{slots_lie_within}
use Rattle.handle_roots.specs.declared.held.Held.TheVariants as held
use Rattle.handle_roots.specs.Roots.{first_word}
use Rattle.heap_model.specs.Types.{Kind, Cell, Held}
use Rattle.heap_model.specs.Heaps.{Heap, HasCell}
use Rattle.heap_model.specs.Slots.{reference_word, IsPlace, RefersTo, IsSlotWord}
use Rattle.heap_model.specs.Kinds.{HasWord, IsSoundOf}
use Rattle.heap_model.specs.Wholeness.{IsHeld, Whole}
use Rattle.heap_model.specs.Reaching.{IsReached}
use Rattle.heap_model.specs.Remembered.{IsPageSlot}
use Rattle.heap_model.proofs.WordClasses.{same_reference, undefined_refers_not, hole_refers_not, small_refers_not}
use Rattle.heap_model.proofs.CellsApart.{has_is_cell, one_at}
use Rattle.heap_model.proofs.CellWords.{word_there, slots_by_kind}
use Rattle.heap_model.proofs.WordsRead.{word_of_cell}
use Rattle.heap_model.proofs.SlotWords.{IsStoreWord, store_is_owned}
use Rattle.heap_model.proofs.SlotsHold.{Holding, own_slot_holds, beside_holds}
use Rattle.heap_model.proofs.StaysCollectable.{object_not_free, owned_not_free}
use Rattle.live_cells.proofs.RootTargets.{integer_refers_not}

-- a cell that is not free stands at the address
pub record IsUsedAt (heap : Heap) (at : ℕ) : Type 0 where
  pub cell : Cell
  pub words : List ℕ
  pub has : HasCell heap cell words
  pub stands : cell.at ≡ at
  pub used : IsTrue (is_free_kind cell.layout.kind) → ⊥

-- no free cell stands there
pub used_not_free : {heap : Heap} {at : ℕ} {cell : Cell} {words : List ℕ} → IsUsedAt heap at → HasCell heap cell words
    → cell.at ≡ at → IsTrue (is_free_kind cell.layout.kind) → ⊥
used_not_free used has stands free =
    used.used (subst (λ (one : Cell). IsTrue (is_free_kind one.layout.kind))
    (one_at has used.has (stands ∙ sym used.stands)) free)

-- an object stands there
pub place_used : {heap : Heap} {number at : ℕ} → IsPlace heap number at → IsUsedAt heap at
place_used place = record {
  cell = place.cell;
  words = place.words;
  has = place.has;
  stands = place.stands;
  used = object_not_free place.cell.layout.kind place.object;
}

-- a cell to which a word refers stands at the address to which the word refers
target_used : {heap : Heap} {word : ℕ} {cell : Cell} {words : List ℕ} (at : ℕ) → RefersTo heap word cell words
    → (IsTrue (is_free_kind cell.layout.kind) → ⊥) → word ≡ reference_word at → IsUsedAt heap at
target_used {cell = cell} {words} at refers used same = record {
  cell = cell;
  words = words;
  has = refers.has;
  stands = same_reference cell.at at (sym refers.refers ∙ same);
  used = used;
}

-- what a slot word refers to
slot_used : {heap : Heap} {word : ℕ} (at : ℕ) → IsSlotWord heap word → word ≡ reference_word at → IsUsedAt heap at
slot_used at (IsSlotWord.small_integer v is) same = absurd (small_refers_not v at same)
slot_used at IsSlotWord.undefined same = absurd (undefined_refers_not at same)
slot_used at IsSlotWord.hole same = absurd (hole_refers_not at same)
slot_used {heap} at (IsSlotWord.object word refers) same =
    let there : refers.1.at ≡ at = same_reference refers.1.at at (sym refers.1.refers ∙ same) in
    subst (IsUsedAt heap) there (place_used refers.1.place)
slot_used at (IsSlotWord.boxed word v box) same =
    target_used at box.target (λ free. false≢true (sym (ap is_free_kind box.box) ∙ free)) same

-- what the slot of a store or a table refers to
store_used : {heap : Heap} {word : ℕ} (at : ℕ) → IsStoreWord heap word → word ≡ reference_word at → IsUsedAt heap at
store_used at (IsStoreWord.none is) same = absurd (undefined_refers_not at (sym is ∙ same))
store_used at (IsStoreWord.store cell words refers is) same =
    target_used at refers (owned_not_free cell.layout.kind (store_is_owned is)) same

-- what any slot of an object refers to
held_used : {heap : Heap} {word : ℕ} (at : ℕ) → Holding heap word → word ≡ reference_word at → IsUsedAt heap at
held_used at (Holding.to_store is) same = store_used at is same
held_used at (Holding.as_slot is) same = slot_used at is same

-- what a variable holds by reference
root_used : {heap : Heap} (at : ℕ) (one : Held) → IsHeld heap one → first_word one ≡ reference_word at
    → IsUsedAt heap at
root_used at held.Unbound is same = absurd (omega (arith, same))
root_used at held.Undefined is same = absurd (undefined_refers_not at same)
root_used at (held.Int v) is same = absurd (integer_refers_not (small v) v at same)
root_used {heap} at (held.Ref there) is same =
    subst (IsUsedAt heap) (same_reference there at same) (place_used is.1)

module _ {heap : Heap} (whole : Whole heap) where
  -- what a slot of a cell refers to, kind by kind
  kind_used : {cell : Cell} {words : List ℕ} (k : Kind) (offset word at : ℕ) → HasCell heap cell words
      → cell.layout.kind ≡ k → Contains (scavenge_offsets_of k cell.layout cell.length) offset
      → HasWord words offset word → word ≡ reference_word at → IsUsedAt heap at
  kind_used {cell} {words} kind.Store offset word at has of_kind there slot same =
      slot_used at (beside_holds cell words offset word (whole.sound cell words has) (inl of_kind)
      (slots_by_kind cell kind.Store offset of_kind there) slot) same
  kind_used {cell} {words} kind.Table offset word at has of_kind there slot same =
      slot_used at (beside_holds cell words offset word (whole.sound cell words has) (inr of_kind)
      (slots_by_kind cell kind.Table offset of_kind there) slot) same
  kind_used kind.Boxed offset word at has of_kind there slot same = absurd (omega (arith, there.1))
  kind_used kind.Filler offset word at has of_kind there slot same = absurd (omega (arith, there.1))
  kind_used kind.Gap offset word at has of_kind there slot same = absurd (omega (arith, there.1))
  kind_used {cell} {words} kind.Plain offset word at has of_kind there slot same =
      held_used at (own_slot_holds kind.Plain offset word whole.sized has refl
      (subst (λ one. IsSoundOf one heap cell words) of_kind (whole.sound cell words has)) there slot) same
  kind_used {cell} {words} kind.List offset word at has of_kind there slot same =
      held_used at (own_slot_holds kind.List offset word whole.sized has refl
      (subst (λ one. IsSoundOf one heap cell words) of_kind (whole.sound cell words has)) there slot) same
  kind_used {cell} {words} kind.Weak offset word at has of_kind there slot same =
      held_used at (own_slot_holds kind.Weak offset word whole.sized has refl
      (subst (λ one. IsSoundOf one heap cell words) of_kind (whole.sound cell words has)) there slot) same

  -- what a slot of a cell of a page refers to
  page_used : {slot : ℕ} (at : ℕ) → IsPageSlot heap slot → slice_get heap.words slot ≡ Some (reference_word at)
      → IsUsedAt heap at
  page_used at of_page holds =
      let is = of_page.slot in
      let within = (slots_lie_within heap.space heap.words of_page.cell is.offset (has_is_cell of_page.has)
      is.visited).within in
      let word = word_there is.offset of_page.has within in
      let read = word_of_cell is.offset word.0 of_page.has word.1 in
      let same : word.0 ≡ reference_word at =
      sym read ∙ ap (λ n. unwrap_or (slice_get heap.words n) 0) is.stands ∙ ap (λ found. unwrap_or found 0) holds in
      kind_used of_page.cell.layout.kind is.offset word.0 at of_page.has refl is.visited word.1 same

  -- what is reached is used
  pub reached_used : {at : ℕ} → IsReached heap at → IsUsedAt heap at
  reached_used (IsReached.by_variable variable at within holds) =
      let root = whole.roots variable within in
      root_used at root.held root.is (same_Some _ _ (sym root.holds.first ∙ holds))
  reached_used (IsReached.by_page slot at of_page holds) = page_used at of_page holds
  reached_used (IsReached.by_slot cell words offset at reached has there slot) =
      kind_used cell.layout.kind offset (reference_word at) at has refl there slot refl
