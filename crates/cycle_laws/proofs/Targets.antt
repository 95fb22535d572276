-- What slots and pairs of a whole heap refer to: an object, or what an object owns.
use Rattle.std.proofs.Common.{◌≡◌, ℕ, suc, ◌+◌, ◌*◌, ◌<◌, inl, inr, List, drop, Some, Contains, IsTrue}
use Rattle.std.proofs.Common.{refl, sym, ◌∙◌, ap, subst, arith}
use Rattle.std.proofs.lemmas.Bool.{false≢true}
use Rattle.tagged_word.specs.declared.layout.Kind.TheVariants as kind
use Rattle.tagged_word.specs.Cells.{tagged_offsets_of, store_head, is_free_kind}
use Rattle.tagged_word.proofs.Members.{in_range}
use Rattle.heap_model.specs.Types.{Kind, Cell}
use Rattle.heap_model.specs.Heaps.{Heap, HasCell}
use Rattle.heap_model.specs.Slots.{reference_word, IsSlotWord, IsPlace, RefersTo}
use Rattle.heap_model.specs.Kinds.{HasWord, IsSoundOf}
use Rattle.heap_model.specs.Wholeness.{IsOwnedKind, Whole}
use Rattle.heap_model.proofs.StaysCollectable.{object_not_free, owned_not_free}
use Rattle.heap_model.proofs.CellWords.{slots_by_kind, words_by_kind, behind_head, behind_head_few}
use Rattle.heap_model.proofs.ObjectSlots.{pair_words}
use Rattle.heap_model.proofs.SlotWords.{IsStoreWord, store_is_owned}
use Rattle.heap_model.proofs.SlotsHold.{Holding, own_slot_holds, beside_holds}
use Rattle.heap_model.proofs.WordClasses.{same_reference, undefined_refers_not, hole_refers_not, small_refers_not}
use Rattle.live_cells.specs.Live.{HasSlotTo, HasEntry}
use Rattle.cycle_laws.specs.Changes.{IsOwnedAt}

-- an object stands at the address, or what an object owns
pub data StandsAt (heap : Heap) (at : ℕ) : Type 0 where
  an_object : (number : ℕ) → IsPlace heap number at → StandsAt heap at
  an_owned : IsOwnedAt heap at → StandsAt heap at

-- so a cell stands there that is not free
pub record HasCellAt (heap : Heap) (at : ℕ) : Type 0 where
  pub cell : Cell
  pub words : List ℕ
  pub has : HasCell heap cell words
  pub stands : cell.at ≡ at
  pub used : IsTrue (is_free_kind cell.layout.kind) → ⊥

-- what stands at an address has such a cell
pub cell_there : {heap : Heap} {at : ℕ} → StandsAt heap at → HasCellAt heap at
cell_there (StandsAt.an_object number place) = record {
  cell = place.cell;
  words = place.words;
  has = place.has;
  stands = place.stands;
  used = object_not_free place.cell.layout.kind place.object;
}
cell_there (StandsAt.an_owned owned) = record {
  cell = owned.cell;
  words = owned.words;
  has = owned.has;
  stands = owned.stands;
  used = owned_not_free owned.cell.layout.kind owned.owned;
}

-- what a reference refers to that is owned
owned_target : {heap : Heap} {word : ℕ} {cell : Cell} {words : List ℕ} (at : ℕ) → word ≡ reference_word at
    → RefersTo heap word cell words → IsOwnedKind cell.layout.kind → StandsAt heap at
owned_target {cell = cell} {words} at is refers owned = StandsAt.an_owned (record {
  cell = cell;
  words = words;
  has = refers.has;
  stands = same_reference cell.at at (sym refers.refers ∙ is);
  owned = owned;
})

-- what a slot word refers to
slot_word_target : {heap : Heap} {word : ℕ} (at : ℕ) → word ≡ reference_word at → IsSlotWord heap word
    → StandsAt heap at
slot_word_target at is (IsSlotWord.small_integer v range) = absurd (small_refers_not v at is)
slot_word_target at is IsSlotWord.undefined = absurd (undefined_refers_not at is)
slot_word_target at is IsSlotWord.hole = absurd (hole_refers_not at is)
slot_word_target {heap} at is (IsSlotWord.object word refers) =
    let same : refers.1.at ≡ at = same_reference refers.1.at at (sym refers.1.refers ∙ is) in
    StandsAt.an_object refers.0 (subst (IsPlace heap refers.0) same refers.1.place)
slot_word_target at is (IsSlotWord.boxed word v refers) =
    owned_target at is refers.target (subst IsOwnedKind (sym refers.box) tt)

-- what a slot of an object refers to
held_target : {heap : Heap} {word : ℕ} (at : ℕ) → word ≡ reference_word at → Holding heap word → StandsAt heap at
held_target at is (Holding.to_store (IsStoreWord.none same)) = absurd (undefined_refers_not at (sym same ∙ is))
held_target at is (Holding.to_store (IsStoreWord.store cell words refers of_kind)) =
    owned_target at is refers (store_is_owned of_kind)
held_target at is (Holding.as_slot holds) = slot_word_target at is holds

-- what a slot refers to that marking visits, kind by kind
tagged_target : {heap : Heap} {cell : Cell} {words : List ℕ} (k : Kind) (offset at : ℕ) → Whole heap
    → HasCell heap cell words → cell.layout.kind ≡ k → Contains (tagged_offsets_of k cell.layout cell.length) offset
    → HasWord words offset (reference_word at) → StandsAt heap at
tagged_target {heap} {cell} {words} kind.Plain offset at whole has is there slot =
    let sound = subst (λ k. IsSoundOf k heap cell words) is (whole.sound cell words has) in
    held_target at refl (own_slot_holds kind.Plain offset (reference_word at) whole.sized has refl sound there slot)
tagged_target {heap} {cell} {words} kind.List offset at whole has is there slot =
    let sound = subst (λ k. IsSoundOf k heap cell words) is (whole.sound cell words has) in
    held_target at refl (own_slot_holds kind.List offset (reference_word at) whole.sized has refl sound there slot)
tagged_target {heap} {cell} {words} kind.Weak offset at whole has is there slot =
    let sound = subst (λ k. IsSoundOf k heap cell words) is (whole.sound cell words has) in
    held_target at refl (own_slot_holds kind.Weak offset (reference_word at) whole.sized has refl sound there slot)
tagged_target {cell = cell} {words} kind.Store offset at whole has is there slot =
    slot_word_target at refl (beside_holds cell words offset (reference_word at) (whole.sound cell words has) (inl is)
    (slots_by_kind cell kind.Store offset is there) slot)
tagged_target _ offset at whole has is there slot = absurd (omega (arith, there.1))

-- what a slot leads to
pub slot_target : {heap : Heap} (from at : ℕ) → Whole heap → HasSlotTo heap from at → StandsAt heap at
slot_target from at whole slot =
    tagged_target slot.cell.layout.kind slot.offset at whole slot.has refl slot.visited slot.holds

-- a cell with a slot that marking visits is not free, kind by kind
slotted_used : (k : Kind) (cell : Cell) (offset : ℕ) → Contains (tagged_offsets_of k cell.layout cell.length) offset
    → IsTrue (is_free_kind k) → ⊥
slotted_used kind.Filler cell offset there free = omega (arith, there.1)
slotted_used kind.Gap cell offset there free = omega (arith, there.1)
slotted_used _ cell offset there free = false≢true free

-- so the cell of such a slot is not free
pub slot_is_used : {heap : Heap} {from at : ℕ} → (slot : HasSlotTo heap from at)
    → IsTrue (is_free_kind slot.cell.layout.kind) → ⊥
slot_is_used slot = slotted_used slot.cell.layout.kind slot.cell slot.offset slot.visited

-- nor is a table
pub entry_is_used : {heap : Heap} {table key at : ℕ} → (entry : HasEntry heap table key at)
    → IsTrue (is_free_kind entry.cell.layout.kind) → ⊥
entry_is_used entry free = false≢true (sym (ap is_free_kind entry.of_kind) ∙ free)

module _ {heap : Heap} {table key at : ℕ} (whole : Whole heap) (entry : HasEntry heap table key at) where
  -- what a word of a pair refers to
  pair_word_target : (k to : ℕ) → HasWord (drop store_head entry.words) k (reference_word to) → StandsAt heap to
  pair_word_target k to there =
      let cell : Cell = entry.cell in
      let long = words_by_kind kind.Table entry.has entry.of_kind in
      let few : k < 2 * cell.length =
      behind_head_few entry.words k (2 * cell.length) (reference_word to) long there in
      slot_word_target to refl
      (beside_holds cell entry.words (store_head + k) (reference_word to) (whole.sound cell entry.words entry.has)
      (inr entry.of_kind)
      (slots_by_kind cell kind.Table (store_head + k) entry.of_kind
      (in_range store_head (2 * cell.length) (store_head + k) (omega arith) (omega (arith, few))))
      (behind_head entry.words k (reference_word to) there))

  -- so the key stands there, and the value
  pub key_target : StandsAt heap key
  key_target =
      let there = pair_words (drop store_head entry.words) entry.place (2 * entry.place) entry.pair refl entry.among in
      pair_word_target (2 * entry.place) key (there.0 ∙ ap (λ (one : ℕ). Some one) entry.key_is)

  pub value_target : StandsAt heap at
  value_target =
      let place : ℕ = 2 * entry.place in
      let there = pair_words (drop store_head entry.words) entry.place place entry.pair refl entry.among in
      pair_word_target (suc place) at (there.1 ∙ ap (λ (one : ℕ). Some one) entry.value_is)
