-- Where the slots of a plain object stand: those of its own below its cap, and those of its property store behind it.
use Rattle.std.proofs.Common.{◌≡◌, ℕ, ◌+◌, ◌-◌, ◌<◌, ◌/◌, ◌%◌, ◌==◌, ◌&&◌, nat_lt, Bool, true, false, None, Some}
use Rattle.std.proofs.Common.{length, slice_get, get_or, refl, sym, ◌∙◌, ap, subst, arith}
use Rattle.std.proofs.lemmas.Option.{slice_get-get_or}
use Rattle.tagged_word.specs.Cells.{plain_head}
use Rattle.tagged_word.specs.Readings.{given, reference_in}
use Rattle.page_space.specs.Sizes.{AreWithin}
use Rattle.page_space.specs.Extents.{marks_start}
use Rattle.heap_model.specs.Types.{Cell}
use Rattle.heap_model.specs.Heaps.{Heap, HasCell}
use Rattle.heap_model.specs.Kinds.{HasWord, HasSlots}
use Rattle.heap_model.specs.Wholeness.{HasSizes}
use Rattle.heap_model.proofs.CellsApart.{one_at, one_words}
use Rattle.heap_model.proofs.OneBeside.{one_slots}
use Rattle.object_cells.specs.CellsAt.{HasPlainSlot, IsCapAt}
use Rattle.object_cells.proofs.CellsRead.{word_is}
use Rattle.object_cells.proofs.SlotPlaces.{own_slot, own_slot_within, StandsAt, beside_word}
use Rattle.object_cells.proofs.SlotPlaces.{beside_refers, behind_cap, behind_cap_below}
use Rattle.shape_change.specs.declared.slots.Place.TheVariants.{InObject, InStore}
use Rattle.shape_change.specs.Places.{StandsSlot}

-- a word that reads as the address of a cell does so as a quarter of it
reference_is : (word : ℕ) → (reference_in word ≡ None → ⊥) → reference_in word ≡ Some (word / 4)
reference_is word some = given_there (word % 4 == 1 && nat_lt (word / 4) 4294967296) (word / 4) some
  where
    given_there : (test : Bool) (x : ℕ) → (given test x ≡ None → ⊥) → given test x ≡ Some x
    given_there true x some = refl
    given_there false x some = absurd (some refl)

-- The word that refers to the store was read: it is four times its address, and 1, and the slot stands there.
pub record StoredSlot (heap : Heap) (slot read x : ℕ) : Type 0 where
  pub refers : reference_in read ≡ Some (read / 4)
  pub stands : StandsAt heap (read / 4 + (2 + slot)) x

module _ {heap : Heap} {object : ℕ} where
  -- the cell at an address has one cap
  pub one_cap : {slot : ℕ} (a b : ℕ) → HasPlainSlot heap object slot → IsCapAt heap object a → IsCapAt heap object b
      → a ≡ b
  one_cap a b there is is' =
      sym (is there.cell there.words there.has there.stands) ∙ is' there.cell there.words there.has there.stands

  -- a slot below the cap ends before the marks
  pub own_within : (slot cap : ℕ) → HasSizes heap → IsCapAt heap object cap → HasPlainSlot heap object slot → slot < cap
      → object + (plain_head + slot) < marks_start heap.space
  own_within slot cap sized caps there below =
      let is = caps there.cell there.words there.has there.stands in
      let within = own_slot_within slot sized there.has there.plain (omega (arith, is, below)) in
      omega (arith, within, there.stands)

  -- and stands in the object
  pub own_stands : (slot cap : ℕ) → IsCapAt heap object cap → HasPlainSlot heap object slot → slot < cap
      → StandsSlot heap object slot (InObject (plain_head + slot))
  own_stands slot cap caps there below cell words slots has stands are =
      let same : there.cell ≡ cell = one_at there.has has (there.stands ∙ sym stands) in
      let plain = ap (λ (one : Cell). one.layout.kind) (sym same) ∙ there.plain in
      ap (λ at. slice_get heap.words (at + (plain_head + slot))) (sym stands)
      ∙ own_slot slot has plain are (omega (arith, caps cell words has stands, below))

  -- so it is where a plain object has a slot behind the cap
  pub stored_slot : (slot cap read : ℕ) → HasSizes heap → AreWithin heap.space.sizes heap.space.variables
      → IsCapAt heap object cap → (there : HasPlainSlot heap object (cap + slot))
      → slice_get heap.words (object + 1) ≡ Some read → StoredSlot heap slot read (get_or there.slots (cap + slot) 0)
  stored_slot slot cap read sized within caps there reads =
      let is = caps there.cell there.words there.has there.stands in
      let x : ℕ = get_or there.slots (cap + slot) 0 in
      let behind : cap + slot - cap ≡ slot = omega arith in
      let same : read ≡ there.are.store =
      word_is 1 there.are.store read object there.has there.stands there.are.slot reads in
      let below : slot < length there.are.beside =
      subst (λ n. n < length there.are.beside) behind
      (behind_cap_below (cap + slot) cap there.has there.plain there.are is (omega arith) there.below) in
      let some : reference_in read ≡ None → ⊥ = λ none.
      beside_refers there.are.store there.are.beside slot sized within there.are.stands below
      (ap reference_in (sym same) ∙ none) in
      let here : HasWord there.are.beside slot x =
      ap (slice_get there.are.beside) (sym behind)
      ∙ behind_cap (cap + slot) cap there.has there.plain there.are is (omega arith)
      ∙ slice_get-get_or there.slots (cap + slot) 0 there.below in
      let refers = reference_is read some in
      record {
        refers = refers;
        stands = beside_word there.are.store there.are.beside (read / 4) slot x sized there.are.stands
            (ap reference_in (sym same) ∙ refers) here;
      }

  -- it stands in the store
  pub stored_stands : (slot cap read : ℕ) → HasSizes heap → AreWithin heap.space.sizes heap.space.variables
      → IsCapAt heap object cap → HasPlainSlot heap object (cap + slot) → slice_get heap.words (object + 1) ≡ Some read
      → StandsSlot heap object (cap + slot) (InStore (read / 4) (2 + slot))
  stored_stands slot cap read sized within caps there reads cell words slots has stands are =
      let same : there.cell ≡ cell = one_at there.has has (there.stands ∙ sym stands) in
      let has_one = subst (λ (one : Cell). HasCell heap one there.words) same there.has in
      let are_one = subst (λ all. HasSlots heap all there.slots) (one_words has_one has) there.are in
      (stored_slot slot cap read sized within caps there reads).stands.stands
      ∙ sym (slice_get-get_or there.slots (cap + slot) 0 there.below)
      ∙ ap (λ all. slice_get all (cap + slot)) (one_slots are_one are)
