-- The slots of a list by their numbers: that of its store, and those in its store.
use Rattle.std.proofs.Common.{◌≡◌, ℕ, ◌+◌, List, sym, ◌∙◌, ap, subst, arith}
use Rattle.std.proofs.lemmas.Option.{same_Some}
use Rattle.tagged_word.specs.declared.layout.Kind.TheVariants as kind
use Rattle.tagged_word.specs.Layouts.{HasNoInObjectSlots, IsLayoutOfKind}
use Rattle.tagged_word.specs.Cells.{store_slot}
use Rattle.tagged_word.proofs.Members.{one_in}
use Rattle.heap_model.specs.Types.{Cell}
use Rattle.heap_model.specs.Heaps.{Heap, HasCell}
use Rattle.heap_model.specs.Slots.{HoldsStore}
use Rattle.heap_model.specs.Kinds.{HasWord, IsListCell, IsSoundOf}
use Rattle.heap_model.specs.Wholeness.{Whole, HasSlotAt}
use Rattle.heap_model.proofs.CellsApart.{has_is_cell}
use Rattle.heap_model.proofs.CellWords.{slots_of_kind}
use Rattle.object_cells.specs.ElementChanges.{HasElements}
use Rattle.object_cells.proofs.SlotNumbers.{IsSlotOf}
use Rattle.object_cells.proofs.NumberedSlots.{IsNumbered, SlotOfNumber, beside_number, beside_slot}

-- a list has no in-object slots
pub list_cap : {heap : Heap} {cell : Cell} {words : List ℕ} → HasCell heap cell words → cell.layout.kind ≡ kind.List
    → cell.layout.cap ≡ 0
list_cap {cell = cell} has list =
    let is : HasNoInObjectSlots cell.layout =
    subst (λ k. IsLayoutOfKind k cell.layout) list (has_is_cell has).reads.is_layout in
    is.cap

-- a list of a whole heap is sound
pub list_sound : {heap : Heap} {cell : Cell} {words : List ℕ} → Whole heap → HasCell heap cell words
    → cell.layout.kind ≡ kind.List → IsListCell heap words
list_sound {heap} {cell} {words} whole has list =
    subst (λ k. IsSoundOf k heap cell words) list (whole.sound cell words has)

-- each slot of its store has an address
pub element_of_number : {heap : Heap} {cell : Cell} {words slots : List ℕ} (k word : ℕ) → HasCell heap cell words
    → cell.layout.kind ≡ kind.List → HasElements heap words slots → HasWord slots k word
    → SlotOfNumber heap cell words k word
element_of_number {slots = slots} k word has list are there =
    beside_number are.store slots k k word are.slot are.stands there (omega (arith, list_cap has list))

-- each slot of a list is that of its store, or has a number
pub element_slot : {heap : Heap} {cell : Cell} {words slots : List ℕ} {at word : ℕ} → HasCell heap cell words
    → cell.layout.kind ≡ kind.List → HasElements heap words slots → HasSlotAt heap cell words at word
    → IsSlotOf cell words (HasWord slots) (IsNumbered heap cell words) at word
element_slot {cell = cell} {words} has list are (HasSlotAt.own offset word there stands) =
    let same : store_slot ≡ offset = one_in store_slot offset (slots_of_kind cell kind.List offset list there) in
    IsSlotOf.of_store (ap (λ n. cell.at + n) (sym same)) (subst (λ n. HasWord words n word) (sym same) stands)
element_slot {heap} {cell} {words} {slots} has list are
    (HasSlotAt.beside store other others offset word slot refers there stands) =
    let same : are.store ≡ store = same_Some are.store store (sym are.slot ∙ slot) in
    let slots_there : HoldsStore heap kind.Store store slots =
    subst (λ w. HoldsStore heap kind.Store w slots) same are.stands in
    let found = beside_slot {cell = cell} store offset word slot slots_there refers there stands in
    let number : cell.layout.cap + found.k ≡ found.k = omega (arith, list_cap has list) in
    IsSlotOf.of_number found.k found.there
    (subst (λ n. IsNumbered heap cell words n (other.at + offset)) number found.numbered)
