-- The place of a slot is the address of its number.
use Rattle.std.proofs.Common.{◌≡◌, ℕ, ◌+◌, ◌-◌, ◌<◌, ◌≤◌, List, length, Some}
use Rattle.std.proofs.Common.{refl, sym, ◌∙◌, ap, arith, length-drop}
use Rattle.tagged_word.specs.declared.layout.Kind.TheVariants as kind
use Rattle.tagged_word.specs.Cells.{store_head, store_slot}
use Rattle.tagged_word.specs.Readings.{reference_in}
use Rattle.tagged_word.proofs.Readings.{reference_from}
use Rattle.heap_model.specs.Types.{Cell}
use Rattle.heap_model.specs.Heaps.{Heap, HasCell}
use Rattle.heap_model.specs.Slots.{HoldsStore}
use Rattle.heap_model.specs.Kinds.{HasWord, HasSlots}
use Rattle.heap_model.proofs.CellsApart.{IsOfCell}
use Rattle.heap_model.proofs.CellWords.{words_are_size}
use Rattle.heap_model.proofs.WordClasses.{same_reference}
use Rattle.heap_model.proofs.WordsRead.{word_of_cell}
use Rattle.shape_change.specs.declared.slots.Place.{Place}
use Rattle.shape_change.specs.declared.slots.Place.TheVariants.{InObject, InStore}
use Rattle.shape_change.specs.Places.{place_at, IsPlaceOf}
use Rattle.object_cells.proofs.SlotPlaces.{behind_cap_below}
use Rattle.object_cells.proofs.NumberedSlots.{IsNumbered}
use Rattle.object_cells.proofs.SlotsNow.{plain_cell_size}

-- a place in the store is the address of its slot
place_beside : {heap : Heap} {cell : Cell} {words : List ℕ} (word : ℕ) (slots : List ℕ) (slot store offset : ℕ)
    → HasWord words store_slot word → HoldsStore heap kind.Store word slots → cell.layout.cap ≤ slot
    → slot - cell.layout.cap < length slots → reference_in word ≡ Some store
    → offset ≡ store_head + (slot - cell.layout.cap) → IsNumbered heap cell words slot (store + offset)
place_beside word slots slot store offset there HoldsStore.none from below refers is = absurd (omega (arith, below))
place_beside {cell = cell} word slots slot store offset there (HoldsStore.store to other others target of_kind) from
    below refers is =
    let same : other.at ≡ store =
    same_reference other.at store (sym target.refers ∙ (reference_from word store refers).1) in
    let k : ℕ = slot - cell.layout.cap in
    let of_cell : IsOfCell other (store + offset) = record {
      from = omega (arith, same);
      below = omega (arith, same, is, below, length-drop store_head others, words_are_size target.has);
    } in
    IsNumbered.beside word k other others there target of_kind (omega (arith, from)) (omega (arith, same, is)) of_cell

-- the place of a slot is the address of its number
pub place_numbered : {heap : Heap} {cell : Cell} {words slots : List ℕ} (slot : ℕ) (place : Place)
    → HasCell heap cell words
    → cell.layout.kind ≡ kind.Plain → HasSlots heap words slots → slot < length slots
    → IsPlaceOf heap cell.at cell.layout.cap slot place → IsNumbered heap cell words slot (place_at cell.at place)
place_numbered {cell = cell} slot (InObject offset) has plain are below is =
    let of_cell : IsOfCell cell (cell.at + offset) =
    record { from = omega arith; below = omega (arith, is.0, is.1, plain_cell_size has plain) } in
    IsNumbered.own is.0 (ap (λ n. cell.at + n) is.1) of_cell
place_numbered {cell = cell} slot (InStore store offset) has plain are below is =
    let read = word_of_cell store_slot are.store has are.slot in
    place_beside are.store are.beside slot store offset are.slot are.stands is.0
    (behind_cap_below slot cell.layout.cap has plain are refl is.0 below) (ap reference_in (sym read) ∙ is.1) is.2
