-- A slot word that stays and refers to a store, weak table or box in the new heap referred to one before.
use Rattle.std.proofs.Common.{◌≡◌, ℕ, List, IsTrue, sym, ◌∙◌, subst}
use Rattle.heap_model.specs.Types.{Cell}
use Rattle.heap_model.specs.Heaps.{Heap, HasCell}
use Rattle.tagged_word.specs.Cells.{is_object_kind}
use Rattle.heap_model.specs.Slots.{RefersTo, RefersToObject, IsSlotWord}
use Rattle.heap_model.specs.Wholeness.{IsOwnedKind, HasSlotAt, NamesFrom, Whole}
use Rattle.heap_model.proofs.WordClasses.{same_reference, undefined_refers_not, hole_refers_not, small_refers_not}
use Rattle.heap_model.proofs.CellsApart.{one_at}
use Rattle.heap_model.proofs.SlotWords.{IsStoreWord, store_is_owned}
use Rattle.heap_model.proofs.SlotsHold.{Holding, slot_holds}
use Rattle.heap_model.proofs.OneOwner.{object_is_not_owned}
use Rattle.heap_model.proofs.WordsStay.{PlacesStay}

-- an object's cell stands where a cell stands that belongs to one
object_there : {old new : Heap} {cell : Cell} {words : List ℕ} (word : ℕ)
    → PlacesStay old new → RefersToObject old word → RefersTo new word cell words
    → IsOwnedKind cell.layout.kind → ⊥
object_there {cell = cell} word places object refers owned =
    let place = places object.0 object.1.at object.1.place in
    let at : object.1.at ≡ cell.at = same_reference object.1.at cell.at (sym object.1.refers ∙ refers.refers) in
    let same : place.cell ≡ cell = one_at place.has refers.has (place.stands ∙ at) in
    let is = subst (λ (one : Cell). IsTrue (is_object_kind one.layout.kind)) same place.object in
    object_is_not_owned cell.layout.kind is owned

-- a cell in the old heap to which the word referred as one that belongs to an object
record Named (old : Heap) (word at : ℕ) : Type 0 where
  cell : Cell
  words : List ℕ
  refers : RefersTo old word cell words
  owned : IsOwnedKind cell.layout.kind
  place : cell.at ≡ at

-- a slot word that refers to a cell that belongs to an object did so before
slot_named : {old new : Heap} {cell : Cell} {words : List ℕ} (word : ℕ)
    → PlacesStay old new → IsSlotWord old word → RefersTo new word cell words → IsOwnedKind cell.layout.kind
    → Named old word cell.at
slot_named {cell = cell} word places (IsSlotWord.small_integer v is) refers owned =
    absurd (small_refers_not v cell.at refers.refers)
slot_named {cell = cell} word places IsSlotWord.undefined refers owned =
    absurd (undefined_refers_not cell.at refers.refers)
slot_named {cell = cell} word places IsSlotWord.hole refers owned = absurd (hole_refers_not cell.at refers.refers)
slot_named word places (IsSlotWord.object to object) refers owned =
    absurd (object_there word places object refers owned)
slot_named {cell = cell} word places (IsSlotWord.boxed to v box) refers owned = record {
  cell = box.cell;
  words = box.words;
  refers = box.target;
  owned = subst IsOwnedKind (sym box.box) tt;
  place = same_reference box.cell.at cell.at (sym box.target.refers ∙ refers.refers);
}

-- what a slot holds refers to such a cell where it did before
holding_named : {old new : Heap} {cell : Cell} {words : List ℕ} (word : ℕ)
    → PlacesStay old new → Holding old word → RefersTo new word cell words → IsOwnedKind cell.layout.kind
    → Named old word cell.at
holding_named {cell = cell} word places (Holding.to_store (IsStoreWord.none is)) refers owned =
    absurd (undefined_refers_not cell.at (sym is ∙ refers.refers))
holding_named {cell = cell} word places
    (Holding.to_store (IsStoreWord.store other others target is)) refers owned = record {
      cell = other;
      words = others;
      refers = target;
      owned = store_is_owned is;
      place = same_reference other.at cell.at (sym target.refers ∙ refers.refers);
    }
holding_named word places (Holding.as_slot is) refers owned = slot_named word places is refers owned

-- A slot of an object in the old heap, whose word refers in the new heap to a cell that belongs to an object, named in
-- the old heap the cell at that address.
pub slot_named_before : {old new : Heap} {owner cell : Cell} {words others : List ℕ} {slot word : ℕ} → Whole old
    → PlacesStay old new → HasCell old owner words → IsTrue (is_object_kind owner.layout.kind)
    → HasSlotAt old owner words slot word → RefersTo new word cell others → IsOwnedKind cell.layout.kind
    → NamesFrom old owner slot cell.at
slot_named_before {words = words} {word = word} whole places has object at refers owned =
    let target = holding_named word places (slot_holds whole has object at) refers owned in
    record {
      words = words;
      has = has;
      object = object;
      word = word;
      of_owner = at;
      cell = target.cell;
      others = target.words;
      refers = target.refers;
      owned = target.owned;
      at = target.place;
    }
