-- Each cell that did not go is as sound as before.
use Rattle.std.proofs.Common.{◌≡◌, ℕ, ◌⊎◌, inl, inr, List, drop, Contains, Some, slice_get, IsTrue, refl, sym}
use Rattle.std.proofs.Common.{◌∙◌, ap, subst}
use Rattle.std.proofs.lemmas.List.Elements.{All-weaker}
use Rattle.heap_model.specs.Types.{Kind, Path, Cell}
use Rattle.tagged_word.specs.declared.layout.Kind.TheVariants as kind
use Rattle.tagged_word.specs.Cells.{store_head, is_object_kind}
use Rattle.shape_tree.specs.Shapes.{shape_path}
use Rattle.heap_model.specs.Heaps.{Heap, HasCell}
use Rattle.heap_model.specs.Slots.{IsSlotWord}
use Rattle.heap_model.specs.Kinds.{HoldFields, IsPlainCell, IsListCell, Pair, free_pair, IsFoundPair, IsWeakCell}
use Rattle.heap_model.specs.Kinds.{IsStoreCell, IsSoundOf, IsSoundCell}
use Rattle.heap_model.proofs.ObjectSlots.{field_slot, slot_beside, value_slot}
use Rattle.heap_model.proofs.WordsStay.{refers_to_place_stays, value_stays, field_stays}
use Rattle.heap_model.proofs.CellOutcomes.{proto_stays}
use Rattle.heap_model.proofs.Moves.{Moves, place_stays, slot_words_stay}
use Rattle.heap_model.proofs.KeptObjects.{Keeps, kept_box, kept_beside, kept_table, kept_slots, slot_unless_raw}
use Rattle.heap_model.proofs.KeptObjects.{kept_path, kept_shape}

-- a plain object stays sound
plain_stays : {old new : Heap} {gone came made : List Cell} {cell : Cell} {words : List ℕ}
    → Moves old new gone came made
    → Keeps old new gone cell words → cell.layout.kind ≡ kind.Plain → IsPlainCell old cell words
    → IsPlainCell new cell words
plain_stays {old} {new} {cell = cell} moves keeps is sound =
    let path : Path = shape_path old.paths cell.header.shape in
    let hold : HoldFields new path sound.slots = record {
      room = sound.hold.room;
      each = λ at field word there stands.
          let slot = field_slot at word field moves.whole.sized keeps.had is sound.shape sound.has there stands in
          field_stays field.rep word (place_stays moves)
          (λ not_raw. kept_box moves keeps (slot_unless_raw slot not_raw)) (sound.hold.each at field word there stands);
      rest = sound.hold.rest;
    } in
    record {
      shape = kept_shape cell.header.shape moves.cells sound.shape;
      slots = sound.slots;
      has = kept_slots moves keeps sound.has;
      hold =
          subst (λ one. HoldFields new one sound.slots)
          (sym (kept_path cell.header.shape moves.cells sound.shape)) hold;
      proto = sound.proto;
      proto_has = sound.proto_has;
      proto_is = proto_stays sound.proto moves.cells moves.own.objects_stay sound.proto_is;
    }

-- a list stays sound
list_stays : {old new : Heap} {gone came made : List Cell} {cell : Cell} {words : List ℕ} → Moves old new gone came made
    → Keeps old new gone cell words → IsListCell old words → IsListCell new words
list_stays moves keeps sound = record {
  store = sound.store;
  slot = sound.slot;
  beside = sound.beside;
  stands = kept_beside sound.store moves keeps sound.slot sound.stands;
  count = sound.count;
  counted = sound.counted;
  few = sound.few;
  hold = record {
    room = sound.hold.room;
    each = λ at word below stands.
        value_stays word (place_stays moves)
        (kept_box moves keeps (slot_beside sound.store at word sound.slot sound.stands stands))
        (sound.hold.each at word below stands);
    rest = sound.hold.rest;
  };
}

-- a pair of a weak map is found as before
pair_stays : {old new : Heap} {gone came made : List Cell} {cell : Cell} {words : List ℕ} (at : ℕ) (pair : Pair)
    → Moves old new gone came made → Keeps old new gone cell words → (sound : IsWeakCell old words)
    → slice_get sound.pairs at ≡ Some pair → (pair ≡ free_pair) ⊎ IsFoundPair old sound.pairs at pair
    → (pair ≡ free_pair) ⊎ IsFoundPair new sound.pairs at pair
pair_stays at pair moves keeps sound there (inl free) = inl free
pair_stays at pair moves keeps sound there (inr found) = inr record {
  number = found.number;
  filled = record {
    key = refers_to_place_stays (place_stays moves) found.filled.key;
    value = value_stays pair.value (place_stays moves)
        (kept_box moves keeps (value_slot sound.store at pair sound.slot sound.table there)) found.filled.value;
  };
  probed = found.probed;
}

-- a weak map stays sound
weak_stays : {old new : Heap} {gone came made : List Cell} {cell : Cell} {words : List ℕ} → Moves old new gone came made
    → Keeps old new gone cell words → IsWeakCell old words → IsWeakCell new words
weak_stays moves keeps sound = record {
  store = sound.store;
  slot = sound.slot;
  pairs = sound.pairs;
  table = kept_table sound.store moves keeps sound.slot sound.table;
  each = λ at pair there. pair_stays at pair moves keeps sound there (sound.each at pair there);
  counted = sound.counted;
}

-- a store or a weak table stays sound
store_stays : {old new : Heap} {gone came made : List Cell} (cell : Cell) (words : List ℕ)
    → Moves old new gone came made → IsStoreCell old cell words → IsStoreCell new cell words
store_stays {old} {new} cell words moves sound = record {
  no_number = sound.no_number;
  slots = All-weaker (IsSlotWord old) (IsSlotWord new) (λ word is. slot_words_stay word moves is)
      (drop store_head words) sound.slots;
}

-- an object that did not go, as its kind tells
keeps_of : {old new : Heap} {gone : List Cell} {cell : Cell} {words : List ℕ} (k : Kind) → HasCell old cell words
    → HasCell new cell words → (Contains gone cell → ⊥) → cell.layout.kind ≡ k → IsTrue (is_object_kind k)
    → Keeps old new gone cell words
keeps_of k had has not_gone is object = record {
  had = had;
  has = has;
  not_gone = not_gone;
  object = ap is_object_kind is ∙ object;
}

-- a cell that did not go stays sound, kind by kind
sound_of : {old new : Heap} {gone came made : List Cell} (cell : Cell) (words : List ℕ) (k : Kind)
    → Moves old new gone came made → HasCell old cell words → HasCell new cell words → (Contains gone cell → ⊥)
    → cell.layout.kind ≡ k → IsSoundOf k old cell words → IsSoundOf k new cell words
sound_of cell words kind.Plain moves had has not_gone is sound =
    plain_stays moves (keeps_of kind.Plain had has not_gone is refl) is sound
sound_of cell words kind.List moves had has not_gone is sound =
    list_stays moves (keeps_of kind.List had has not_gone is refl) sound
sound_of cell words kind.Weak moves had has not_gone is sound =
    weak_stays moves (keeps_of kind.Weak had has not_gone is refl) sound
sound_of cell words kind.Store moves had has not_gone is sound = store_stays cell words moves sound
sound_of cell words kind.Table moves had has not_gone is sound = store_stays cell words moves sound
sound_of cell words kind.Boxed moves had has not_gone is sound = sound
sound_of cell words kind.Filler moves had has not_gone is sound = sound
sound_of cell words kind.Gap moves had has not_gone is sound = sound

-- each cell of the new heap is sound
pub sound_stays : {old new : Heap} {gone came made : List Cell} → Moves old new gone came made
    → (cell : Cell) (words : List ℕ) → HasCell new cell words → IsSoundCell new cell words
sound_stays {old} {new} moves cell words has =
    elim (moves.cells.back cell words has) [
      | inl comes ↦ subst (IsSoundCell new cell) has.words_are (moves.own.sound cell comes)
      | inr stays ↦
          sound_of cell words cell.layout.kind moves stays.0 has stays.1 refl (moves.whole.sound cell words stays.0)
    ]
