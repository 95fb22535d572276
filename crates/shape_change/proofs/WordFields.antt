-- Fields that have their words in slots: what is known of one by a look-up that is at hand.
use Rattle.std.proofs.Common.{◌≡◌, ℕ, ◌+◌, ◌<◌, ◌≤◌, List, Some, slice_get, nat_lt, refl, sym, ◌∙◌, ap, subst}
use Rattle.std.specs.Prelude.{option_map}
use Rattle.tagged_word.specs.Shapes.{first_path_shape}
use Rattle.page_space.specs.Extents.{marks_start}
use Rattle.object_graph.specs.Graphs.{Graph, PlainObject}
use Rattle.shape_tree.specs.Shapes.{shape_path}
use Rattle.shape_tree.specs.CachedSlots.{HasWordField}
use Rattle.shape_tree.specs.declared.located.Located.{Located}
use Rattle.heap_model.specs.Types.{Header, Field, Path}
use Rattle.heap_model.specs.Kinds.{HasWord}
use Rattle.heap_model.specs.Slots.{IsSlotWord}
use Rattle.heap_model.specs.Wholeness.{Whole}
use Rattle.heap_model.proofs.SlotWords.{field_is_slot}
use Rattle.write_barrier.specs.MutatorState.{Mutator, heap_of, MainShows}
use Rattle.write_barrier.specs.Reading.{IsHeaderAt}
use Rattle.object_cells.specs.CellsAt.{HasField, HasPlainSlot, IsCapAt}
use Rattle.object_cells.specs.PlainObjects.{IsPlainAt}
use Rattle.object_cells.proofs.PlainFields.{field_slot_there, field_word_there, cap_there}
use Rattle.shape_change.specs.declared.slots.Place.{Place}
use Rattle.shape_change.specs.Places.{place_at, StandsSlot, IsPlaceOf}
use Rattle.shape_change.specs.WordPlaces.{StandsWord, HasWordAt}
use Rattle.shape_change.proofs.ShownFields.{field_found, located_named}
use Rattle.shape_change.proofs.HeldByName.{located_has}

-- the shape is a path's, so the object is a plain one
pub word_field_shape : {paths : List Path} {shape name : ℕ} {found : Located} → HasWordField paths shape name found
    → first_path_shape ≤ shape
word_field_shape field = subst (λ s. first_path_shape ≤ s) field.of_shape field.located.is_shape.from

-- a field whose slot is at a place is one of its path
pub word_field : {main : Mutator} {object shape name : ℕ} {found : Located} {place : Place}
    → HasWordAt main object shape name found place → HasWordField main.paths shape name found
word_field has = record {
  located = has.stands.located;
  of_shape = has.of_shape;
  of_name = has.of_name;
  not_wide = has.stands.not_wide;
}

-- the word in the slot is one that no raw slot holds
pub slot_word : {main : Mutator} {object : ℕ} {found : Located} {place : Place} (word : ℕ) → Whole (heap_of main)
    → StandsWord main object found place → slice_get (heap_of main).words (place_at object place) ≡ Some word
    → IsSlotWord (heap_of main) word
slot_word {main} {found = found} word whole is read =
    let there = field_slot_there whole is.there in
    let own = nat_lt found.at (shape_path main.paths found.shape).cap in
    let holds : HasWord there.slots found.at word =
    sym (is.stands there.cell there.words there.slots there.has there.stands there.are) ∙ read in
    field_is_slot found.rep word
    (field_word_there whole is.there own (record { name = found.name; rep = found.rep }) word refl is.located.field
    holds)
    (λ raw wide. is.not_wide wide)

module _ {main : Mutator} {graph : Graph} {object : ℕ} {plain : PlainObject} {header : Header} {name : ℕ}
    {found : Located} (shows : MainShows main graph) (is : IsPlainAt main graph object plain)
    (header_at : IsHeaderAt (heap_of main) object header) (field : HasWordField main.paths header.shape name found)
  where
    -- the object has the field
    has_it : HasField (heap_of main) object found.shape found.at
    has_it = located_has shows is header_at found name (field.located, field.of_shape, field.of_name)

    -- and so many in-object slots
    caps : IsCapAt (heap_of main) object found.cap
    caps = cap_there found.cap shows.shows.whole has_it field.located.cap

    -- so it has an in-object slot of this number
    pub own_there : (slot : ℕ) → found.at ≡ slot → slot < found.cap
        → (cap : ℕ) × IsCapAt (heap_of main) object cap × HasPlainSlot (heap_of main) object slot × (slot < cap)
    own_there slot at below = (
      found.cap,
      caps,
      subst (HasPlainSlot (heap_of main) object) at (field_slot_there shows.shows.whole has_it),
      below,
    )

    -- or one of this number in its property store
    pub stored_there : (slot : ℕ) → found.at ≡ found.cap + slot
        → (cap : ℕ) × IsCapAt (heap_of main) object cap × HasPlainSlot (heap_of main) object (cap + slot)
    stored_there slot at = (
      found.cap,
      caps,
      subst (HasPlainSlot (heap_of main) object) at (field_slot_there shows.shows.whole has_it),
    )

    -- and its word stands at the place of the slot
    pub own_word : {place : Place} (slot : ℕ) → found.at ≡ slot → StandsSlot (heap_of main) object slot place
        → ((cap : ℕ) → IsCapAt (heap_of main) object cap → IsPlaceOf (heap_of main) object cap slot place)
        → place_at object place < marks_start main.seat.space → StandsWord main object found place
    own_word {place} slot at stands place_is within = record {
      located = field.located;
      not_wide = field.not_wide;
      there = has_it;
      stands = subst (λ n. StandsSlot (heap_of main) object n place) (sym at) stands;
      at_place = subst (λ n. IsPlaceOf (heap_of main) object found.cap n place) (sym at) (place_is found.cap caps);
      within = within;
    }

    -- so it does in the store
    pub stored_word : {place : Place} (slot : ℕ) → found.at ≡ found.cap + slot
        → ((cap : ℕ) → IsCapAt (heap_of main) object cap → StandsSlot (heap_of main) object (cap + slot) place)
        → ((cap : ℕ) → IsCapAt (heap_of main) object cap → IsPlaceOf (heap_of main) object cap (cap + slot) place)
        → place_at object place < marks_start main.seat.space → StandsWord main object found place
    stored_word {place} slot at stands place_is within = record {
      located = field.located;
      not_wide = field.not_wide;
      there = has_it;
      stands = subst (λ n. StandsSlot (heap_of main) object n place) (sym at) (stands found.cap caps);
      at_place = subst (λ n. IsPlaceOf (heap_of main) object found.cap n place) (sym at) (place_is found.cap caps);
      within = within;
    }

    -- it is the object's field of the name
    pub named_there : option_map (λ (one : Field). one.name) (slice_get plain.fields found.at) ≡ Some name
    named_there =
        let at = field_found shows is header_at found.at name
        (located_named main.paths found header.shape name field.located field.of_shape field.of_name) in
        ap (option_map (λ (one : Field). one.name)) at.there ∙ ap Some at.named
