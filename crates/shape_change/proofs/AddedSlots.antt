-- The slots of a plain object to which one field more came: those from before, with one more word put at a hole.
use Rattle.std.proofs.Common.{◌≡◌, ◌≢◌, ℕ, ◌≤◌, ◌<◌, ◌⊎◌, inl, inr, List, [], ◌∷◌, ◌++◌}
use Rattle.std.proofs.Common.{length, Some, Contains, nat_lt, slice_get, refl, sym, ◌∙◌, ap, subst, arith}
use Rattle.std.proofs.Common.{length-append}
use Rattle.tagged_word.specs.declared.layout.Kind.TheVariants as kind
use Rattle.tagged_word.specs.Cells.{proto_slot}
use Rattle.heap_model.specs.Types.{Field, Cell}
use Rattle.object_graph.specs.Paths.{path_of}
use Rattle.shape_tree.specs.Shapes.{shape_path, stepped}
use Rattle.shape_tree.specs.ShapeLayouts.{layout_of}
use Rattle.heap_model.specs.Heaps.{Heap, HasCell, words_of_cell}
use Rattle.heap_model.specs.Slots.{hole_word, reference_word}
use Rattle.heap_model.specs.Kinds.{HasWord, HasSlots, IsPlainCell, HasNoNumber, IsBoxCell}
use Rattle.heap_model.specs.Wholeness.{Whole, NamesFrom}
use Rattle.heap_model.specs.Showing.{ShowsField}
use Rattle.object_cells.specs.CellWrites.{reshaped}
use Rattle.object_cells.specs.OwnSlots.{NamesNone, ComesFrom, StoreComes}
use Rattle.object_cells.specs.SlotChanges.{IsTaggedSlot, HasTagged, ShowsSlot, RefillsSlots}
use Rattle.shape_change.proofs.AddedFields.{path_of-push, push_cases}
use Rattle.shape_change.proofs.FullStores.{cap_is}
use Rattle.shape_change.proofs.TaggedBefore.{tagged_before}
use Rattle.object_cells.proofs.FieldsFound.{path_long}
use Rattle.object_cells.proofs.WrittenPlaces.{hole_names_none}

-- What a slot holds after a word was put in one of number `slot`: that word, what it held before, or, behind the
-- slots from before, nothing.
pub data SlotIs (slots : List ℕ) (slot word k x : ℕ) : Type 0 where
  put : k ≡ slot → x ≡ word → SlotIs slots slot word k x
  kept : k ≢ slot → HasWord slots k x → SlotIs slots slot word k x
  more : k ≢ slot → length slots ≤ k → x ≡ hole_word → SlotIs slots slot word k x

-- these are the slots after a word was put in one
abbrev pub PutsOne : List ℕ → List ℕ → ℕ → ℕ → Type 0
PutsOne slots now slot word = (k x : ℕ) → HasWord now k x → SlotIs slots slot word k x

-- A field is added to a plain object: its slots, those of the store, and the cells that belong to it. Its prototype
-- stays.
pub record AddsSlot (old new : Heap) (cell : Cell) (next : ℕ) (others made : List Cell) (fields : List Field)
    (field : Field) : Type 0 where
  -- the cell before
  pub whole : Whole old
  pub has : HasCell old cell (words_of_cell old cell)
  pub plain : cell.layout.kind ≡ kind.Plain
  pub sound : IsPlainCell old cell (words_of_cell old cell)
  pub was : shape_path old.paths cell.header.shape ≡ path_of cell.layout.cap fields
  -- the cell after
  pub path : shape_path new.paths next ≡ path_of cell.layout.cap (fields ++ field ∷ [])
  pub now : List ℕ
  pub are : HasSlots new (words_of_cell new (reshaped new.paths cell next)) now
  pub proto : slice_get (words_of_cell new (reshaped new.paths cell next)) proto_slot
      ≡ slice_get (words_of_cell old cell) proto_slot
  pub word : ℕ
  pub puts : PutsOne sound.slots now (length fields) word
  pub room : length fields < length now
  -- what was put
  pub shows : ShowsField new (nat_lt (length fields) cell.layout.cap) word field.rep field.value
  pub comes : IsTaggedSlot (reshaped new.paths cell next) (length fields)
      → ComesFrom new (HasTagged cell sound.slots) made (length fields) (length fields) (length fields) word
  -- the cells beside it
  pub store_comes : StoreComes kind.Store old cell made are.store
  pub belong : (other : Cell) → Contains others other → (slot : ℕ) × NamesFrom old cell slot other.at
  pub stores_only : (other : Cell) → Contains others other → other.layout.kind ≡ kind.Store
  pub kinds : (other : Cell) → Contains made other → (other.layout.kind ≡ kind.Store) ⊎ (other.layout.kind ≡ kind.Boxed)
  pub stores : (other : Cell) → Contains (others ++ made) other → other.layout.kind ≡ kind.Store
      → HasNoNumber other × (are.store ≡ reference_word other.at)
  pub boxes : (other : Cell) → Contains (others ++ made) other → other.layout.kind ≡ kind.Boxed
      → IsBoxCell other (words_of_cell new other)

-- that of the field holds the word
last_slot : {slots : List ℕ} {slot word : ℕ} (k x : ℕ) → k ≡ slot → SlotIs slots slot word k x → x ≡ word
last_slot k x same (SlotIs.put at is) = is
last_slot k x same (SlotIs.kept apart there) = absurd (apart same)
last_slot k x same (SlotIs.more apart behind is) = absurd (apart same)

module _ {old new : Heap} {cell : Cell} {next : ℕ} {others made : List Cell} {fields : List Field} {field : Field}
    (adds : AddsSlot old new cell next others made fields field) where
  -- the path had as many fields
  pub as_many : length (shape_path old.paths cell.header.shape).fields ≡ length fields
  as_many = path_long fields adds.was

  -- the layout after is that of the path with a step
  laid_after : (reshaped new.paths cell next).layout
      ≡ layout_of (stepped (shape_path old.paths cell.header.shape) field.name field.rep)
  laid_after =
      ap layout_of (adds.path ∙ path_of-push cell.layout.cap fields field
      ∙ ap (λ p. stepped p field.name field.rep) (sym adds.was))

  -- where the word of a tagged slot comes from
  slot_comes : (k x : ℕ) → SlotIs adds.sound.slots (length fields) adds.word k x
      → IsTaggedSlot (reshaped new.paths cell next) k
      → ComesFrom new (HasTagged cell adds.sound.slots) made k (length fields) k x
  slot_comes k x (SlotIs.put at is) tagged =
      let tagged_at : IsTaggedSlot (reshaped new.paths cell next) (length fields) =
      subst (IsTaggedSlot (reshaped new.paths cell next)) at tagged in
      let was : ℕ → ℕ → Type 0 = HasTagged cell adds.sound.slots in
      subst (λ n. ComesFrom new was made n (length fields) n x) (sym at)
      (subst (ComesFrom new was made (length fields) (length fields) (length fields)) (sym is) (adds.comes tagged_at))
  slot_comes k x (SlotIs.kept apart there) tagged =
      let one : Cell = reshaped new.paths cell next in
      ComesFrom.moved (
        there,
        tagged_before one field.name field.rep k adds.whole.sized adds.has adds.plain adds.sound.shape
            (cap_is adds.whole.sized adds.has adds.sound.shape) laid_after (λ same. apart (same ∙ as_many)) tagged,
      )
  slot_comes k x (SlotIs.more apart behind is) tagged = ComesFrom.none (subst (NamesNone new) (sym is) hole_names_none)

  -- what a slot shows that holds what it held
  kept_shows : (k x : ℕ) (one : Field) → slice_get fields k ≡ Some one → HasWord adds.sound.slots k x
      → ShowsSlot new cell adds.sound.slots others fields k k x one
  kept_shows k x one was there =
      ShowsSlot.kept one was refl refl there refl (λ tagged other among boxed.
      let apart : kind.Store ≡ kind.Boxed = sym (adds.stores_only other among) ∙ boxed in
      cc)

  -- a slot below that of the field holds what it held
  old_slot : (k x : ℕ) → k < length fields → SlotIs adds.sound.slots (length fields) adds.word k x
      → HasWord adds.sound.slots k x
  old_slot k x below (SlotIs.put at is) = absurd (omega arith)
  old_slot k x below (SlotIs.kept apart there) = there
  old_slot k x below (SlotIs.more apart behind is) = absurd (omega (arith, adds.sound.hold.room, as_many))

  -- what each slot of a field shows
  slot_shows : (k x : ℕ) (one : Field) → SlotIs adds.sound.slots (length fields) adds.word k x
      → slice_get (fields ++ field ∷ []) k ≡ Some one → ShowsSlot new cell adds.sound.slots others fields k k x one
  slot_shows k x one is there =
      elim (push_cases fields field k one there) [
        | inl old ↦ kept_shows k x one old.1 (old_slot k x old.0 is)
        | inr last ↦
            let word : x ≡ adds.word = last_slot k x last.0 is in
            let shows = subst (λ n. ShowsField new (nat_lt n cell.layout.cap) adds.word field.rep field.value)
            (sym last.0) adds.shows in
            let of_one = subst (λ (f : Field). ShowsField new (nat_lt k cell.layout.cap) adds.word f.rep f.value) last.1
            shows in
            ShowsSlot.fresh (subst (λ n. ShowsField new (nat_lt k cell.layout.cap) n one.rep one.value) (sym word)
            of_one)
      ]

  -- the slots behind the fields are holes
  slot_rest : (k x : ℕ) → length (fields ++ field ∷ []) ≤ k → SlotIs adds.sound.slots (length fields) adds.word k x
      → x ≡ hole_word
  slot_rest k x behind (SlotIs.put at is) = absurd (omega (arith, behind, at, length-append fields (field ∷ [])))
  slot_rest k x behind (SlotIs.kept apart there) =
      adds.sound.hold.rest k x (omega (arith, behind, length-append fields (field ∷ []), as_many)) there
  slot_rest k x behind (SlotIs.more apart past is) = is

  -- so its slots refill the object
  pub added_refills : RefillsSlots old new cell next others made fields (fields ++ field ∷ [])
  added_refills = record {
    slots = adds.sound.slots;
    were = adds.sound.has;
    now = adds.now;
    are = adds.are;
    proto = adds.proto;
    path = adds.path;
    enough = omega (arith, adds.room, length-append fields (field ∷ []));
    refills = record {
      origin = λ k. k;
      apart = λ k other word another there there_too same. same;
      one = length fields;
      each_slot = λ k x there. slot_comes k x (adds.puts k x there.0) there.1;
      store = adds.are.store;
      has_store = adds.are.slot;
      store_comes = adds.store_comes;
      belong = adds.belong;
      kinds = adds.kinds;
      stores = adds.stores;
      boxes = adds.boxes;
    };
    each_field = λ k x one is there. slot_shows k x one (adds.puts k x there) is;
    rest = λ k x behind there. slot_rest k x behind (adds.puts k x there);
  }
