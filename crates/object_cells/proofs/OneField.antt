-- The fields of a plain object of which one was set, slot by slot.
use Rattle.std.proofs.Common.{◌≡◌, ◌≢◌, ℕ, ◌<◌, ◌≤◌, ◌⊎◌, inl, inr, List, ◌++◌, length, drop, Contains, Some, slice_get}
use Rattle.std.proofs.Common.{set, length-set, nat_lt, length-drop, length-append, refl, sym, ◌∙◌, ap, subst, arith}
use Rattle.std.proofs.lemmas.Bool.{cases_eq}
use Rattle.std.proofs.lemmas.Option.{same_Some}
use Rattle.tagged_word.specs.declared.layout.Kind.TheVariants as kind
use Rattle.tagged_word.specs.Cells.{plain_head, store_slot}
use Rattle.heap_model.specs.Types.{Path, PathField, Field, Cell}
use Rattle.object_graph.specs.Paths.{path_of}
use Rattle.object_graph.proofs.Lists.{slice_get-set_same, slice_get-set_other}
use Rattle.shape_tree.specs.Shapes.{shape_path}
use Rattle.heap_model.specs.Heaps.{Heap, HasCell, words_of_cell}
use Rattle.heap_model.specs.Slots.{hole_word, reference_word}
use Rattle.heap_model.specs.Kinds.{HasWord, HasSlots, HasNoNumber, IsBoxCell, IsPlainCell}
use Rattle.heap_model.specs.Wholeness.{NamesFrom}
use Rattle.heap_model.specs.Showing.{ShowsField, ShowsPlain}
use Rattle.heap_model.proofs.CellWords.{words_are_size}
use Rattle.object_cells.specs.CellWrites.{reshaped}
use Rattle.object_cells.specs.OwnSlots.{IsNoBoxOf, ComesFrom}
use Rattle.object_cells.specs.SlotChanges.{IsTaggedSlot, HasTagged, ShowsSlot, RefillsSlots}
use Rattle.object_cells.proofs.OwnerWrites.{becomes_cap}
use Rattle.object_cells.proofs.FieldsFound.{field_at}
use Rattle.object_cells.proofs.PlainFields.{SlotsHeld, plain_sound, slots_held}
use Rattle.object_cells.proofs.FieldWords.{path_field, field_is_tagged, tagged_is_field}
use Rattle.object_cells.proofs.NumberedSlots.{IsNumbered}
use Rattle.object_cells.proofs.SlotsNow.{PutsOwn, StoresStand, reshaped_stands, stores_stand, store_now, proto_now}
use Rattle.object_cells.proofs.SlotsNow.{beside_now, slot_now}
use Rattle.object_cells.proofs.StoreCells.{store_at}

-- The slots of the object in the new heap: as many, and its store is the same.
pub record SlotsAfter {old : Heap} {words slots : List ℕ} (new : Heap) (cell : Cell) (were : HasSlots old words slots)
    : Type 0 where
  pub now : List ℕ
  pub are : HasSlots new (words_of_cell new cell) now
  pub store : are.store ≡ were.store
  pub at : store_at are.stands ≡ store_at were.stands
  pub long : length now ≡ length slots

-- so they are where the object's cell has the size that it had, stores stand, and the slot for its own is as it was
pub slots_again : {old new : Heap} {cell came : Cell} {words slots : List ℕ} → HasCell old cell words
    → HasCell new came (words_of_cell new came) → came.size ≡ cell.size → StoresStand old new
    → (were : HasSlots old words slots) → HasWord (words_of_cell new came) store_slot were.store
    → SlotsAfter new came were
slots_again {new = new} {came = came} {words} has has_now size stand were slot =
    let all : List ℕ = words_of_cell new came in
    let beside = beside_now stand were.stands in
    let sizes : length all ≡ length words = omega (arith, size, words_are_size has, words_are_size has_now) in
    let own : length (drop plain_head all) ≡ length (drop plain_head words) =
    omega (arith, sizes, length-drop plain_head all, length-drop plain_head words) in
    record {
      now = drop plain_head all ++ beside.slots;
      are = record { store = were.store; slot = slot; beside = beside.slots; stands = beside.stands; are = refl };
      store = refl;
      at = beside.at;
      long = omega (arith, own, beside.long, ap length were.are, length-append {A = ℕ});
    }

-- and so they are where one word was put
pub slots_after : {old new : Heap} {cell : Cell} {shape at word : ℕ} {others made : List Cell} {slots : List ℕ}
    → PutsOwn old new cell shape at word others made → (were : HasSlots old (words_of_cell old cell) slots)
    → SlotsAfter new (reshaped new.paths cell shape) were
slots_after puts were =
    slots_again puts.has (reshaped_stands puts) refl (stores_stand puts) were (store_now puts were.slot)

-- A field of the plain object was set: one word of its own cells was put, its shape is that of the fields with this
-- one in the place of another, and these are its slots.
pub record SetsOne (old new : Heap) (cell : Cell) (shape at word slot : ℕ) (others made : List Cell)
    (before : List Field)
    (field : Field) : Type 0 where
  pub puts : PutsOwn old new cell shape at word others made
  pub shown : ShowsPlain old cell (words_of_cell old cell) cell.layout.cap before
  pub after : SlotsAfter new (reshaped new.paths cell shape) shown.has
  pub path : shape_path new.paths shape ≡ path_of cell.layout.cap (set before slot field)
  pub there : slot < length before

-- What is owed where a field was set: no other slot stands at the address of the word, none refers to a box that was
-- written; where the word of the slot comes from, and that it shows the field; and the cells beside the object's.
pub record FillsOne {old new : Heap} {cell : Cell} {shape at word slot : ℕ} {others made : List Cell}
    {before : List Field}
    {field : Field} (sets : SetsOne old new cell shape at word slot others made before field) : Type 0 where
  pub apart : (k a : ℕ) → IsNumbered old cell (words_of_cell old cell) k a → k ≢ slot → a ≢ at
  pub no_box : (k holds : ℕ) → k ≢ slot → HasWord sets.shown.slots k holds → IsTaggedSlot cell k
      → IsNoBoxOf others holds
  pub comes : (holds : ℕ) → HasWord sets.after.now slot holds → IsTaggedSlot (reshaped new.paths cell shape) slot
      → ComesFrom new (HasTagged cell sets.shown.slots) made slot slot slot holds
  pub shows : (holds : ℕ) → HasWord sets.after.now slot holds
      → ShowsField new (nat_lt slot cell.layout.cap) holds field.rep field.value
  pub belong : (other : Cell) → Contains others other → (a : ℕ) × NamesFrom old cell a other.at
  pub kinds : (other : Cell) → Contains made other → (other.layout.kind ≡ kind.Store) ⊎ (other.layout.kind ≡ kind.Boxed)
  pub stores : (other : Cell) → Contains (others ++ made) other → other.layout.kind ≡ kind.Store
      → HasNoNumber other × (sets.shown.has.store ≡ reference_word other.at)
  pub boxes : (other : Cell) → Contains (others ++ made) other → other.layout.kind ≡ kind.Boxed
      → IsBoxCell other (words_of_cell new other)

module _ {old new : Heap} {cell : Cell} {shape at word slot : ℕ} {others made : List Cell} {before : List Field}
    {field : Field} (sets : SetsOne old new cell shape at word slot others made before field) where
  -- the object's cell was sound
  was_sound : IsPlainCell old cell (words_of_cell old cell)
  was_sound = plain_sound sets.puts.whole sets.puts.has sets.puts.plain

  -- there are slots for all fields, and holes behind them
  held : SlotsHeld before sets.shown.slots
  held = slots_held sets.puts.whole sets.puts.has sets.shown

  -- A tagged slot of another number was one: it is that of a field that stands in the object and is not wide, and this
  -- field stays.
  tagged_before : (k : ℕ) → k ≢ slot → IsTaggedSlot (reshaped new.paths cell shape) k → IsTaggedSlot cell k
  tagged_before k apart tagged below =
      let path : Path = shape_path new.paths shape in
      let within : k < path.cap = omega (arith, below, becomes_cap sets.puts.writes.becomes) in
      let of_path = tagged_is_field (reshaped new.paths cell shape) path k refl tagged within in
      let among = ap (λ (p : Path). slice_get p.fields k) (sym sets.path) ∙ of_path.there in
      let found = field_at cell.layout.cap (set before slot field) k of_path.field among in
      let there = ap (λ (p : Path). slice_get p.fields k) sets.shown.path
      ∙ path_field cell.layout.cap before k found.field
      (sym (slice_get-set_other before slot k field apart) ∙ found.there) in
      field_is_tagged k (record { name = found.field.name; rep = found.field.rep }) sets.puts.whole.sized sets.puts.has
      sets.puts.plain was_sound.shape there
      (λ own wide. of_path.apart (sym (ap (λ (f : PathField). f.rep) found.same) ∙ wide)) below

  -- a slot of another number holds what it held
  kept_word : (k holds : ℕ) → FillsOne sets → k ≢ slot → HasWord sets.after.now k holds
      → HasWord sets.shown.slots k holds
  kept_word k holds fills apart there =
      let now = slot_now k holds sets.puts sets.shown.has sets.after.are there in
      now.kept (fills.apart k now.a now.numbered apart)

  -- where each word of a tagged slot comes from
  slot_comes : (k holds : ℕ) → FillsOne sets → HasWord sets.after.now k holds
      → IsTaggedSlot (reshaped new.paths cell shape) k
      → ComesFrom new (HasTagged cell sets.shown.slots) made k slot k holds
  slot_comes k holds fills there tagged = elim (cases_eq k slot) [
    | inl same ↦
        subst (λ n. HasWord sets.after.now n holds → IsTaggedSlot (reshaped new.paths cell shape) n
        → ComesFrom new (HasTagged cell sets.shown.slots) made n slot n holds) (sym same) (fills.comes holds) there
        tagged
    | inr apart ↦ ComesFrom.moved (kept_word k holds fills apart there, tagged_before k apart tagged)
  ]

  -- what each slot shows
  slot_shows : (k holds : ℕ) (one : Field) → FillsOne sets → slice_get (set before slot field) k ≡ Some one
      → HasWord sets.after.now k holds → ShowsSlot new cell sets.shown.slots others before k k holds one
  slot_shows k holds one fills is there = elim (cases_eq k slot) [
    | inl same ↦
        let is_field : field ≡ one = same_Some field one (sym (slice_get-set_same before slot field sets.there)
        ∙ ap (slice_get (set before slot field)) (sym same) ∙ is) in
        subst (λ n. HasWord sets.after.now n holds → ShowsSlot new cell sets.shown.slots others before n n holds one)
        (sym same) (λ here. ShowsSlot.fresh (subst (λ (f : Field). ShowsField new (nat_lt slot cell.layout.cap) holds
        f.rep f.value) is_field (fills.shows holds here))) there
    | inr apart ↦
        let kept = kept_word k holds fills apart there in
        ShowsSlot.kept one (sym (slice_get-set_other before slot k field apart) ∙ is) refl refl kept refl
        (fills.no_box k holds apart kept)
  ]

  -- the slots behind the fields are holes
  slot_rest : (k holds : ℕ) → FillsOne sets → length (set before slot field) ≤ k → HasWord sets.after.now k holds
      → holds ≡ hole_word
  slot_rest k holds fills behind there =
      let long = length-set before slot field in
      held.rest k holds (omega (arith, behind, long))
      (kept_word k holds fills (λ same. omega (arith, same, sets.there, behind, long)) there)

  -- so its slots refill the object
  pub refills_slots : FillsOne sets → RefillsSlots old new cell shape others made before (set before slot field)
  refills_slots fills = record {
    slots = sets.shown.slots;
    were = sets.shown.has;
    now = sets.after.now;
    are = sets.after.are;
    proto = proto_now sets.puts;
    path = sets.path;
    enough = omega (arith, held.room, sets.after.long, length-set before slot field);
    refills = record {
      origin = λ k. k;
      apart = λ k other word another there there_too same. same;
      one = slot;
      each_slot = λ k holds there. slot_comes k holds fills there.0 there.1;
      store = sets.shown.has.store;
      has_store = store_now sets.puts sets.shown.has.slot;
      store_comes = inl sets.shown.has.slot;
      belong = fills.belong;
      kinds = fills.kinds;
      stores = fills.stores;
      boxes = fills.boxes;
    };
    each_field = λ k holds one. slot_shows k holds one fills;
    rest = λ k holds. slot_rest k holds fills;
  }
