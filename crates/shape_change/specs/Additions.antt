-- How a field of a new name comes to a plain object, behind its other fields: which words that puts.
use Rattle.std.specs.Prelude.{◌≡◌, ℕ, ◌+◌, ◌-◌, ◌<◌, ◌≤◌, true, false, List}
use Rattle.std.specs.Prelude.{length, slice_get, slice_set}
use Rattle.heap_model.specs.Types.{Header, Path, Cell, Held}
use Rattle.tagged_word.specs.declared.layout.Kind.TheVariants as kind
use Rattle.handle_roots.specs.declared.given.Given.{Given}
use Rattle.handle_roots.specs.Givens.{IsGivenFor}
use Rattle.tagged_word.specs.Cells.{plain_head, store_head, store_slot}
use Rattle.object_graph.specs.Paths.{missing}
use Rattle.object_graph.specs.Invariants.{fields_most}
use Rattle.object_graph.specs.Limits.{paths_most}
use Rattle.page_space.specs.Extents.{layouts_start, marks_start}
use Rattle.nursery.specs.Young.{HasRoom}
use Rattle.shape_tree.specs.Shapes.{IsPathShape, Leads, LacksPathsFor, shape_path, has_name, stepped}
use Rattle.shape_tree.specs.Growth.{IsStep}
use Rattle.write_barrier.specs.Seats.{heap_words, RestStays}
use Rattle.heap_model.specs.Heaps.{Heap, HasCell}
use Rattle.heap_model.specs.Wholeness.{HasSizes, Whole}
use Rattle.handle_roots.specs.Roots.{FitsHeld}
use Rattle.page_space.specs.Sizes.{AreWithin}
use Rattle.write_barrier.specs.Storing.{StoresOn}
use Rattle.write_barrier.specs.SureStores.{StoresSurely}
use Rattle.shape_change.specs.FieldChanges.{IsShownSetting}
use Rattle.heap_model.specs.Needs.{grown}
use Rattle.heap_model.specs.Remembered.{Touch}
use Rattle.write_barrier.specs.MutatorState.{Mutator, heap_of, IsTied, reserved}
use Rattle.write_barrier.specs.Recording.{Touches, touched_one, touched_then}
use Rattle.shape_change.specs.declared.add_field.NewField.{NewField}
use Rattle.shape_change.specs.declared.stop.FieldStop.{FieldStop}
use Rattle.shape_change.specs.declared.stop.FieldStop.TheVariants as stop
use Rattle.shape_change.specs.Deletions.{shaped_bits}
use Rattle.mark_world.specs.declared.event.Event.TheVariants as event
use Rattle.write_barrier.specs.Marking.{MayPut}
use Rattle.object_cells.specs.declared.content.SlotContent.{SlotContent}
use Rattle.object_cells.specs.declared.content.SlotContent.TheVariants as content
use Rattle.object_cells.specs.declared.stores.Store.{Store}
use Rattle.object_cells.specs.Made.{IsStoreAt, PutsWords, with_store, with_content, content_need}
use Rattle.object_cells.specs.Made.{content_word, store_content, content_touch, slot_touch, store_touch}
use Rattle.object_cells.specs.Contents.{held_rep, content_of, next_at}

-- there may be as many paths as these and those that the path lacks
abbrev pub MayAdd : List Path → Path → Type 0
MayAdd paths path = length paths + length (missing paths path) ≤ paths_most

-- the path of a shape with a field more, which has the representation of what is held
abbrev pub added_path : List Path → ℕ → ℕ → Held → Path
added_path paths shape name value = stepped (shape_path paths shape) name (held_rep value)

-- how many fields the path of a shape has
abbrev pub count_of : List Path → ℕ → ℕ
count_of paths shape = length (shape_path paths shape).fields

-- how many of them there are behind the cap
abbrev pub behind_cap : List Path → ℕ → ℕ
behind_cap paths shape = count_of paths shape - (shape_path paths shape).cap

-- the next field of the shape has its slot behind the cap
abbrev pub ComesBehind : List Path → ℕ → Type 0
ComesBehind paths shape = (shape_path paths shape).cap ≤ count_of paths shape

-- a plain object's cell stands at the address
pub record IsPlainCellAt (heap : Heap) (at : ℕ) : Type 0 where
  pub cell : Cell
  pub words : List ℕ
  pub has : HasCell heap cell words
  pub stands : cell.at ≡ at
  pub plain : cell.layout.kind ≡ kind.Plain

-- A field of this name may come to the plain object with this header at the address: no field of it has the name,
-- it has fewer fields than it may have, and there may be as many paths as the field needs. Its cell ends before the
-- marks.
pub record CanAdd (main : Mutator) (object : ℕ) (header : Header) (name : ℕ) (value : Held) : Type 0 where
  pub tied : IsTied main
  pub shown : IsShownSetting main object value
  pub fits : FitsHeld value
  pub sizes : AreWithin main.seat.space.sizes main.seat.space.variables
  pub whole : Whole (heap_of main)
  pub there : IsPlainCellAt (heap_of main) object
  pub headed : there.cell.header ≡ header
  pub shape : IsPathShape main.paths header.shape
  pub within : object + (plain_head + (shape_path main.paths header.shape).cap) ≤ marks_start main.seat.space
  pub is_new : has_name (shape_path main.paths header.shape) name ≡ false
  pub few : count_of main.paths header.shape < fields_most
  pub may : MayAdd main.paths (added_path main.paths header.shape name value)

-- This is how a field of the name and the value comes to an object of the shape: its representation is the narrowest
-- that holds the value, its slot comes behind those of the other fields, and the step to the path with it leads there.
pub record IsNewField (paths : List Path) (shape name : ℕ) (value : Held) (new : NewField) : Type 0 where
  pub named : new.field.name ≡ name
  pub rep : new.field.rep ≡ held_rep value
  pub value_is : new.value ≡ value
  pub slot : new.slot ≡ count_of paths shape
  pub few : count_of paths shape < fields_most
  pub cap : new.cap ≡ (shape_path paths shape).cap
  pub step : IsStep paths (stepped (shape_path paths shape) new.field.name new.field.rep) new.step
  pub may : MayAdd paths (added_path paths shape name value)

-- This is how a field of the name comes to an object of the shape, a path's, whatever the given value is: its slot is
-- one of the object.
pub record HasOwnSlot (paths : List Path) (shape name : ℕ) (value : Given) (new : NewField) : Type 0 where
  pub is_shape : IsPathShape paths shape
  pub own : count_of paths shape < (shape_path paths shape).cap
  pub of_held : (held : Held) → IsGivenFor value held → IsNewField paths shape name held new

-- A field of the name and the value does not come to an object of the shape: it has as many fields as it may have, or
-- there may not be as many paths.
abbrev pub RefusesField : List Path → ℕ → ℕ → Held → FieldStop → Type 0
RefusesField paths shape name value stop.NotPlain = ⊥
RefusesField paths shape name value stop.FieldsFull = fields_most ≤ count_of paths shape
RefusesField paths shape name value (stop.ShapesFull full) =
    (count_of paths shape < fields_most) × LacksPathsFor paths paths (added_path paths shape name value) full
RefusesField paths shape name value (stop.Full full) = ⊥

-- The path was added with its missing prefixes, and their layout words were put; its shape is this one. Nothing
-- else has changed.
pub record AddsPath (old new : Mutator) (path : Path) (shape : ℕ) : Type 0 where
  pub beside : RestStays old.seat new.seat
  pub young : new.young ≡ old.young
  pub free : new.free ≡ old.free
  pub recorded : new.recorded ≡ old.recorded
  pub leads : Leads old.paths new.paths path shape
  pub sized : HasSizes (heap_of new)
  pub stay : (at : ℕ) → at < layouts_start old.seat.space
      → slice_get (heap_words new.seat) at ≡ slice_get (heap_words old.seat) at
  pub stores : StoresOn old new

-- the words with the header of an object made that of a shape
abbrev pub with_shape : List ℕ → ℕ → Header → ℕ → List ℕ
with_shape words object header shape = slice_set words object (shaped_bits header shape)

-- what an in-object slot comes to hold for a new field
abbrev pub own_content : Held → SlotContent
own_content value = content_of true (held_rep value) value

-- what is put in an in-object slot may be put there
abbrev pub MayPutContent : Mutator → ℕ → SlotContent → Type 0
MayPutContent main at (content.Tagged word) = MayPut main at (event.StoreSlot at word.0)
MayPutContent main at (content.Raw word) = MayPut main at (event.StoreOwned at word)
MayPutContent main at (content.Boxed v) = Unit {0}

-- The field comes to the next in-object slot.
pub record AddsOwn (old new : Mutator) (object : ℕ) (header : Header) (name : ℕ) (value : Held) : Type 0 where
  pub next : ℕ
  pub mid : Mutator
  pub path : AddsPath old mid (added_path old.paths header.shape name value) next
  pub words : let place = object + (plain_head + count_of old.paths header.shape) in
      let put = slice_set (heap_words mid.seat) place (content_word (own_content value) 0) in
      PutsWords mid new (with_shape put object header next)
  pub touches : let place = object + (plain_head + count_of old.paths header.shape) in
      Touches mid new (touched_then (touched_one (slot_touch (own_content value)) place)
      (touched_one Touch.Wiped object))
  pub stores : StoresOn old new
  pub surely : let place = object + (plain_head + count_of old.paths header.shape) in
      StoresSurely new (touched_one (slot_touch (own_content value)) place)

-- The field comes to the next slot of the property store; a box that it needs is made.
pub record AddsToStore (old new : Mutator) (object : ℕ) (header : Header) (name : ℕ) (value : Held) (store : Store)
    : Type 0 where
  pub room : HasRoom old.young (content_need (store_content value))
  pub next : ℕ
  pub mid : Mutator
  pub path : AddsPath (reserved old (content_need (store_content value))) mid
      (added_path old.paths header.shape name value) next
  pub words : let place = store.at + (store_head + behind_cap old.paths header.shape) in
      let boxed = with_content (heap_words mid.seat) (store_content value) (next_at old) in
      let put = slice_set boxed place (content_word (store_content value) (next_at old)) in
      PutsWords mid new (with_shape put object header next)
  pub touches : let place = store.at + (store_head + behind_cap old.paths header.shape) in
      let boxed = content_touch (store_content value) (next_at old) in
      Touches mid new (touched_then (touched_then boxed (touched_one Touch.Stored place))
      (touched_one Touch.Wiped object))
  pub stores : StoresOn old new
  pub surely : let place = store.at + (store_head + behind_cap old.paths header.shape) in
      let boxed = content_touch (store_content value) (next_at old) in
      StoresSurely new (touched_then boxed (touched_one Touch.Stored place))

-- A store is made in place of the one before, and the field comes to its first slot behind the slots of that one; a
-- box that it needs is made behind the store.
pub record AddsToNewStore (old new : Mutator) (object : ℕ) (header : Header) (name : ℕ) (value : Held) (store : Store)
    : Type 0 where
  pub room : HasRoom old.young (store_head + grown store.capacity + content_need (store_content value))
  pub next : ℕ
  pub mid : Mutator
  pub path : AddsPath (reserved old (store_head + grown store.capacity + content_need (store_content value))) mid
      (added_path old.paths header.shape name value) next
  pub words : let behind = next_at old + (store_head + grown store.capacity) in
      let place = next_at old + (store_head + store.capacity) in
      let stored = with_store (heap_words mid.seat) object store (grown store.capacity) (next_at old) in
      let boxed = with_content stored (store_content value) behind in
      let put = slice_set boxed place (content_word (store_content value) behind) in
      PutsWords mid new (with_shape put object header next)
  pub touches : let behind = next_at old + (store_head + grown store.capacity) in
      let place = next_at old + (store_head + store.capacity) in
      let named = touched_one Touch.Stored (object + store_slot) in
      let stored = touched_then (store_touch (grown store.capacity) (next_at old)) named in
      let boxed = touched_then stored (content_touch (store_content value) behind) in
      Touches mid new (touched_then (touched_then boxed (touched_one Touch.Stored place))
      (touched_one Touch.Wiped object))
  pub stores : StoresOn old new
  pub surely : let behind = next_at old + (store_head + grown store.capacity) in
      let place = next_at old + (store_head + store.capacity) in
      let named = touched_one Touch.Stored (object + store_slot) in
      let stored = touched_then (store_touch (grown store.capacity) (next_at old)) named in
      let boxed = touched_then stored (content_touch (store_content value) behind) in
      StoresSurely new (touched_then boxed (touched_one Touch.Stored place))

-- How the field comes to the object: to an in-object slot below the cap, and else to the property store, which is
-- made anew where it is full or absent.
pub data AddsField (old new : Mutator) (object : ℕ) (header : Header) (name : ℕ) (value : Held) : Type 0 where
  own : count_of old.paths header.shape < (shape_path old.paths header.shape).cap
      → AddsOwn old new object header name value → AddsField old new object header name value
  to_store : (store : Store) → ComesBehind old.paths header.shape
      → IsStoreAt (heap_of old) object store → behind_cap old.paths header.shape < store.capacity
      → AddsToStore old new object header name value store → AddsField old new object header name value
  to_new_store : (store : Store) → ComesBehind old.paths header.shape
      → IsStoreAt (heap_of old) object store → behind_cap old.paths header.shape ≡ store.capacity
      → AddsToNewStore old new object header name value store → AddsField old new object header name value
