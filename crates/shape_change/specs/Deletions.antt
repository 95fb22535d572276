-- How a field is taken out of the cells of a plain object.
use Rattle.std.specs.Prelude.{◌≡◌, ◌≢◌, ℕ, suc, ◌+◌, ◌<◌, ◌≤◌, List, length, Some, slice_get, ℤ}
use Rattle.std.specs.Prelude.{false, true, nat_lt, Contains, Result, Ok, Err}
use Rattle.heap_model.specs.Types.{Header, PathField, Rep, ShapesFull, Cell}
use Rattle.tagged_word.specs.declared.layout.Kind.TheVariants as kind
use Rattle.tagged_word.specs.Headers.{header_bits}
use Rattle.tagged_word.specs.Cells.{plain_head, store_head, store_slot}
use Rattle.page_space.specs.Extents.{eden_start, layouts_start}
use Rattle.heap_table.specs.Phases.{Mark}
use Rattle.object_graph.specs.declared.value.Rep.TheVariants.{Small, Wide, Tagged}
use Rattle.shape_tree.specs.Shapes.{IsPathShape, shape_path, without, Leads, LacksPathsFor}
use Rattle.write_barrier.specs.Seats.{heap_words, RestStays}
use Rattle.heap_model.specs.Heaps.{Heap, HasCell}
use Rattle.heap_model.specs.Slots.{raw_word, hole_word, RefersTo, RefersToBox, IsFieldWord}
use Rattle.heap_model.specs.Kinds.{HasWord}
use Rattle.heap_model.specs.Wholeness.{HasSizes}
use Rattle.heap_model.specs.Remembered.{Touch}
use Rattle.write_barrier.specs.MutatorState.{Mutator, heap_of}
use Rattle.write_barrier.specs.Recording.{Touches}
use Rattle.write_barrier.specs.Storing.{MayChange, MayHold}
use Rattle.write_barrier.specs.SureStores.{StoresBlack, StoresSurely}
use Rattle.shape_change.specs.Shifts.{slot_at, field_touch, fields_beside, MayChangeStore}

-- a plain object's cell stands at the address, and its property store at the other
pub record HasStoreAt (heap : Heap) (object store : ℕ) : Type 0 where
  pub cell : Cell
  pub words : List ℕ
  pub has : HasCell heap cell words
  pub stands : cell.at ≡ object
  pub plain : cell.layout.kind ≡ kind.Plain
  pub word : ℕ
  pub slot : HasWord words store_slot word
  pub other : Cell
  pub others : List ℕ
  pub refers : RefersTo heap word other others
  pub is_store : other.layout.kind ≡ kind.Store
  pub at : other.at ≡ store

-- the first slot of the store holds a word of the first field of the shape that does not stand in the object
pub record HasFirstBeside (heap : Heap) (store shape : ℕ) : Type 0 where
  pub is_shape : IsPathShape heap.paths shape
  pub field : PathField
  pub among : slice_get (shape_path heap.paths shape).fields (shape_path heap.paths shape).cap ≡ Some field
  pub word : ℕ
  pub stands : slice_get heap.words (store + store_head) ≡ Some word
  pub is : IsFieldWord heap false field.rep word

-- what the word of a field in the store becomes in the object: of a wide one the integer in its box is raw there
abbrev pub IsDrawnIn : Heap → Rep → ℕ → ℕ → Type 0
IsDrawnIn heap Small word drawn = drawn ≡ word
IsDrawnIn heap Wide word drawn = (v : ℤ) → RefersToBox heap word v → drawn ≡ raw_word v
IsDrawnIn heap Tagged word drawn = drawn ≡ word

-- the same of the first field of the shape that does not stand in the object
abbrev pub DrawsInFirst : Heap → ℕ → ℕ → ℕ → Type 0
DrawsInFirst heap store shape drawn =
    (field : PathField) (word : ℕ)
    → slice_get (shape_path heap.paths shape).fields (shape_path heap.paths shape).cap ≡ Some field
    → slice_get heap.words (store + store_head) ≡ Some word → IsDrawnIn heap field.rep word drawn

-- all words before the layout words are the same, what is recorded too, and so is all but the paths
pub record AddsPaths (old new : Mutator) : Type 0 where
  pub beside : RestStays old.seat new.seat
  pub young : new.young ≡ old.young
  pub free : new.free ≡ old.free
  pub recorded : new.recorded ≡ old.recorded
  pub count : length (heap_words new.seat) ≡ length (heap_words old.seat)
  pub same : (at : ℕ) → at < layouts_start old.seat.space
      → slice_get (heap_words new.seat) at ≡ slice_get (heap_words old.seat) at

-- How the shape of a path without one field is found: the path was added, and the layout words are those of all paths.
-- Or there may not be as many paths, and nothing has changed.
abbrev pub FindsWithout : Mutator → Mutator → ℕ → ℕ → Result ℕ ShapesFull → Type 0
FindsWithout old new shape slot (Ok next) =
    Leads old.paths new.paths (without (shape_path old.paths shape) slot) next × HasSizes (heap_of new)
    × AddsPaths old new
FindsWithout old new shape slot (Err full) =
    LacksPathsFor old.paths new.paths (without (shape_path old.paths shape) slot) full × (new ≡ old)

-- Where a cycle is open, the words of the plain object at an address, which has the shape, and of its store are the
-- mutator's to change; the object's cell may be made black; and the words of its tagged slots may be held.
pub record MayTakeOut (main : Mutator) (object shape : ℕ) : Type 0 where
  pub may : MayChange main object (plain_head + (shape_path main.paths shape).cap) kind.Plain
  pub born : object < eden_start main.seat.space → main.seat.phase ≡ Mark → Contains main.cycle.born object
  pub own : (one word : ℕ) → one < (shape_path main.paths shape).cap
      → field_touch true (slice_get (shape_path main.paths shape).fields one) ≡ Touch.Stored
      → slice_get (heap_words main.seat) (object + (plain_head + one)) ≡ Some word → MayHold main word
  pub may_beside : (store : ℕ) → HasStoreAt (heap_of main) object store
      → MayChangeStore main store (fields_beside (shape_path main.paths shape))
  pub beside : (store one word : ℕ) → HasStoreAt (heap_of main) object store
      → one < fields_beside (shape_path main.paths shape)
      → slice_get (heap_words main.seat) (store + (store_head + one)) ≡ Some word → MayHold main word

-- what of the property store takes part, where not all fields stand in the object: its address, and what the word of
-- its first field becomes in the object
pub record HasFirstInStore (heap : Heap) (object shape store first : ℕ) : Type 0 where
  pub at : HasStoreAt heap object store
  pub drawn : DrawsInFirst heap store shape first

-- the word of the header with another shape
abbrev pub shaped_bits : Header → ℕ → ℕ
shaped_bits header shape = header_bits (record header { shape = shape })

-- How the field of a number is taken out of the plain object at an address, whose header was this one. The path without
-- it was added, and the header is of its shape. From the field on each slot holds the word of the next, up to the last
-- field's, which holds nothing; what comes into the object from the store is drawn in. No other word before the layout
-- words changed, nor what is recorded of it.
pub record TakesFieldOut (old new : Mutator) (object : ℕ) (header : Header) (slot : ℕ) : Type 0 where
  pub next : ℕ
  pub leads : Leads old.paths new.paths (without (shape_path old.paths header.shape) slot) next
  pub sized : HasSizes (heap_of new)
  pub beside : RestStays old.seat new.seat
  pub young : new.young ≡ old.young
  pub cap : ℕ
  pub caps : (shape_path old.paths header.shape).cap ≡ cap
  pub last : ℕ
  pub counted : length (shape_path old.paths header.shape).fields ≡ suc last
  pub store : ℕ
  pub first : ℕ
  pub has_beside : cap ≤ last → HasFirstInStore (heap_of old) object header.shape store first
  pub moved : (one : ℕ) → slot ≤ one → one < last → suc one ≢ cap
      → slice_get (heap_words new.seat) (slot_at object cap store one)
      ≡ slice_get (heap_words old.seat) (slot_at object cap store (suc one))
  pub drawn_in : (one : ℕ) → slot ≤ one → one < last → suc one ≡ cap
      → slice_get (heap_words new.seat) (slot_at object cap store one) ≡ Some first
  pub hole : slice_get (heap_words new.seat) (slot_at object cap store last) ≡ Some hole_word
  pub headed : slice_get (heap_words new.seat) object ≡ Some (shaped_bits header next)
  pub stay : (at : ℕ) → at < layouts_start old.seat.space → object ≢ at
      → ((one : ℕ) → slot ≤ one → one ≤ last → slot_at object cap store one ≢ at)
      → slice_get (heap_words new.seat) at ≡ slice_get (heap_words old.seat) at
  pub black : StoresBlack old new object
  pub touch : ℕ → Touch
  pub surely : StoresSurely new touch
  pub touches : old.recorded.bound ≤ layouts_start old.seat.space → Touches old new touch
  pub headed_touch : touch object ≡ Touch.Wiped
  pub slot_touches : (one : ℕ) → slot ≤ one → one ≤ last
      → touch (slot_at object cap store one)
      ≡ field_touch (nat_lt one cap) (slice_get (shape_path new.paths next).fields one)
  pub others_touch : (at : ℕ) → object ≢ at
      → ((one : ℕ) → slot ≤ one → one ≤ last → slot_at object cap store one ≢ at) → touch at ≡ Touch.Kept

-- it is taken out; or there may not be as many paths, and nothing has changed
abbrev pub TakingOut : Mutator → Mutator → ℕ → Header → ℕ → Result Unit ShapesFull → Type 0
TakingOut old new object header slot (Ok _) = TakesFieldOut old new object header slot
TakingOut old new object header slot (Err full) =
    LacksPathsFor old.paths new.paths (without (shape_path old.paths header.shape) slot) full × (new ≡ old)
