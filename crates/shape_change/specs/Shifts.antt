-- Slots that move down by one, where a field before them is taken out of a plain object.
use Rattle.std.specs.Prelude.{◌≡◌, ◌≢◌, ℕ, suc, ◌+◌, ◌-◌, ◌<◌, ◌≤◌, ◌⊎◌, Some, length}
use Rattle.std.specs.Prelude.{Bool, true, false, Option, None, slice_get, nat_lt, if◌then◌else◌, Contains}
use Rattle.tagged_word.specs.Cells.{plain_head, store_head}
use Rattle.page_space.specs.Extents.{eden_start, layouts_start}
use Rattle.tagged_word.specs.declared.layout.Kind.TheVariants as kind
use Rattle.heap_table.specs.Phases.{Mark}
use Rattle.heap_model.specs.Types.{Path, PathField, Rep}
use Rattle.object_graph.specs.declared.value.Rep.TheVariants.{Small, Wide, Tagged}
use Rattle.remembered_set.specs.Recorded.{is_between}
use Rattle.shape_tree.specs.Shapes.{shape_path}
use Rattle.write_barrier.specs.Seats.{heap_words, RestStays}
use Rattle.heap_model.specs.Slots.{hole_word}
use Rattle.heap_model.specs.Remembered.{Touch}
use Rattle.write_barrier.specs.MutatorState.{Mutator}
use Rattle.write_barrier.specs.Recording.{Touches}
use Rattle.write_barrier.specs.Storing.{MayChange, MayHold}
use Rattle.write_barrier.specs.SureStores.{StoresSurely}

-- how the slot of a field is touched that stands in the object: as no slot where it is wide, and so raw
abbrev pub rep_touch : Rep → Touch
rep_touch Small = Touch.Stored
rep_touch Wide = Touch.Wiped
rep_touch Tagged = Touch.Stored

-- the same of a slot in the object (`true`) or in the store; one in the object of no field is no slot
abbrev pub field_touch : Bool → Option PathField → Touch
field_touch false field = Touch.Stored
field_touch true (Some field) = rep_touch field.rep
field_touch true None = Touch.Wiped

-- how the addresses of an object's own slots are touched, whose fields are those of the path
abbrev pub own_touch : Path → ℕ → ℕ → Touch
own_touch path object at = field_touch true (slice_get path.fields (at - (object + plain_head)))

-- how those of a store are
abbrev pub beside_touch : ℕ → Touch
beside_touch at = Touch.Stored

-- the addresses from one up to another are touched so, and no others
abbrev pub touched_by : (ℕ → Touch) → ℕ → ℕ → ℕ → Touch
touched_by how from to at = if is_between from to at then how at else Touch.Kept

-- of the seat, the paths and the young generation at most words before the marks have changed
pub record KeepsRest (old new : Mutator) : Type 0 where
  pub beside : RestStays old.seat new.seat
  pub paths : new.paths ≡ old.paths
  pub young : new.young ≡ old.young
  pub count : length (heap_words new.seat) ≡ length (heap_words old.seat)

-- The words of the plain object at an address, which has so many in-object slots, are the mutator's to change, whatever
-- they are: where a cycle is open and the object is in a page, the mutator made its cell black.
pub record MayRefill (main : Mutator) (object cap : ℕ) : Type 0 where
  pub may : MayChange main object (plain_head + cap) kind.Plain
  pub mine : object < eden_start main.seat.space → main.seat.phase ≡ Mark → Contains main.cycle.mine object

-- the words of a store at an address, which has at least so many slots, are the mutator's to change
pub record MayChangeStore (main : Mutator) (store count : ℕ) : Type 0 where
  pub size : ℕ
  pub long : store_head + count ≤ size
  pub may : MayChange main store size kind.Store

-- each word that comes one address down, to one from an address up to another, may be held, if it is put as a slot's
pub record MayMoveDown (main : Mutator) (from to : ℕ) (how : ℕ → Touch) : Type 0 where
  pub holds : (at word : ℕ) → from ≤ at → at < to → how at ≡ Touch.Stored
      → slice_get (heap_words main.seat) (at + 1) ≡ Some word → MayHold main word

-- no word below an address has changed, and none from another on
abbrev pub KeepsBeside : Mutator → Mutator → ℕ → ℕ → Type 0
KeepsBeside old new from to =
    (a : ℕ) → (a < from) ⊎ (to ≤ a) → slice_get (heap_words new.seat) a ≡ slice_get (heap_words old.seat) a

-- The words from an address up to another became those one further, and nothing else changed; `how` tells how each is
-- touched.
pub record MovesDown (old new : Mutator) (from to : ℕ) (how : ℕ → Touch) : Type 0 where
  pub rest : KeepsRest old new
  pub moved : (a : ℕ) → from ≤ a → a < to
      → slice_get (heap_words new.seat) a ≡ slice_get (heap_words old.seat) (a + 1)
  pub beside : KeepsBeside old new from to
  pub touches : Touches old new (touched_by how from to)
  pub surely : StoresSurely new (touched_by how from to)

-- the same up to the last, which became this word
pub record ClosesGap (old new : Mutator) (from last word : ℕ) (how : ℕ → Touch) : Type 0 where
  pub rest : KeepsRest old new
  pub moved : (a : ℕ) → from ≤ a → a < last
      → slice_get (heap_words new.seat) a ≡ slice_get (heap_words old.seat) (a + 1)
  pub filled : slice_get (heap_words new.seat) last ≡ Some word
  pub beside : KeepsBeside old new from (last + 1)
  pub touches : Touches old new (touched_by how from (last + 1))
  pub surely : StoresSurely new (touched_by how from (last + 1))

-- where the slot of this number stands, of a plain object with so many in-object slots and its store at this address
abbrev pub slot_at : ℕ → ℕ → ℕ → ℕ → ℕ
slot_at object cap store slot =
    if nat_lt slot cap then object + (plain_head + slot) else store + (store_head + (slot - cap))

-- The slots from one on became those one further, up to the last, which holds nothing; the one that comes into the
-- object from the store is this word. Nothing else changed. The fields are those of the path then.
pub record ClosesSlots (old new : Mutator) (object cap store slot last first : ℕ) (path : Path) : Type 0 where
  pub rest : KeepsRest old new
  pub moved : (one : ℕ) → slot ≤ one → one < last → suc one ≢ cap
      → slice_get (heap_words new.seat) (slot_at object cap store one)
      ≡ slice_get (heap_words old.seat) (slot_at object cap store (suc one))
  pub drawn_in : (one : ℕ) → slot ≤ one → one < last → suc one ≡ cap
      → slice_get (heap_words new.seat) (slot_at object cap store one) ≡ Some first
  pub hole : slice_get (heap_words new.seat) (slot_at object cap store last) ≡ Some hole_word
  pub beside : (at : ℕ) → ((one : ℕ) → slot ≤ one → one ≤ last → slot_at object cap store one ≢ at)
      → slice_get (heap_words new.seat) at ≡ slice_get (heap_words old.seat) at
  pub touch : ℕ → Touch
  pub touches : Touches old new touch
  pub surely : StoresSurely new touch
  pub slot_touches : (one : ℕ) → slot ≤ one → one ≤ last
      → touch (slot_at object cap store one) ≡ field_touch (nat_lt one cap) (slice_get path.fields one)
  pub others_touch : (at : ℕ) → ((one : ℕ) → slot ≤ one → one ≤ last → slot_at object cap store one ≢ at)
      → touch at ≡ Touch.Kept

-- Where the slots from one on become those one further, up to the last, each word may be held that moves and is put as
-- a slot's; and so may the one that comes into the object from the store.
pub record MayCloseSlots (main : Mutator) (object cap store slot last first : ℕ) (path : Path) : Type 0 where
  pub moved : (one word : ℕ) → slot ≤ one → one < last → suc one ≢ cap
      → field_touch (nat_lt one cap) (slice_get path.fields one) ≡ Touch.Stored
      → slice_get (heap_words main.seat) (slot_at object cap store (suc one)) ≡ Some word → MayHold main word
  pub drawn : (one : ℕ) → slot ≤ one → one < last → suc one ≡ cap
      → field_touch (nat_lt one cap) (slice_get path.fields one) ≡ Touch.Stored → MayHold main first

-- how many fields of the path stand in the property store
abbrev pub fields_beside : Path → ℕ
fields_beside path = length path.fields - path.cap

-- The in-object slots of a plain object, and the slots of the fields of a shape behind them in its store, stand before
-- the layout words, and have no word in common.
pub record SlotsWithin (main : Mutator) (object store shape : ℕ) : Type 0 where
  pub own : object + (plain_head + (shape_path main.paths shape).cap) ≤ layouts_start main.seat.space
  pub beside : store + (store_head + fields_beside (shape_path main.paths shape)) < layouts_start main.seat.space
  pub apart : (object + (plain_head + (shape_path main.paths shape).cap) ≤ store)
      ⊎ (store + (store_head + fields_beside (shape_path main.paths shape)) < object)
