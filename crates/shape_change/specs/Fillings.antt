-- What has changed once a slot of a plain object was filled.
use Rattle.std.specs.Prelude.{◌≡◌, ℕ, ◌<◌, Bool, Some, None, List, Result, Ok, Err, slice_get, option_map, nat_lt}
use Rattle.heap_model.specs.Types.{Header, Path, Held, Rep, Word}
use Rattle.tagged_word.specs.Headers.{header_bits}
use Rattle.page_space.specs.Extents.{layouts_start, marks_start}
use Rattle.page_space.specs.Sizes.{AreWithin}
use Rattle.handle_roots.specs.Roots.{FitsHeld}
use Rattle.object_graph.specs.Paths.{with_path}
use Rattle.object_graph.specs.Limits.{paths_most}
use Rattle.object_graph.specs.Values.{join}
use Rattle.shape_tree.specs.Shapes.{IsPathShape, shape_path, Leads, LacksPathsFor}
use Rattle.write_barrier.specs.Seats.{RestStays}
use Rattle.heap_model.specs.Heaps.{Heap}
use Rattle.heap_model.specs.Needs.{word_at}
use Rattle.heap_model.specs.Wholeness.{HasSizes, Whole}
use Rattle.write_barrier.specs.MutatorState.{Mutator, heap_of, IsTied, with_word}
use Rattle.write_barrier.specs.Marking.{with_blackened}
use Rattle.write_barrier.specs.SureStores.{StoresBlack}
use Rattle.write_barrier.specs.Opening.{ChangesWithin}
use Rattle.object_cells.specs.declared.content.SlotContent.{SlotContent}
use Rattle.object_cells.specs.declared.content.SlotContent.TheVariants as content
use Rattle.shape_change.specs.declared.set_slot.SlotSetting.{SlotSetting}
use Rattle.shape_change.specs.declared.stop.FieldStop.{FieldStop}
use Rattle.shape_change.specs.declared.stop.FieldStop.TheVariants as stop
use Rattle.shape_change.specs.FieldChanges.{IsShownSetting}
use Rattle.shape_change.specs.Places.{place_at, IsPlaceOf}
use Rattle.write_barrier.specs.Reading.{IsHeaderAt}
use Rattle.object_cells.specs.CellsAt.{HasField}
use Rattle.object_cells.specs.Contents.{held_rep, content_of, HoldsSlotWord, filling_at, filled, AllocatesBox}
use Rattle.object_cells.specs.Contents.{LacksRoom}
use Rattle.object_cells.specs.CycleChanges.{MayFillSlot}

-- How the slot of this number of the plain object at the address is set to the value: the place of the slot, the
-- representation of its field before and after, and what the slot comes to hold. Where that is a reference to a box, it
-- held a slot word before.
pub record IsSlotSetting (heap : Heap) (object shape slot : ℕ) (value : Held) (setting : SlotSetting) : Type 0 where
  pub place : IsPlaceOf heap object (shape_path heap.paths shape).cap slot setting.place
  pub within : place_at object setting.place < marks_start heap.space
  pub was : option_map (λ field. field.rep) (slice_get (shape_path heap.paths shape).fields slot) ≡ Some setting.was
  pub joins : setting.rep ≡ join setting.was (held_rep value)
  pub content : setting.content ≡ content_of (nat_lt slot (shape_path heap.paths shape).cap) setting.rep value
  pub held : HoldsSlotWord heap (word_at heap (place_at object setting.place)) setting.content

-- a field of this representation keeps it for the value, and its slot comes to hold the tagged word
pub record KeepsTagged (was : Rep) (value : Held) (word : Word) : Type 0 where
  pub stays : join was (held_rep value) ≡ was
  pub content : (own : Bool) → content_of own was value ≡ content.Tagged word

-- The slot of this number of the plain object at the address, whose shape this is, may be set so, as a value asks.
pub record CanSetSlot (main : Mutator) (object shape slot : ℕ) (setting : SlotSetting) : Type 0 where
  pub value : Held
  pub fits : FitsHeld value
  pub shown : IsShownSetting main object value
  pub is : IsSlotSetting (heap_of main) object shape slot value setting
  pub sizes : AreWithin main.seat.space.sizes main.seat.space.variables
  pub whole : Whole (heap_of main)
  pub tied : IsTied main
  pub there : HasField (heap_of main) object shape slot
  pub path : IsPathShape main.paths shape
  pub within : place_at object setting.place < marks_start main.seat.space
  pub held : HoldsSlotWord (heap_of main) (word_at (heap_of main) (place_at object setting.place)) setting.content

-- once the words that it needs are used, the slot at the address may be filled so that it comes to hold this
abbrev pub MayComeToHold : Mutator → ℕ → SlotContent → Type 0
MayComeToHold main at content =
    (between : Mutator) → AllocatesBox main between (filling_at main at content)
    → MayFillSlot between at (filling_at main at content)

-- the mutator with other paths
abbrev pub with_paths : Mutator → List Path → Mutator
with_paths main paths = record main { paths = paths }

-- The slot at the address came to hold this, and the object has the shape of this path: the words that it needs are
-- used, the paths were added with their layout words, the object was made black, the slot was filled, and then the
-- header was put. The marks and the board are as they were.
pub record FillsWider (old new : Mutator) (object at : ℕ) (path : Path) (content : SlotContent) : Type 0 where
  pub between : Mutator
  pub allocates : AllocatesBox old between (filling_at old at content)
  pub laid : Mutator
  pub changes : ChangesWithin (with_paths between laid.paths) laid (layouts_start old.seat.space)
      (marks_start old.seat.space)
  pub sized : HasSizes (heap_of laid)
  pub next : ℕ
  pub leads : Leads old.paths laid.paths path next
  pub header : Header
  pub is_header : IsHeaderAt (heap_of old) object header
  pub fills : new ≡ with_word (filled (with_blackened laid object) at (filling_at old at content)) object
      (header_bits (record header { shape = next }))
  pub stores : StoresBlack old new object
  pub beside : RestStays old.seat new.seat

-- the slot came to hold this, with the object of another shape; or there are too many paths, or no room, in this
-- order, and nothing has changed
abbrev pub SetsWider : Mutator → Mutator → ℕ → ℕ → Path → SlotContent → Result Unit FieldStop → Type 0
SetsWider old new object at path content (Ok _) = FillsWider old new object at path content
SetsWider old new object at path content (Err stop.NotPlain) = ⊥
SetsWider old new object at path content (Err stop.FieldsFull) = ⊥
SetsWider old new object at path content (Err (stop.ShapesFull full)) =
    LacksPathsFor old.paths old.paths path full × (new ≡ old)
SetsWider old new object at path content (Err (stop.Full full)) =
    (with_path (Some paths_most) old.paths path ≡ None → ⊥) × LacksRoom old (filling_at old at content) full
    × (new ≡ old)
