-- What the slot of a field comes to hold for a value, and which words that writes.
use Rattle.std.specs.Prelude.{◌≡◌, ℕ, ◌+◌, ◌≤◌, Bool, true, false, Option, Some, None, ℤ, if◌then◌else◌}
use Rattle.std.specs.Prelude.{Result, Ok, Err}
use Rattle.tagged_word.specs.Words.{small}
use Rattle.tagged_word.specs.Headers.{header_bits}
use Rattle.tagged_word.specs.Readings.{reference_in}
use Rattle.heap_model.specs.Types.{Rep, Held}
use Rattle.object_graph.specs.declared.value.Rep.TheVariants as rep
use Rattle.page_space.specs.Extents.{Space, layouts_start}
use Rattle.nursery.specs.Young.{HasRoom, next_of}
use Rattle.handle_roots.specs.declared.held.Held.TheVariants as held
use Rattle.write_barrier.specs.Seats.{RestStays}
use Rattle.heap_model.specs.Heaps.{Heap}
use Rattle.heap_model.specs.Slots.{small_word, undefined_word, reference_word, raw_word, IsSlotWord}
use Rattle.heap_model.specs.Needs.{box_words, is_box_word, word_at}
use Rattle.heap_model.specs.Remembered.{Touch}
use Rattle.write_barrier.specs.MutatorState.{Mutator, heap_of, with_word, with_slot, reserved}
use Rattle.write_barrier.specs.Recording.{touched, touched_one, touched_then}
use Rattle.object_cells.specs.Formats.{box_header}
use Rattle.write_barrier.specs.declared.room.NoRoom.{NoRoom}
use Rattle.object_cells.specs.declared.content.SlotContent.{SlotContent}
use Rattle.object_cells.specs.declared.content.SlotContent.TheVariants as content
use Rattle.object_cells.specs.declared.content.SlotWrite.{SlotWrite}
use Rattle.object_cells.specs.declared.content.SlotWrite.TheVariants as filling

-- the narrowest representation that holds what is held
abbrev pub held_rep : Held → Rep
held_rep (held.Int v) = if small v then rep.Small else rep.Wide
held_rep _ = rep.Tagged

-- an integer in a slot that is not raw: its own word where it is small, and else a box
abbrev pub small_content : ℤ → Bool → SlotContent
small_content v true = content.Tagged (record { 0 = small_word v })
small_content v false = content.Boxed v

-- an integer in a slot of this representation: a wide one is raw in the object, and in a box in its store
abbrev pub integer_content : Bool → Rep → ℤ → SlotContent
integer_content true rep.Wide v = content.Raw (raw_word v)
integer_content false rep.Wide v = content.Boxed v
integer_content own _ v = small_content v (small v)

-- what a slot of this representation, in the object itself or in its store, holds for a value
abbrev pub content_of : Bool → Rep → Held → SlotContent
content_of own rep (held.Int v) = integer_content own rep v
content_of own rep (held.Ref at) = content.Tagged (record { 0 = reference_word at })
content_of own rep _ = content.Tagged (record { 0 = undefined_word })

-- the box to which the word refers
abbrev pub box_in : Heap → ℕ → Option ℕ
box_in heap word = if is_box_word heap word then reference_in word else None

-- the address at which the next cell is made
abbrev pub next_at : Mutator → ℕ
next_at main = next_of main.young

-- how a slot comes to hold this: a box is written where one stands, and else made at the address
abbrev pub filling_of : Option ℕ → ℕ → SlotContent → SlotWrite
filling_of box at (content.Tagged word) = filling.Tagged word
filling_of box at (content.Raw word) = filling.Raw word
filling_of None at (content.Boxed v) = filling.NewBox at v
filling_of (Some box) at (content.Boxed v) = filling.OldBox box v

-- how the slot at an address comes to hold this
abbrev pub filling_at : Mutator → ℕ → SlotContent → SlotWrite
filling_at main at content = filling_of (box_in (heap_of main) (word_at (heap_of main) at)) (next_at main) content

-- how many words that allocates
abbrev pub filling_need : SlotWrite → ℕ
filling_need (filling.NewBox at v) = box_words
filling_need _ = 0

-- there was room for these, and they are used from now on
abbrev pub AllocatesBox : Mutator → Mutator → SlotWrite → Type 0
AllocatesBox old new (filling.NewBox at v) = HasRoom old.young box_words × (new ≡ reserved old box_words)
AllocatesBox old new _ = new ≡ old

-- there is no room for these
abbrev pub LacksRoom : Mutator → SlotWrite → NoRoom → Type 0
LacksRoom main (filling.NewBox at v) full = (full.need ≡ box_words) × (HasRoom main.young box_words → ⊥)
LacksRoom main _ full = ⊥

-- the slot held a slot word before, where it is to refer to a box
abbrev pub HoldsSlotWord : Heap → ℕ → SlotContent → Type 0
HoldsSlotWord heap word (content.Boxed v) = IsSlotWord heap word
HoldsSlotWord heap word _ = Unit {0}

-- a box that is made, or written, is before the layout words
abbrev pub IsBeforeLayouts : Space → SlotWrite → Type 0
IsBeforeLayouts space (filling.NewBox at v) = at + box_words ≤ layouts_start space
IsBeforeLayouts space (filling.OldBox at v) = at + box_words ≤ layouts_start space
IsBeforeLayouts space _ = Unit {0}

-- both words at an address are those of a box of the integer
abbrev pub with_box : Mutator → ℕ → ℤ → Mutator
with_box main at v = with_word (with_word main at (header_bits box_header)) (at + 1) (raw_word v)

-- the slot at the address is filled so
abbrev pub filled : Mutator → ℕ → SlotWrite → Mutator
filled main at (filling.Tagged word) = with_slot main at word.0
filled main at (filling.Raw word) = with_word main at word
filled main at (filling.NewBox box v) = with_slot (with_box main box v) at (reference_word box)
filled main at (filling.OldBox box v) = with_word main (box + 1) (raw_word v)

-- which addresses that touches
abbrev pub filled_touch : SlotWrite → ℕ → ℕ → Touch
filled_touch (filling.Tagged word) at = touched_one Touch.Stored at
filled_touch (filling.Raw word) at = touched_one Touch.Wiped at
filled_touch (filling.NewBox box v) at =
    touched_then (touched Touch.Wiped box (box + box_words)) (touched_one Touch.Stored at)
filled_touch (filling.OldBox box v) at = touched_one Touch.Wiped (box + 1)

-- The slot at the address came to hold this: the words that it needs are used, and it was filled. The marks and the
-- board are as they were.
pub record FillsSlot (old new : Mutator) (at : ℕ) (content : SlotContent) : Type 0 where
  pub between : Mutator
  pub allocates : AllocatesBox old between (filling_at old at content)
  pub fills : new ≡ filled between at (filling_at old at content)
  pub beside : RestStays old.seat new.seat

-- it did; or there is no room, and nothing has changed
abbrev pub FillsOrRefuses : Mutator → Mutator → ℕ → SlotContent → Result Unit NoRoom → Type 0
FillsOrRefuses old new at content (Ok _) = FillsSlot old new at content
FillsOrRefuses old new at content (Err full) = LacksRoom old (filling_at old at content) full × (new ≡ old)
