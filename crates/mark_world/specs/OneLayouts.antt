-- One layout in a snapshot: over a list of events, each snap that made its cell black was read under one layout.
use Rattle.std.specs.Prelude.{◌≡◌, ℕ, ◌+◌, ◌<◌, ◌≤◌, List, All, Contains, slice_get, slice_index, Some}
use Rattle.std.specs.Prelude.{IsSomeAnd, ◌↔◌}
use Rattle.tagged_word.specs.declared.reading.Reading.{Reading}
use Rattle.core_parts.specs.Lists.{HasNoRepeats}
use Rattle.mark_world.specs.declared.event.Event.{Event}
use Rattle.mark_world.specs.declared.event.Event.TheVariants as event
use Rattle.mark_world.specs.declared.snap.Snap.{Snap}
use Rattle.mark_world.specs.declared.snap.SnapSlot.{SnapSlot}
use Rattle.mark_world.specs.declared.world.World.{World}
use Rattle.mark_world.specs.Pages.{slots_of}
use Rattle.mark_world.specs.Naming.{Named, named, read_offsets}
use Rattle.mark_world.specs.Steps.{grey}
use Rattle.mark_world.specs.AfterEvents.{moment}
use Rattle.mark_world.specs.Coverage.{EachSlot, HasCovered, cell_of, colour_of}

-- the cell has the size of the one that was read, and each of its tagged slots
pub record KeepsSlots (read now : Reading) : Type 0 where
  pub size : now.size ≡ read.size
  pub tagged : All (λ offset. Contains (slots_of now) offset) (slots_of read)

-- the word of a slot was loaded at a moment between two others: it stood there, and the slot was a tagged one of the
-- cell
pub record WasLoaded (start : World) (events : List Event) (from to number cell : ℕ) (slot : SnapSlot) : Type 0 where
  pub at : ℕ
  pub later : from < at
  pub before : at < to
  pub load : slice_get events at ≡ Some (event.LoadSlot number slot.offset)
  pub word : slot.word ≡ slice_index (moment start events at).words (cell + slot.offset)
  pub tagged : IsSomeAnd (cell_of (moment start events at) cell) (λ now. Contains (slots_of now) slot.offset)

-- A snap that is settled at one moment began at an earlier one, when its header was loaded, and the cell read so then.
-- From then on the cell was grey, and kept its size and its tagged slots. The snap has these slots, each once, and each
-- word was loaded between from a slot that was tagged. A slot that is tagged at the end, and that the snap does not
-- have, is covered.
pub record HasOneLayout (start : World) (events : List Event) (from to number : ℕ) (snap : Snap) : Type 0 where
  pub before : from < to
  pub load : slice_get events from ≡ Some (event.LoadHeader number snap.cell)
  pub header : snap.header ≡ slice_index (moment start events from).words snap.cell
  pub read : Reading
  pub stood : cell_of (moment start events from) snap.cell ≡ Some read
  pub grey : (k : ℕ) → from ≤ k → k ≤ to → colour_of (moment start events k) snap.cell ≡ grey
  pub kept : (k : ℕ) → from ≤ k → k ≤ to → IsSomeAnd (cell_of (moment start events k) snap.cell) (KeepsSlots read)
  pub names : named snap ≡ Named.slots (slots_of read)
  pub offsets : (offset : ℕ) → Contains (read_offsets snap) offset ↔ Contains (slots_of read) offset
  pub once : HasNoRepeats (read_offsets snap)
  pub values : All (WasLoaded start events from to number snap.cell) snap.slots
  pub rest : EachSlot (moment start events to) snap.cell (λ offset word.
      (Contains (read_offsets snap) offset → ⊥) → HasCovered (moment start events to) word)

-- a settling of a helper's snap at a moment finds the cell grey
pub record SettlesGrey (start : World) (events : List Event) (k number : ℕ) (snap : Snap) : Type 0 where
  pub settles : slice_get events k ≡ Some (event.Settle number)
  pub had : IsSomeAnd (slice_get (moment start events k).helpers number) (λ view. view.snap ≡ Some snap)
  pub grey : colour_of (moment start events k) snap.cell ≡ grey

-- each snap that was settled while its cell was grey was read under one layout
abbrev pub OneLayout : World → List Event → Type 0
OneLayout start events =
    (k number : ℕ) (snap : Snap) → SettlesGrey start events k number snap
    → (from : ℕ) × HasOneLayout start events from k number snap
