-- What may be concluded of home copies and of what is left to do.
use Rattle.std.specs.Prelude.{◌≡◌, ℕ, ◌+◌, ◌≤◌, true, List, length, Contains, slice_get, Some, None}
use Rattle.tagged_word.specs.declared.reading.Reading.{Reading}
use Rattle.tagged_word.specs.Cells.{scavenge_offsets}
use Rattle.tagged_word.specs.Readings.{read_cell, reference_in}
use Rattle.core_parts.specs.declared.note.Note.TheVariants.{Loaded}
use Rattle.scav_copy.specs.declared.places.Home.{Home}
use Rattle.scav_copy.specs.Places.{cell_before, size_of, offsets_of, IsLaidOut, StoodAt}
use Rattle.scav_copy.specs.Renamings.{RefersToAddress}
use Rattle.scav_copy.specs.Going.{GoesOn, HasGoneOn}
use Rattle.scav_core.specs.declared.event.Event.TheVariants.{LoadSlot}
use Rattle.scav_core.specs.declared.workers.WorkerView.{WorkerView}
use Rattle.scav_core.specs.declared.world.World.{World}
use Rattle.scav_core.specs.Worlds.{fixed_of}
use Rattle.scav_core.specs.Possible.{is_possible}
use Rattle.scav_core.specs.Underway.{Underway}
use Rattle.scav_core.specs.WorldLaws.{IsCopying, IsDone}

-- Where a home copy ends at a bound or before, it reads as its cell.
abbrev pub HomesReadAsCells : Type 0
HomesReadAsCells =
    (world : World) (home : Home) (bound : ℕ) → Underway world → Contains world.homes home
    → home.to + size_of (fixed_of world) home.from ≤ bound
    → read_cell world.words world.layouts home.to bound ≡ cell_before (fixed_of world) home.from

-- the words from an address on read as a cell, and the worker may read each of its slots
pub record IsReadable (world : World) (worker at bound : ℕ) : Type 0 where
  pub cell : Reading
  pub reads : read_cell world.words world.layouts at bound ≡ Some cell
  pub slots : (offset : ℕ) → Contains (scavenge_offsets cell.layout cell.length) offset
      → is_possible world (LoadSlot worker (at + offset)) ≡ true

-- What a worker with no job has to do reads as a cell, by any bound that the words don't pass, and it may read each
-- slot that this cell has.
abbrev pub TodoReadsAsCells : Type 0
TodoReadsAsCells =
    (world : World) (worker : ℕ) (view : WorkerView) (at bound : ℕ) → Underway world
    → slice_get world.workers worker ≡ Some view → view.out ≡ true → view.job ≡ None → Contains view.todo at
    → length world.words ≤ bound → IsReadable world worker at bound

-- a log says that the slot was read
abbrev pub WasRead : World → ℕ → Type 0
WasRead world slot = (view : WorkerView) × Contains world.workers view × Contains view.log (Loaded slot)

-- No worker is at a slot. Logs say that each of `slots` was read, and each slot of the copies that workers have to do.
pub record WorkersAreDone (world : World) : Type 0 where
  pub idle : (view : WorkerView) → Contains world.workers view → view.job ≡ None
  pub slots : (slot : ℕ) → Contains world.slots slot → WasRead world slot
  pub todo : (view : WorkerView) (home : Home) (offset : ℕ) → Contains world.workers view
      → Contains world.homes home → Contains view.todo home.to
      → Contains (offsets_of (fixed_of world) home.from) offset → WasRead world (home.to + offset)

-- the slot is one of a home copy to which a word of the board refers
pub record IsOnBoard (world : World) (slot : ℕ) : Type 0 where
  pub home : Home
  pub among : Contains world.homes home
  pub word : ℕ
  pub stands : Contains world.board word
  pub refers : reference_in word ≡ Some home.to
  pub offset : ℕ
  pub is_slot : Contains (offsets_of (fixed_of world) home.from) offset
  pub at : home.to + offset ≡ slot

-- where workers are done, each live slot that refers to one of the cells is one of a copy on the board
abbrev pub LeftIsOnBoard : Type 0
LeftIsOnBoard =
    (world : World) (slot place cell : ℕ) → Underway world → WorkersAreDone world
    → StoodAt (fixed_of world) world.homes slot place → RefersToAddress world.words slot cell
    → Contains world.cells cell
    → IsOnBoard world slot

-- where they are done, and no word of the board is a reference, the scavenge is done
abbrev pub NothingLeftIsDone : Type 0
NothingLeftIsDone =
    (world : World) → Underway world → WorkersAreDone world
    → ((word : ℕ) → Contains world.board word → reference_in word ≡ None) → IsDone world world

-- A scavenge by one goes on from the words and homes that workers left.
abbrev pub MainGoesOn : Type 0
MainGoesOn =
    (start world : World) (now : List ℕ) (all : List Home) → IsLaidOut (fixed_of start) → IsCopying start world
    → GoesOn (fixed_of start) world.words world.homes now all → HasGoneOn (fixed_of start) world.homes now all
