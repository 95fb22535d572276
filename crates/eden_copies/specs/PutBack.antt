-- What the main side makes of what workers copied: rooms stand in segments, and headers refer to the copies.
use Rattle.std.specs.Prelude.{◌≡◌, ◌≢◌, ℕ, ◌<◌, ◌≤◌, List, [], ◌∷◌, length, Contains, slice_index}
use Rattle.tagged_word.specs.declared.word.Class.TheVariants.{Ref}
use Rattle.tagged_word.specs.Words.{bits_of}
use Rattle.shared_table.specs.Owned.{Own}
use Rattle.cell_layout.specs.Cells.{layouts_in}
use Rattle.scav_copy.specs.declared.places.Home.{Home}
use Rattle.scav_copy.specs.declared.places.Room.{Room}
use Rattle.scav_copy.specs.Places.{Fixed, IsInRooms, IsLaidOut}
use Rattle.scav_copy.specs.Copies.{Copying, with_home}
use Rattle.eden_copies.specs.Eden.{outer_slots, IsLed, MayCopy}
use Rattle.eden_copies.specs.Sides.{WorkerSide, end_of, room_word}
use Rattle.eden_copies.specs.Together.{Finished, homes_of, whole_deal, HaveCopied}

-- what no step of the scavenge changes, with its cells, its slots and its rooms
abbrev pub fixed_of : Own → List ℕ → List ℕ → List Room → Fixed
fixed_of own cells slots rooms = record {
  before = own.words;
  layouts = layouts_in own.space own.words;
  cells = cells;
  slots = slots;
  rooms = rooms;
}

-- the address is that of a word in the worker's room
pub record IsOfRoom (worker : WorkerSide) (at : ℕ) : Type 0 where
  pub from : worker.start ≤ at
  pub below : at < end_of worker

-- The workers' part of a scavenge: the cells to which ways lead are among its cells, the slots outside eden among its
-- slots, and the room of each worker lies in one of its rooms. No two workers' rooms share a word.
pub record ArePartOf (own : Own) (recorded : List ℕ) (all : List Finished) (fixed : Fixed) : Type 0 where
  pub cells : (cell : ℕ) → IsLed own (whole_deal recorded) cell → Contains fixed.cells cell
  pub slots : (slot : ℕ) → Contains (outer_slots own.space recorded) slot → Contains fixed.slots slot
  pub rooms : (one : Finished) → Contains all one
      → (room : Room) × Contains fixed.rooms room × (room.from ≤ one.worker.start) × (end_of one.worker ≤ room.to)
  pub apart : (one other : Finished) (at : ℕ) → Contains all one → Contains all other → IsOfRoom one.worker at
      → IsOfRoom other.worker at → one ≡ other

-- The words after the workers' rooms were put where their words stand, and into the header of each cell that was copied
-- the reference to its copy. Another word of a room that copies may fill may be any; the others are as before.
pub record ArePutBack (own : Own) (all : List Finished) (fixed : Fixed) (words : List ℕ) : Type 0 where
  pub long : length words ≡ length own.words
  pub rooms : (one : Finished) (at : ℕ) → Contains all one → IsOfRoom one.worker at
      → slice_index words at ≡ room_word one.worker at
  pub headers : (home : Home) → Contains (homes_of all) home → slice_index words home.from ≡ bits_of (Ref home.to)
  pub others : (at : ℕ) → (IsInRooms fixed at → ⊥)
      → ((home : Home) → Contains (homes_of all) home → home.from ≢ at)
      → slice_index words at ≡ slice_index own.words at

-- copies in ascending order of their cells
abbrev pub in_order : List Home → List Home
in_order [] = []
in_order (home ∷ homes) = with_home (in_order homes) home

-- a scavenge may go on from there: these words are copying, with the copies of all workers
abbrev pub WorkersAreCopying : Type 0
WorkersAreCopying =
    (own : Own) (recorded cells slots : List ℕ) (rooms : List Room) (all : List Finished) (words : List ℕ)
    → IsLaidOut (fixed_of own cells slots rooms) → MayCopy own (whole_deal recorded) → HaveCopied own recorded all
    → ArePartOf own recorded all (fixed_of own cells slots rooms)
    → ArePutBack own all (fixed_of own cells slots rooms) words
    → Copying (fixed_of own cells slots rooms) words (in_order (homes_of all))
