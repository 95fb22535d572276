-- What holds after every list of events.
use Rattle.std.specs.Prelude.{◌≡◌, ℕ, ◌+◌, ◌<◌, true, List, Contains, slice_index}
use Rattle.core_parts.specs.Boards.{IsBoard}
use Rattle.scav_copy.specs.declared.places.Home.{Home}
use Rattle.scav_copy.specs.Places.{size_of, offsets_of, StoodAt}
use Rattle.scav_copy.specs.Renamings.{RefersToAddress, IsReachable, HasOneHomeEach, Renaming, Outside}
use Rattle.scav_copy.specs.Copies.{HasHeader, IsKeptOrRenamed, AreHoused, HomesDisjoint, Copying}
use Rattle.scav_core.specs.declared.workers.WorkerView.{WorkerView}
use Rattle.scav_core.specs.declared.event.Event.{Event}
use Rattle.scav_core.specs.declared.world.World.{World}
use Rattle.scav_core.specs.Worlds.{fixed_of, IsFresh}
use Rattle.scav_core.specs.Steps.{after}
use Rattle.scav_core.specs.Possible.{is_possible}
use Rattle.scav_core.specs.Runs.{ArePossible, after_all}
use Rattle.scav_core.specs.Underway.{IsShared, IsLogged, Underway}

-- a fresh world is underway
abbrev pub FreshIsUnderway : Type 0
FreshIsUnderway = (world : World) → IsFresh world → Underway world

-- a world that is underway is so after each event that is possible
abbrev pub EventsKeepUnderway : Type 0
EventsKeepUnderway =
    (world : World) (event : Event) → Underway world → is_possible world event ≡ true → Underway (after world event)

-- and after each list of such events
abbrev pub ListsKeepUnderway : Type 0
ListsKeepUnderway =
    (world : World) (events : List Event) → Underway world → ArePossible world events
    → Underway (after_all world events)

-- no event changes what is fixed
abbrev pub FixedStays : Type 0
FixedStays = (world : World) (event : Event) → fixed_of (after world event) ≡ fixed_of world

-- No cell has two homes; the header of each cell is the reference to its home, or where it has none, the word of
-- before.
pub record HasHeaders (start world : World) : Type 0 where
  pub one_each : HasOneHomeEach world.homes
  pub each : (cell : ℕ) → Contains start.cells cell → HasHeader (fixed_of start) world.words world.homes cell

-- Each home copy is that of a cell that was reached. It lies in one room, and shares no word with another. It is the
-- cell, with its slots as before or renamed.
pub record HasCopies (start world : World) : Type 0 where
  pub reached : (home : Home) → Contains world.homes home → IsReachable (fixed_of start) home.from
  pub housed : AreHoused (fixed_of start) world.homes
  pub apart : HomesDisjoint (fixed_of start) world.homes
  pub words : (home : Home) (offset : ℕ) → Contains world.homes home → offset < size_of (fixed_of start) home.from
      → (Contains (offsets_of (fixed_of start) home.from) offset → ⊥)
      → slice_index world.words (home.to + offset) ≡ slice_index start.before (home.from + offset)
  pub slots : (home : Home) (offset : ℕ) → Contains world.homes home
      → Contains (offsets_of (fixed_of start) home.from) offset
      → IsKeptOrRenamed world.homes (slice_index start.before (home.from + offset))
      (slice_index world.words (home.to + offset))

-- The words and homes are copying: beside all of this, what stands behind the headers of the cells is as before, and
-- each slot is as before or renamed.
abbrev pub IsCopying : World → World → Type 0
IsCopying start world = Copying (fixed_of start) world.words world.homes

-- every word is as before that is no word of cells, no slot and in no room
abbrev pub IsUntouched : World → World → Type 0
IsUntouched start world = Outside (fixed_of start) world.words

-- Each word of the board is 0 or a reference; what is to be done and the board together hold each home copy just once,
-- and nothing else.
pub record HasWork (world : World) : Type 0 where
  pub board : IsBoard world.board
  pub once : IsShared world.workers world.board world.homes

-- Each slot that a log says was read is live, and refers to none of the cells, unless its worker is at it.
abbrev pub HasLogs : World → World → Type 0
HasLogs start world =
    (view : WorkerView) → Contains world.workers view → IsLogged (fixed_of start) world.words world.homes view

-- no live slot refers to one of the cells
abbrev pub IsDone : World → World → Type 0
IsDone start world =
    (slot place cell : ℕ) → StoodAt (fixed_of start) world.homes slot place → RefersToAddress world.words slot cell
    → Contains start.cells cell → ⊥

-- where no live slot refers to one of the cells, all that was reached was copied and renamed
abbrev pub IsRenamedWhenDone : World → World → Type 0
IsRenamedWhenDone start world = IsDone start world → Renaming (fixed_of start) world.words world.homes

-- what is to be seen of a world, where no event changed what the start fixed
pub record HasFacts (start world : World) : Type 0 where
  pub headers : HasHeaders start world
  pub copies : HasCopies start world
  pub copying : IsCopying start world
  pub outside : IsUntouched start world
  pub work : HasWork world
  pub logs : HasLogs start world
  pub renamed : IsRenamedWhenDone start world

-- so it is in each world that is underway
abbrev pub UnderwayHasFacts : Type 0
UnderwayHasFacts = (world : World) → Underway world → HasFacts world world
