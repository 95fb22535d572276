-- What the main side makes of what a worker copied.
use Rattle.std.specs.Prelude.{◌≡◌, ◌≢◌, ℕ, ◌+◌, ◌<◌, ◌≤◌, List, length, Contains, slice_get, slice_index, Some}
use Rattle.tagged_word.specs.declared.word.Class.TheVariants.{Ref}
use Rattle.tagged_word.specs.Words.{bits_of}
use Rattle.page_space.specs.Extents.{marks_start}
use Rattle.write_barrier.specs.Seats.{RestStays}
use Rattle.write_barrier.specs.MutatorState.{Mutator}
use Rattle.scav_copy.specs.declared.places.Home.{Home}
use Rattle.eden_copies.specs.Sides.{WorkerSide, end_of, room_word}
use Rattle.eden_copies.specs.Copied.{AreOfOneEach}
use Rattle.eden_copies.specs.PutBack.{IsOfRoom}

-- of all that the mutator has only words are others
pub record StaysBeside (old new : Mutator) : Type 0 where
  pub seat : RestStays old.seat new.seat
  pub paths : new.paths ≡ old.paths
  pub young : new.young ≡ old.young
  pub free : new.free ≡ old.free
  pub recorded : new.recorded ≡ old.recorded
  pub cycle : new.cycle ≡ old.cycle

-- The first words of a room, so many, stand from an address on, and the others are as before.
pub record HasRoom (start : ℕ) (room : List ℕ) (count : ℕ) (old new : List ℕ) : Type 0 where
  pub long : length new ≡ length old
  pub put : (offset : ℕ) → offset < count → slice_index new (start + offset) ≡ slice_index room offset
  pub others : (at : ℕ) → ((start ≤ at) × (at < start + count) → ⊥) → slice_index new at ≡ slice_index old at

-- A 0 stands at the address, where that is before the end, and the others are as before.
pub record EndsRoom (at end : ℕ) (old new : List ℕ) : Type 0 where
  pub long : length new ≡ length old
  pub put : at < end → slice_index new at ≡ 0
  pub others : (other : ℕ) → ((other ≡ at) × (at < end) → ⊥) → slice_index new other ≡ slice_index old other

-- The headers of the first cells that were copied, so many, refer to the copies, and the others are as before.
pub record HasRefs (copies : List Home) (count : ℕ) (old new : List ℕ) : Type 0 where
  pub long : length new ≡ length old
  pub put : (number : ℕ) (home : Home) → number < count → slice_get copies number ≡ Some home
      → slice_index new home.from ≡ bits_of (Ref home.to)
  pub others : (at : ℕ)
      → ((number : ℕ) (home : Home) → number < count → slice_get copies number ≡ Some home → home.from ≢ at)
      → slice_index new at ≡ slice_index old at

-- the cells that were copied stand from an address on, before another
abbrev pub StandBetween : ℕ → ℕ → List Home → Type 0
StandBetween from to copies = (home : Home) → Contains copies home → (from ≤ home.from) × (home.from < to)

-- A worker may be taken in: its room lies behind all pages, and the segment that it is in before the marks; the cells
-- that it copied, of one copy each, stand between pages and room.
pub record CanTakeIn (main : Mutator) (worker : WorkerSide) : Type 0 where
  pub behind : main.recorded.bound ≤ worker.start
  pub within : worker.start + worker.most ≤ marks_start main.seat.space
  pub fits : length worker.room ≤ worker.most
  pub cells : StandBetween main.recorded.bound worker.start worker.copies
  pub one_each : AreOfOneEach worker.copies

-- the address is the one behind the words of the room, where its segment goes on
pub record IsBehindRoom (worker : WorkerSide) (at : ℕ) : Type 0 where
  pub is : at ≡ end_of worker
  pub more : length worker.room < worker.most

-- A worker was taken in. Its words stand where they stand for, with a 0 behind them where its segment goes on, and the
-- header of each cell that it copied is the reference to the copy. No other word changed.
pub record IsTakenIn (worker : WorkerSide) (old new : List ℕ) : Type 0 where
  pub long : length new ≡ length old
  pub room : (at : ℕ) → IsOfRoom worker at → slice_index new at ≡ room_word worker at
  pub ends : (at : ℕ) → IsBehindRoom worker at → slice_index new at ≡ 0
  pub headers : (home : Home) → Contains worker.copies home → slice_index new home.from ≡ bits_of (Ref home.to)
  pub others : (at : ℕ) → (IsOfRoom worker at → ⊥) → (IsBehindRoom worker at → ⊥)
      → ((home : Home) → Contains worker.copies home → home.from ≢ at)
      → slice_index new at ≡ slice_index old at
