-- What a worker knows to be possible by its own view, the rooms, and the homes that it made.
use Rattle.std.specs.Prelude.{◌≡◌, ℕ, ◌+◌, ◌≤◌, ◌⊎◌, true, length, Contains, slice_get, Some, None, IsSome}
use Rattle.tagged_word.specs.Readings.{reference_in}
use Rattle.scav_copy.specs.declared.places.Home.{Home}
use Rattle.scav_copy.specs.declared.places.Room.{Room}
use Rattle.scav_copy.specs.Places.{size_of, IsInRoom, IsInCopy}
use Rattle.scav_copy.specs.Copies.{LiesInRoom}
use Rattle.scav_core.specs.declared.event.Event.{Event}
use Rattle.scav_core.specs.declared.event.Event.TheVariants.{LoadSlot, CopyWord, Forward}
use Rattle.scav_core.specs.declared.workers.Job.{Job}
use Rattle.scav_core.specs.declared.workers.WorkerView.{WorkerView}
use Rattle.scav_core.specs.declared.world.World.{World}
use Rattle.scav_core.specs.Worlds.{fixed_of}
use Rattle.scav_core.specs.Steps.{worker_of, after}
use Rattle.scav_core.specs.Possible.{is_disjoint, words_wanted, is_whole, stands_at, is_possible}
use Rattle.scav_core.specs.Underway.{Underway}
use Rattle.scav_core.specs.WorkerGuarantees.{IsOutAt, IsForwarded}

-- the home lies in a room of the worker's
pub record IsOwnHome (world : World) (worker : ℕ) (home : Home) : Type 0 where
  pub among : Contains world.homes home
  pub room : Room
  pub own : room.worker ≡ worker
  pub lies : LiesInRoom (fixed_of world) room home.to (size_of (fixed_of world) home.from)

-- a worker with no job may read each of `slots`
abbrev pub OfferedMayBeLoaded : Type 0
OfferedMayBeLoaded =
    (world : World) (worker : ℕ) (view : WorkerView) (slot : ℕ) → Underway world
    → slice_get world.workers worker ≡ Some view → view.out ≡ true → view.job ≡ None → Contains world.slots slot
    → is_possible world (LoadSlot worker slot) ≡ true

-- a worker may store in its rooms, beside its own homes
abbrev pub WordsMayBeStored : Type 0
WordsMayBeStored =
    (world : World) (worker : ℕ) (view : WorkerView) (room : Room) (at word : ℕ) → Underway world
    → slice_get world.workers worker ≡ Some view → view.out ≡ true → Contains world.rooms room
    → room.worker ≡ worker → IsInRoom room at
    → ((home : Home) → IsOwnHome world worker home → IsInCopy (fixed_of world) home at → ⊥)
    → is_possible world (CopyWord worker at word) ≡ true

-- where the whole cell of its job stands in one of its rooms, beside its own homes, it may exchange the header for the
-- reference to that copy
abbrev pub CellsMayBeForwarded : Type 0
CellsMayBeForwarded =
    (world : World) (worker : ℕ) (view : WorkerView) (job : Job) (header : ℕ) (room : Room) (to : ℕ)
    → Underway world → IsOutAt world worker view job → job.header ≡ Some header
    → is_whole (words_wanted world.layouts header job.body) (1 + length job.body) ≡ true → room.worker ≡ worker
    → LiesInRoom (fixed_of world) room to (1 + length job.body) → stands_at world.words to header job.body ≡ true
    → ((home : Home) → IsOwnHome world worker home
    → is_disjoint (fixed_of world) to (1 + length job.body) home ≡ true)
    → is_possible world (Forward worker to) ≡ true

-- a worker has a home more only by its own exchange
abbrev pub OwnHomesStay : Type 0
OwnHomesStay =
    (world : World) (event : Event) (worker : ℕ) (home : Home) → Underway world → is_possible world event ≡ true
    → IsOwnHome (after world event) worker home
    → IsOwnHome world worker home ⊎ (IsForwarded world event home × (worker_of event ≡ Some worker))

-- the header that a job has read, with the words behind it, names so many words, and no fewer are wanted than were read
pub record IsOfSize (world : World) (job : Job) (header : ℕ) : Type 0 where
  pub wanted : ℕ
  pub names : words_wanted world.layouts header job.body ≡ Some wanted
  pub within : 1 + length job.body ≤ wanted

-- The header that a job has read is a reference, or it names a size and what was read is a part of the cell or all of
-- it.
abbrev pub JobsGoOn : Type 0
JobsGoOn =
    (world : World) (worker : ℕ) (view : WorkerView) (job : Job) (header : ℕ) → Underway world
    → IsOutAt world worker view job → job.header ≡ Some header
    → IsSome (reference_in header) ⊎ IsOfSize world job header

-- where just so many words are wanted as were read, the cell has so many
abbrev pub WholeHasSize : Type 0
WholeHasSize =
    (world : World) (worker : ℕ) (view : WorkerView) (job : Job) (header : ℕ) → Underway world
    → IsOutAt world worker view job → job.header ≡ Some header
    → is_whole (words_wanted world.layouts header job.body) (1 + length job.body) ≡ true
    → 1 + length job.body ≡ size_of (fixed_of world) job.cell
