-- What a worker may rely on, whatever event comes.
use Rattle.std.specs.Prelude.{◌≡◌, ◌≢◌, ℕ, ◌+◌, ◌<◌, ◌⊎◌, true, List, length, Contains}
use Rattle.std.specs.Prelude.{slice_index, slice_get, Some, None}
use Rattle.tagged_word.specs.declared.word.Class.TheVariants.{Ref}
use Rattle.tagged_word.specs.Words.{bits_of}
use Rattle.tagged_word.specs.Readings.{reference_in}
use Rattle.scav_copy.specs.declared.places.Home.{Home}
use Rattle.scav_copy.specs.declared.places.Room.{Room}
use Rattle.scav_copy.specs.Places.{size_of, offsets_of, IsInRoom, IsInCopies, StoodAt}
use Rattle.scav_copy.specs.Copies.{LiesInRoom}
use Rattle.scav_core.specs.declared.event.Event.{Event}
use Rattle.scav_core.specs.declared.event.Event.TheVariants.{LoadSlot, LoadHeader, LoadBody, Forward, Redirect}
use Rattle.scav_core.specs.declared.workers.Job.{Job}
use Rattle.scav_core.specs.declared.workers.WorkerView.{WorkerView}
use Rattle.scav_core.specs.declared.world.World.{World}
use Rattle.scav_core.specs.Worlds.{fixed_of}
use Rattle.scav_core.specs.Steps.{worker_of, after}
use Rattle.scav_core.specs.Possible.{is_part, words_wanted, is_possible}
use Rattle.scav_core.specs.Underway.{Underway}

-- a worker that is out, with its view and its job
pub record IsOutAt (world : World) (worker : ℕ) (view : WorkerView) (job : Job) : Type 0 where
  pub stood : slice_get world.workers worker ≡ Some view
  pub is_out : view.out ≡ true
  pub at : view.job ≡ Some job

-- The event is an exchange for this home's address, by a worker that is out. The home is that of the cell of its job,
-- and lies in its room.
pub record IsForwarded (world : World) (event : Event) (home : Home) : Type 0 where
  pub worker : ℕ
  pub exchange : event ≡ Forward worker home.to
  pub view : WorkerView
  pub job : Job
  pub by : IsOutAt world worker view job
  pub cell : home.from ≡ job.cell
  pub room : Room
  pub own : room.worker ≡ worker
  pub lies : LiesInRoom (fixed_of world) room home.to (size_of (fixed_of world) home.from)

-- the reference to a cell became that to its home
abbrev pub IsRedirected : List Home → ℕ → ℕ → Type 0
IsRedirected homes old new =
    (home : Home) × Contains homes home × (old ≡ bits_of (Ref home.from)) × (new ≡ bits_of (Ref home.to))

-- Homes stay, and a new one is made by a worker in a room of its own, for the cell of its job. Live slots stay, and a
-- word there changes from the reference to a cell to that to its home alone. Forwarding words stay, and so do the words
-- of home copies but for their slots. Other words of a room change by its worker alone, and so does each view.
pub record StaysFor (old new : World) (event : Event) : Type 0 where
  pub homes_stay : (home : Home) → Contains old.homes home → Contains new.homes home
  pub new_homes : (home : Home) → Contains new.homes home → Contains old.homes home ⊎ IsForwarded old event home
  pub live_stay : (slot place : ℕ) → StoodAt (fixed_of old) old.homes slot place
      → StoodAt (fixed_of old) new.homes slot place
  pub live_words : (slot place : ℕ) → StoodAt (fixed_of old) old.homes slot place
      → (slice_index new.words slot ≡ slice_index old.words slot)
      ⊎ IsRedirected old.homes (slice_index old.words slot) (slice_index new.words slot)
  pub forwarded_stay : (home : Home) → Contains old.homes home
      → slice_index new.words home.from ≡ slice_index old.words home.from
  pub copies_stay : (home : Home) (offset : ℕ) → Contains old.homes home → offset < size_of (fixed_of old) home.from
      → (Contains (offsets_of (fixed_of old) home.from) offset → ⊥)
      → slice_index new.words (home.to + offset) ≡ slice_index old.words (home.to + offset)
  pub rooms_stay : (room : Room) (at : ℕ) → Contains old.rooms room → IsInRoom room at
      → (IsInCopies (fixed_of old) old.homes at → ⊥) → worker_of event ≢ Some room.worker
      → slice_index new.words at ≡ slice_index old.words at
  pub views_stay : (worker : ℕ) → worker < length old.workers → worker_of event ≢ Some worker
      → slice_get new.workers worker ≡ slice_get old.workers worker

-- so it is of each event that is possible
abbrev pub EventsStayFor : Type 0
EventsStayFor =
    (world : World) (event : Event) → Underway world → is_possible world event ≡ true
    → StaysFor world (after world event) event

-- a worker that has a job with no header may read the header
abbrev pub HeadersMayBeLoaded : Type 0
HeadersMayBeLoaded =
    (world : World) (worker : ℕ) (view : WorkerView) (job : Job) → Underway world → IsOutAt world worker view job
    → job.header ≡ None → is_possible world (LoadHeader worker) ≡ true

-- where its header and the words read name more words, it may read the next
abbrev pub BodiesMayBeLoaded : Type 0
BodiesMayBeLoaded =
    (world : World) (worker : ℕ) (view : WorkerView) (job : Job) (header : ℕ) → Underway world
    → IsOutAt world worker view job → job.header ≡ Some header
    → is_part (words_wanted world.layouts header job.body) (1 + length job.body) ≡ true
    → is_possible world (LoadBody worker) ≡ true

-- where its header is a reference, it may store that in its slot
abbrev pub SlotsMayBeRedirected : Type 0
SlotsMayBeRedirected =
    (world : World) (worker : ℕ) (view : WorkerView) (job : Job) (header address : ℕ) → Underway world
    → IsOutAt world worker view job → job.header ≡ Some header → reference_in header ≡ Some address
    → is_possible world (Redirect worker) ≡ true

-- What a worker with no job has to do are home copies, and it may read each slot of them.
abbrev pub TodoMayBeLoaded : Type 0
TodoMayBeLoaded =
    (world : World) (worker : ℕ) (view : WorkerView) (at : ℕ) → Underway world
    → slice_get world.workers worker ≡ Some view → view.out ≡ true → view.job ≡ None → Contains view.todo at
    → (home : Home) × Contains world.homes home × (home.to ≡ at)
    × ((offset : ℕ) → Contains (offsets_of (fixed_of world) home.from) offset
    → is_possible world (LoadSlot worker (at + offset)) ≡ true)
