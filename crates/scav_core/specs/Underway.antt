-- What holds of a scavenge between two events: no copy is lost, doubled or torn, and each has its slots to be done
-- once.
use Rattle.std.specs.Prelude.{◌≡◌, ℕ, ◌+◌, ◌<◌, ◌≤◌, ◌==◌, ◌⊎◌, Bool, true, false, List, []}
use Rattle.std.specs.Prelude.{length, Contains, slice_index}
use Rattle.std.specs.Prelude.{Option, Some, None}
use Rattle.std.specs.List.{sum_by, count_by}
use Rattle.tagged_word.specs.declared.word.Class.TheVariants.{Ref}
use Rattle.tagged_word.specs.Words.{bits_of}
use Rattle.tagged_word.specs.Readings.{reference_in}
use Rattle.core_parts.specs.declared.note.Note.TheVariants.{Loaded}
use Rattle.core_parts.specs.Boards.{IsBoard}
use Rattle.scav_copy.specs.declared.places.Home.{Home}
use Rattle.scav_copy.specs.Places.{Fixed, size_of, IsLaidOut, StoodAt}
use Rattle.scav_copy.specs.Renamings.{RefersToAddress}
use Rattle.scav_copy.specs.Copies.{Copying}
use Rattle.scav_core.specs.declared.workers.Job.{Job}
use Rattle.scav_core.specs.declared.workers.WorkerView.{WorkerView}
use Rattle.scav_core.specs.declared.world.World.{World}
use Rattle.scav_core.specs.Worlds.{fixed_of}

-- how often an address stands in a list
abbrev pub times : ℕ → List ℕ → ℕ
times address list = count_by (λ x. x == address) list

-- how often it stands in the lists of what workers have to do, those that ended among them
abbrev pub todo_times : ℕ → List WorkerView → ℕ
todo_times address workers = sum_by (λ view. times address view.todo) workers

-- whether this is the address, if there is one
abbrev pub is_address : ℕ → Option ℕ → Bool
is_address address None = false
is_address address (Some other) = other == address

-- how many words of the board refer to it
abbrev pub board_times : ℕ → List ℕ → ℕ
board_times address board = count_by (λ word. is_address address (reference_in word)) board

-- how many home copies stand there
abbrev pub home_times : ℕ → List Home → ℕ
home_times address homes = count_by (λ home. home.to == address) homes

-- What is to be done and the board together hold each home copy just once, and nothing else: no two stand at one
-- address.
abbrev pub IsShared : List WorkerView → List ℕ → List Home → Type 0
IsShared workers board homes =
    (address : ℕ) → todo_times address workers + board_times address board ≡ home_times address homes

-- the word refers to none of the cells
abbrev pub IsQuiet : Fixed → List ℕ → ℕ → Type 0
IsQuiet fixed words slot = (cell : ℕ) → RefersToAddress words slot cell → Contains fixed.cells cell → ⊥

-- the worker is at the slot
abbrev pub IsAt : Option Job → ℕ → Type 0
IsAt None slot = ⊥
IsAt (Some job) slot = job.slot ≡ slot

-- A slot that was read is live, and refers to none of the cells, unless the worker is at it.
pub record IsRead (fixed : Fixed) (words : List ℕ) (homes : List Home) (job : Option Job) (slot : ℕ) : Type 0 where
  pub place : ℕ
  pub stood : StoodAt fixed homes slot place
  pub done : IsAt job slot ⊎ IsQuiet fixed words slot

-- What a job has read of its cell: nothing; its header and first words, as before; or, for a header, the reference to
-- its home.
pub data HasReadCell (fixed : Fixed) (homes : List Home) (job : Job) : Type 0 where
  nothing : job.header ≡ None → job.body ≡ [] → HasReadCell fixed homes job
  some : job.header ≡ Some (slice_index fixed.before job.cell) → 1 + length job.body ≤ size_of fixed job.cell
      → ((offset : ℕ) → offset < length job.body
      → slice_index job.body offset ≡ slice_index fixed.before (job.cell + 1 + offset)) → HasReadCell fixed homes job
  forwarded : (home : Home) → Contains homes home → home.from ≡ job.cell → job.header ≡ Some (bits_of (Ref home.to))
      → HasReadCell fixed homes job

-- The slot of a job is live, and referred to its cell before, which is one of those to be copied.
pub record IsJob (fixed : Fixed) (homes : List Home) (job : Job) : Type 0 where
  pub place : ℕ
  pub stood : StoodAt fixed homes job.slot place
  pub referred : RefersToAddress fixed.before place job.cell
  pub among : Contains fixed.cells job.cell
  pub read : HasReadCell fixed homes job

-- where there is a job, it is one
abbrev pub HasJob : Fixed → List Home → Option Job → Type 0
HasJob fixed homes None = Unit {0}
HasJob fixed homes (Some job) = IsJob fixed homes job

-- each slot that a view's log says was read
abbrev pub IsLogged : Fixed → List ℕ → List Home → WorkerView → Type 0
IsLogged fixed words homes view =
    (slot : ℕ) → Contains view.log (Loaded slot) → IsRead fixed words homes view.job slot

-- A scavenge between two events.
pub record Underway (world : World) : Type 0 where
  pub laid : IsLaidOut (fixed_of world)
  pub copying : Copying (fixed_of world) world.words world.homes
  pub board : IsBoard world.board
  pub work : IsShared world.workers world.board world.homes
  pub logs : (view : WorkerView) → Contains world.workers view
      → IsLogged (fixed_of world) world.words world.homes view
  pub jobs : (view : WorkerView) → Contains world.workers view → view.out ≡ true
      → HasJob (fixed_of world) world.homes view.job
