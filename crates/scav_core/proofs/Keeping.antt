-- What an event leaves of the views of workers, once it keeps the words and homes in order.
use Rattle.std.proofs.Common.{ℕ, ◌<◌, ◌+◌, ◌≡◌, ◌≢◌, ◌⊎◌, inl, inr, true, List, [], ◌∷◌}
use Rattle.std.proofs.Common.{◌++◌, length, get_or, set}
use Rattle.std.proofs.Common.{slice_get, Option, Some, None, arith, sym, ap, subst, ◌∙◌}
use Rattle.std.specs.List.{Contains}
use Rattle.std.proofs.lemmas.List.{length-set, get_or-set_other, get_or-set_same}
use Rattle.std.proofs.lemmas.List.Elements.{Contains-push_cases}
use Rattle.std.proofs.lemmas.Option.{slice_get_within, get_or_from_slice_get}
use Rattle.core_parts.specs.declared.note.Note.{Note}
use Rattle.core_parts.specs.declared.note.Note.TheVariants.{Loaded}
use Rattle.core_parts.specs.Boards.{IsBoard}
use Rattle.scav_copy.specs.declared.places.Home.{Home}
use Rattle.scav_copy.specs.declared.places.Room.{Room}
use Rattle.scav_copy.specs.Places.{Fixed, size_of, IsInRoom, IsInCopies, StoodAt}
use Rattle.scav_copy.specs.Renamings.{RefersToAddress}
use Rattle.scav_copy.specs.Copies.{with_home, HasNoHome, LiesInRoom, Copying}
use Rattle.tagged_word.specs.declared.word.Class.TheVariants.{Ref}
use Rattle.tagged_word.specs.Words.{bits_of}
use Rattle.scav_copy.proofs.Redirecting.{equal_or_not}
use Rattle.scav_core.specs.declared.workers.Job.{Job}
use Rattle.scav_core.specs.declared.workers.WorkerView.{WorkerView}
use Rattle.scav_core.specs.declared.world.World.{World}
use Rattle.scav_core.specs.Worlds.{fixed_of}
use Rattle.scav_core.specs.Underway.{times, todo_times, board_times, home_times, IsShared, IsQuiet, IsAt, IsRead}
use Rattle.scav_core.specs.Underway.{HasReadCell, HasJob, IsLogged, Underway}
use Rattle.scav_core.proofs.Counting.{todo_set}

-- The homes stay, and so do live slots; those that refer to none of the cells still do not.
pub record Stays (fixed : Fixed) (words others : List ℕ) (homes more : List Home) : Type 0 where
  pub homes_stay : (home : Home) → Contains homes home → Contains more home
  pub live : (slot place : ℕ) → StoodAt fixed homes slot place → StoodAt fixed more slot place
  pub quiet : (slot place : ℕ) → StoodAt fixed homes slot place → IsQuiet fixed words slot → IsQuiet fixed others slot

-- nothing has changed
pub nothing_changes : (fixed : Fixed) (words : List ℕ) (homes : List Home) → Stays fixed words words homes homes
nothing_changes fixed words homes = record {
  homes_stay = λ home there. there;
  live = λ slot place stood. stood;
  quiet = λ slot place stood quiet. quiet;
}

-- a slot that was done is done
still_done : {fixed : Fixed} {words others : List ℕ} {homes more : List Home} (job : Option Job) (slot place : ℕ)
    → Stays fixed words others homes more → StoodAt fixed homes slot place → IsAt job slot ⊎ IsQuiet fixed words slot
    → IsAt job slot ⊎ IsQuiet fixed others slot
still_done job slot place stays stood (inl at) = inl at
still_done job slot place stays stood (inr quiet) = inr (stays.quiet slot place stood quiet)

-- a slot that was read is still as it must be
pub still_read : {fixed : Fixed} {words others : List ℕ} {homes more : List Home} {job : Option Job} {slot : ℕ}
    → Stays fixed words others homes more → IsRead fixed words homes job slot → IsRead fixed others more job slot
still_read {job = job} {slot} stays read = record {
  place = read.place;
  stood = stays.live slot read.place read.stood;
  done = still_done job slot read.place stays read.stood read.done;
}

-- what was read of a cell is still right
still_cell : {fixed : Fixed} {words others : List ℕ} {homes more : List Home} {job : Job}
    → Stays fixed words others homes more → HasReadCell fixed homes job → HasReadCell fixed more job
still_cell stays (HasReadCell.nothing none empty) = HasReadCell.nothing none empty
still_cell stays (HasReadCell.some header within same) = HasReadCell.some header within same
still_cell stays (HasReadCell.forwarded home there of is) =
    HasReadCell.forwarded home (stays.homes_stay home there) of is

-- a job is still one
pub still_job : {fixed : Fixed} {words others : List ℕ} {homes more : List Home} (job : Option Job)
    → Stays fixed words others homes more → HasJob fixed homes job → HasJob fixed more job
still_job None stays has = tt
still_job (Some job) stays is = record {
  place = is.place;
  stood = stays.live job.slot is.place is.stood;
  referred = is.referred;
  among = is.among;
  read = still_cell stays is.read;
}

-- a list with one element in the place of another has no others
in_set_at : {X : Type 0} (xs : List X) (i k : ℕ) (new x : X) → i < length xs → k < length xs
    → get_or (set xs i new) k x ≡ x
    → (k ≡ i) ⊎ (k ≢ i) → (new ≡ x) ⊎ Contains xs x
in_set_at xs i k new x there within e (inl same) =
    inl (sym (get_or-set_same xs i new x there) ∙ ap (λ (j : ℕ). get_or (set xs i new) j x) (sym same) ∙ e)
in_set_at xs i k new x there within e (inr other) = inr (k, within, sym (get_or-set_other xs i k new x other) ∙ e)

-- so it is wherever the element stands
pub in_set : {X : Type 0} (xs : List X) (i : ℕ) (new x : X) → i < length xs → Contains (set xs i new) x
    → (new ≡ x) ⊎ Contains xs x
in_set xs i new x there (k, l, e) =
    let within : k < length xs = omega (arith, l, length-set xs i new) in
    in_set_at xs i k new x there within e (equal_or_not k i)

-- a view that is there is one of the views
pub view_in : (workers : List WorkerView) (worker : ℕ) (view : WorkerView) → slice_get workers worker ≡ Some view
    → Contains workers view
view_in workers worker view e =
    (worker, slice_get_within workers worker view e, get_or_from_slice_get workers worker view view e)

-- the world with these words, homes and board, and this view in the place of one
abbrev pub changed : World → List ℕ → List Home → List ℕ → ℕ → WorkerView → World
changed world words homes board worker view =
    record world { words = words; homes = homes; board = board; workers = set world.workers worker view }

-- What an event of a worker makes of words and homes: nothing; a word of an own room that is in no home copy; the
-- header of a cell without home, which gets one in an own room; or a live slot, which gets the home of the cell that it
-- referred to.
pub data IsChange (world : World) (words : List ℕ) (homes : List Home) (worker : ℕ) : Type 0 where
  unchanged : words ≡ world.words → homes ≡ world.homes → IsChange world words homes worker
  storing : (at word : ℕ) (room : Room) → words ≡ set world.words at word → homes ≡ world.homes
      → Contains world.rooms room
      → room.worker ≡ worker → IsInRoom room at → (IsInCopies (fixed_of world) world.homes at → ⊥)
      → IsChange world words homes worker
  moving : (home : Home) (room : Room) → words ≡ set world.words home.from (bits_of (Ref home.to))
      → homes ≡ with_home world.homes home → Contains world.cells home.from → HasNoHome world.homes home.from
      → room.worker ≡ worker → LiesInRoom (fixed_of world) room home.to (size_of (fixed_of world) home.from)
      → IsChange world words homes worker
  renaming : (slot place : ℕ) (home : Home) → words ≡ set world.words slot (bits_of (Ref home.to)) → homes ≡ world.homes
      → StoodAt (fixed_of world) world.homes slot place → RefersToAddress world.before place home.from
      → Contains world.homes home → IsChange world words homes worker

-- what an event owes
pub record Keeps (world : World) (words : List ℕ) (homes : List Home) (board : List ℕ) (worker : ℕ)
    (old new : WorkerView)
    : Type 0 where
  pub stood : slice_get world.workers worker ≡ Some old
  pub change : IsChange world words homes worker
  pub copying : Copying (fixed_of world) words homes
  pub board_is : IsBoard board
  pub work : IsShared (set world.workers worker new) board homes
  pub stays : Stays (fixed_of world) world.words words world.homes homes
  pub logs : IsLogged (fixed_of world) words homes new
  pub jobs : new.out ≡ true → HasJob (fixed_of world) homes new.job

-- a world stays underway in an event that pays it
pub kept : {world : World} {words : List ℕ} {homes : List Home} {board : List ℕ} {worker : ℕ} {old new : WorkerView}
    → Underway world → Keeps world words homes board worker old new
    → Underway (changed world words homes board worker new)
kept {world} {words} {homes} {board} {worker} {old} {new} underway keeps =
    let within : worker < length world.workers = slice_get_within world.workers worker old keeps.stood in
    record {
      laid = underway.laid;
      copying = keeps.copying;
      board = keeps.board_is;
      work = keeps.work;
      logs = λ view there. elim (in_set world.workers worker new view within there) [
        | inl same ↦ subst (IsLogged (fixed_of world) words homes) same keeps.logs
        | inr other ↦ λ slot loaded. still_read keeps.stays (underway.logs view other slot loaded)
      ];
      jobs = λ view there. elim (in_set world.workers worker new view within there) [
        | inl same ↦ subst (λ (v : WorkerView). v.out ≡ true → HasJob (fixed_of world) homes v.job) same keeps.jobs
        | inr other ↦ λ out. still_job view.job keeps.stays (underway.jobs view other out)
      ];
    }

-- a note that was put behind is the last, and the others were there
pub loaded_before : (log : List Note) (note : Note) (slot : ℕ) → (note ≡ Loaded slot → ⊥)
    → Contains (log ++ note ∷ []) (Loaded slot) → Contains log (Loaded slot)
loaded_before log note slot other there =
    elim (Contains-push_cases log note (Loaded slot) there) [ inl before ↦ before | inr same ↦ absurd (other same) ]

-- where a worker has the same to do, all have
pub same_work : (world : World) (worker : ℕ) (old new : WorkerView) → slice_get world.workers worker ≡ Some old
    → new.todo ≡ old.todo → IsShared world.workers world.board world.homes
    → IsShared (set world.workers worker new) world.board world.homes
same_work world worker old new e same shared a =
    let all : todo_times a (set world.workers worker new) + times a old.todo
    ≡ todo_times a world.workers + times a new.todo =
    todo_set a world.workers worker old new e in
    let equal : times a new.todo ≡ times a old.todo = ap (times a) same in
    let before : todo_times a world.workers + board_times a world.board ≡ home_times a world.homes = shared a in
    omega (arith, all, equal, before)
