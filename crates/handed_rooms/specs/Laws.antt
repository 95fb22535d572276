-- What the words are once all workers were taken in.
use Rattle.std.specs.Prelude.{◌≡◌, ℕ, ◌+◌, ◌≤◌, ◌⊎◌, List, [], ◌∷◌, map, length, Contains, slice_index}
use Rattle.shared_table.specs.Owned.{Own}
use Rattle.scav_copy.specs.declared.places.Room.{Room}
use Rattle.scav_copy.specs.Places.{IsLaidOut}
use Rattle.scav_copy.specs.Copies.{Copying}
use Rattle.eden_copies.specs.Eden.{MayCopy}
use Rattle.eden_copies.specs.Sides.{WorkerSide}
use Rattle.eden_copies.specs.Together.{Finished, homes_of, whole_deal, HaveCopied}
use Rattle.eden_copies.specs.PutBack.{ArePartOf, fixed_of, in_order}
use Rattle.handed_rooms.specs.Taken.{IsBehindRoom, IsTakenIn}

-- these workers were taken in, one behind another
pub data AreTakenIn : List WorkerSide → List ℕ → List ℕ → Type 0 where
  none : (words : List ℕ) → AreTakenIn [] words words
  next : (worker : WorkerSide) (more : List WorkerSide) (old mid new : List ℕ) → IsTakenIn worker old mid
      → AreTakenIn more mid new → AreTakenIn (worker ∷ more) old new

-- the segments of two workers share no word
abbrev pub AreBeside : WorkerSide → WorkerSide → Type 0
AreBeside one other = (one.start + one.most ≤ other.start) ⊎ (other.start + other.most ≤ one.start)

-- no two of these workers have a segment that shares a word
abbrev pub AreAllBeside : List WorkerSide → Type 0
AreAllBeside [] = Unit {0}
AreAllBeside (worker ∷ more) = ((other : WorkerSide) → Contains more other → AreBeside worker other) × AreAllBeside more

-- Each worker's segment is one of the rooms, and its own room is no longer. No two segments share a word.
pub record StandInSegments (workers : List WorkerSide) (rooms : List Room) : Type 0 where
  pub among : (worker : WorkerSide) → Contains workers worker
      → (room : Room) × Contains rooms room × (room.from ≤ worker.start) × (worker.start + worker.most ≤ room.to)
  pub fits : (worker : WorkerSide) → Contains workers worker → length worker.room ≤ worker.most
  pub beside : AreAllBeside workers

-- the workers of these runs
abbrev pub workers_of : List Finished → List WorkerSide
workers_of all = map (λ one. one.worker) all

-- a scavenge may go on from there: the words are copying, with the copies of all workers
abbrev pub TakenInAreCopying : Type 0
TakenInAreCopying =
    (own : Own) (recorded cells slots : List ℕ) (rooms : List Room) (all : List Finished) (words : List ℕ)
    → IsLaidOut (fixed_of own cells slots rooms) → MayCopy own (whole_deal recorded) → HaveCopied own recorded all
    → ArePartOf own recorded all (fixed_of own cells slots rooms) → StandInSegments (workers_of all) rooms
    → AreTakenIn (workers_of all) own.words words
    → Copying (fixed_of own cells slots rooms) words (in_order (homes_of all))

-- behind the words of each worker's room a 0 stands, where its segment goes on
abbrev pub TakenInEndWith0 : Type 0
TakenInEndWith0 =
    (own : Own) (recorded cells slots : List ℕ) (rooms : List Room) (all : List Finished) (words : List ℕ)
    → IsLaidOut (fixed_of own cells slots rooms) → MayCopy own (whole_deal recorded) → HaveCopied own recorded all
    → ArePartOf own recorded all (fixed_of own cells slots rooms) → StandInSegments (workers_of all) rooms
    → AreTakenIn (workers_of all) own.words words
    → (worker : WorkerSide) (at : ℕ) → Contains (workers_of all) worker → IsBehindRoom worker at
    → slice_index words at ≡ 0
