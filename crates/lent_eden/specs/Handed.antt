-- What workers of a scavenge hand over to the main side.
use Rattle.std.specs.Prelude.{◌≡◌, ℕ, ◌+◌, ◌≤◌, List, [], ◌∷◌, length, Contains, sum_by, slice_get, Some}
use Rattle.std.specs.List.{flat_map}
use Rattle.object_graph.specs.Graphs.{Graph}
use Rattle.page_space.specs.Extents.{Space}
use Rattle.page_space.specs.RegionLaws.{IsSpace}
use Rattle.nursery.specs.Young.{IsYoung, other_half}
use Rattle.free_runs.specs.FreeRuns.{AreFree}
use Rattle.write_barrier.specs.Seats.{heap_words}
use Rattle.write_barrier.specs.MutatorState.{Mutator, MainShows, heap_of}
use Rattle.scavenger.specs.Starts.{SegmentCopies, segment_from}
use Rattle.scavenger.specs.Handing.{HandsOver}
use Rattle.eden_copies.specs.Together.{Finished, HaveCopied}
use Rattle.handed_rooms.specs.Taken.{CanTakeIn, StaysBeside}
use Rattle.handed_rooms.specs.Laws.{AreTakenIn, workers_of}
use Rattle.lent_eden.specs.Lent.{lent}

-- There is a worker for each helper. Its room begins where the segment of its number begins in the half, may have as
-- many words as that segment, and has no more.
pub record HaveSegments (space : Space) (half : ℕ) (all : List Finished) : Type 0 where
  pub many : length all ≡ space.sizes.helpers
  pub starts : (number : ℕ) (one : Finished) → slice_get all number ≡ Some one
      → one.worker.start ≡ segment_from space half number
  pub most : (one : Finished) → Contains all one → one.worker.most ≡ space.sizes.young
  pub fits : (one : Finished) → Contains all one → length one.worker.room ≤ one.worker.most

-- Workers have run on a heap that shows a graph: each has copied what it was dealt of the slots outside eden, to the
-- segment of its number, in the half where no survivor is.
pub record HaveRun (main : Mutator) (graph : Graph) (all : List Finished) : Type 0 where
  pub limits : IsSpace main.seat.space
  pub shows : MainShows main graph
  pub young : IsYoung main.young
  pub free : AreFree main.free
  pub copied : HaveCopied (lent (heap_of main)) main.recorded.slots all
  pub segments : HaveSegments main.seat.space (other_half main.young.half) all

-- a worker's copies, in the segment of its number
abbrev pub copies_of : ℕ → Finished → SegmentCopies
copies_of number one = record { worker = number; homes = one.worker.copies }

-- so for all of them, numbered from a number on
abbrev pub copies_from : ℕ → List Finished → List SegmentCopies
copies_from number [] = []
copies_from number (one ∷ all) = copies_of number one ∷ copies_from (number + 1) all

-- the copies of all workers, each in the segment of its number
abbrev pub segments_of : List Finished → List SegmentCopies
segments_of all = copies_from 0 all

-- the slots that workers left
abbrev pub left_by : List Finished → List ℕ
left_by all = flat_map (λ one. one.worker.left) all

-- how many words they copied
abbrev pub words_by : List Finished → ℕ
words_by all = sum_by (λ one. length one.worker.room) all

-- each worker that has run may be taken in, also where others were taken in before
abbrev pub WorkersMayBeTakenIn : Type 0
WorkersMayBeTakenIn =
    (main : Mutator) (graph : Graph) (all : List Finished) (now : Mutator) (one : Finished) → HaveRun main graph all
    → StaysBeside main now → Contains all one → CanTakeIn now one.worker

-- where all that have run were taken in, a scavenge may go on from what they hand over
abbrev pub WorkersHandOver : Type 0
WorkersHandOver =
    (main : Mutator) (graph : Graph) (all : List Finished) (now : Mutator) → HaveRun main graph all
    → AreTakenIn (workers_of all) (heap_words main.seat) (heap_words now.seat) → StaysBeside main now
    → HandsOver main (segments_of all) now (left_by all) (words_by all)

-- They copied no more words than the young generation has, and left no more slots than words.
abbrev pub HandedAreFew : Type 0
HandedAreFew =
    (main : Mutator) (graph : Graph) (all : List Finished) (now : Mutator) → HaveRun main graph all
    → AreTakenIn (workers_of all) (heap_words main.seat) (heap_words now.seat) → StaysBeside main now
    → (words_by all ≤ main.seat.space.sizes.young) × (length (left_by all) ≤ words_by all)
