-- What a scavenge of a heap begins with: which cells may be copied, which slots outside refer to them, and where copies
-- go.
use Rattle.std.specs.Prelude.{◌≡◌, ℕ, ◌+◌, ◌*◌, ◌<◌, ◌≤◌, ◌↔◌, ◌⊎◌, List, [], ◌∷◌, ◌++◌, map, Contains, AllPairs}
use Rattle.std.specs.Prelude.{sum_by}
use Rattle.std.specs.List.{range_with_len}
use Rattle.page_space.specs.Extents.{Space, eden_start, segments_start, half_segments}
use Rattle.cell_layout.specs.Cells.{layouts_in}
use Rattle.free_runs.specs.FreeRuns.{AreFree}
use Rattle.handle_roots.specs.Roots.{root_at}
use Rattle.nursery.specs.Young.{other_half}
use Rattle.heap_model.specs.Types.{Cell, Run}
use Rattle.heap_model.specs.Heaps.{Heap, HasCell}
use Rattle.heap_model.specs.Wholeness.{Whole}
use Rattle.heap_model.specs.Collectable.{IsCollectable, AreFreeRuns}
use Rattle.heap_model.specs.Remembered.{AreRemembered}
use Rattle.write_barrier.specs.MutatorState.{Mutator, heap_of}
use Rattle.scav_copy.specs.declared.places.Home.{Home}
use Rattle.scav_copy.specs.declared.places.Room.{Room}
use Rattle.scav_copy.specs.Places.{Fixed, size_of, offsets_of, IsLaidOut}
use Rattle.scav_copy.specs.Renamings.{RefersToAddress}

-- the home copies in a worker's segment, in the order of their addresses
pub record SegmentCopies : Type 0 where
  pub worker : ℕ
  pub homes : List Home

-- The heap before, the half to which copies go, the slots of pages that are recorded, and the free runs of pages; and
-- the copies that helpers had made in segments of that half when the main side began.
pub record Start : Type 0 where
  pub heap : Heap
  pub half : ℕ
  pub recorded : List ℕ
  pub rows : List (List Run)
  pub handed : List SegmentCopies

-- the workers beside the main side: each helper has a segment of each half
abbrev pub helping_workers : Space → List ℕ
helping_workers space = range_with_len 0 space.sizes.helpers

-- the workers that have a segment to copy to: the helpers, and the main side, which has the last one of each half
abbrev pub copying_workers : Space → List ℕ
copying_workers space = helping_workers space ++ space.sizes.helpers ∷ []

-- a worker's segment with no copy
abbrev pub nothing_of : ℕ → SegmentCopies
nothing_of worker = record { worker = worker; homes = [] }

-- no helper made a copy
abbrev pub nothing_handed : Space → List SegmentCopies
nothing_handed space = map nothing_of (helping_workers space)

-- what a scavenge begins with where helpers handed over these copies
abbrev pub start_with : Mutator → List SegmentCopies → Start
start_with main handed = record {
  heap = heap_of main;
  half = other_half main.young.half;
  recorded = main.recorded.slots;
  rows = main.free;
  handed = handed;
}

-- what a scavenge of the main side alone begins with
abbrev pub start_of : Mutator → Start
start_of main = start_with main (nothing_handed main.seat.space)

-- the first address of a worker's segment of this half
abbrev pub segment_from : Space → ℕ → ℕ → ℕ
segment_from space half worker = segments_start space + space.sizes.young * (half * half_segments space + worker)

-- that segment as a room of copies
abbrev pub segment_room : Space → ℕ → ℕ → Room
segment_room space half worker = record {
  worker = worker;
  from = segment_from space half worker;
  to = segment_from space half worker + space.sizes.young;
}

-- the room is a segment of the half: a helper's, or the main side's
pub record IsSegmentRoom (space : Space) (half : ℕ) (room : Room) : Type 0 where
  pub worker : ℕ
  pub known : worker < half_segments space
  pub is : room ≡ segment_room space half worker

-- the first address of the main side's segment of this half, and that segment as a room
abbrev pub room_start : Space → ℕ → ℕ
room_start space half = segment_from space half space.sizes.helpers

abbrev pub room_of : Space → ℕ → Room
room_of space half = segment_room space half space.sizes.helpers

-- a free run as such a room
abbrev pub room_of_run : Space → Run → Room
room_of_run space run = record { worker = space.sizes.helpers; from = run.at; to = run.at + run.words }

-- the run is one of these rows
pub record IsFreeRun (rows : List (List Run)) (run : Run) : Type 0 where
  pub row : List Run
  pub of_rows : Contains rows row
  pub among : Contains row run

-- a cell of the young generation stands at the address
pub record IsYoungCell (heap : Heap) (at : ℕ) : Type 0 where
  pub cell : Cell
  pub words : List ℕ
  pub has : HasCell heap cell words
  pub stands : cell.at ≡ at
  pub young : eden_start heap.space ≤ at

-- the first root word of a variable stands at the address
pub record IsRootAt (space : Space) (at : ℕ) : Type 0 where
  pub variable : ℕ
  pub known : variable < space.variables
  pub stands : at ≡ root_at space variable

-- The words before are the heap's. The cells are the young ones, the slots the first root words of the variables and
-- the recorded ones, and copies go to segments of this half and to free runs.
pub record Begins (start : Start) (fixed : Fixed) : Type 0 where
  pub before : fixed.before ≡ start.heap.words
  pub layouts : fixed.layouts ≡ layouts_in start.heap.space start.heap.words
  pub cells : (at : ℕ) → Contains fixed.cells at ↔ IsYoungCell start.heap at
  pub slots : (at : ℕ) → Contains fixed.slots at ↔ (IsRootAt start.heap.space at ⊎ Contains start.recorded at)
  pub rooms : (room : Room) → Contains fixed.rooms room
      ↔ (IsSegmentRoom start.heap.space start.half room
      ⊎ ((run : Run) × IsFreeRun start.rows run × (room ≡ room_of_run start.heap.space run)))

-- the word at this place is that of a slot: one of the slots outside, or one that a scavenge visits in one of the cells
abbrev pub IsSlotPlace : Fixed → ℕ → Type 0
IsSlotPlace fixed place =
    Contains fixed.slots place
    ⊎ ((cell : ℕ) × (offset : ℕ) × Contains fixed.cells cell × Contains (offsets_of fixed cell) offset
    × (cell + offset ≡ place))

-- What is known throughout a scavenge of what it began with. No address is named for two things. Each free run is one
-- free cell, and recorded are the slots of pages that refer to young cells. What a slot refers to in the young
-- generation is one of the cells. The cells ascend, and have as many words as survivors and eden's used words together.
pub record IsBegun (start : Start) (fixed : Fixed) : Type 0 where
  pub begins : Begins start fixed
  pub laid : IsLaidOut fixed
  pub whole : Whole start.heap
  pub is_half : start.half ≤ 1
  pub collectable : IsCollectable start.heap start.half
  pub free : AreFreeRuns start.heap start.rows
  pub apart : AreFree start.rows
  pub remembered : AreRemembered start.heap start.recorded
  pub targets : (place at : ℕ) → IsSlotPlace fixed place → RefersToAddress fixed.before place at
      → eden_start start.heap.space ≤ at → Contains fixed.cells at
  pub ascend : AllPairs (λ one other. one < other) fixed.cells
  pub counted : sum_by (size_of fixed) fixed.cells ≡ start.heap.survivors + start.heap.used
