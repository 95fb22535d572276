-- The heap that a script runs on, as those above it see it.
use Rattle.std.specs.Prelude.{◌≡◌, ℕ, ◌≤◌, Bool, length}
use Rattle.object_graph.specs.Graphs.{Graph}
use Rattle.page_space.specs.Extents.{roots_start}
use Rattle.heap_table.specs.Phases.{Quiet}
use Rattle.write_barrier.specs.MutatorState.{Mutator, MainShows}

-- What the heap has next to the mutator's side: how many places the list of a scavenge has, below which bound addresses
-- of cells can be marked, and whether a cycle of marking is open.
pub record Rest : Type 0 where
  pub places : ℕ
  pub marks : ℕ
  pub in_cycle : Bool

-- the rest, with a cycle open or not
abbrev pub with_cycle : Rest → Bool → Rest
with_cycle rest in_cycle = record rest { in_cycle = in_cycle }

-- The mutator's side, the rest, and whether a full collection came since that was asked last.
pub record HeapState : Type 0 where
  pub main : Mutator
  pub rest : Rest
  pub collected : Bool

-- the heap, where a full collection came or not
abbrev pub with_collected : HeapState → Bool → HeapState
with_collected heap collected = record heap { collected = collected }

-- The mutator's side shows the graph, and each page has a row of free runs; the list of a scavenge has a place for each
-- word of the young generation; and each cell can be marked. Nothing is marked between two lines: a cycle that is open
-- is marked in the pause that ends it.
pub record HeapShows (heap : HeapState) (graph : Graph) : Type 0 where
  pub main : MainShows heap.main graph
  pub quiet : heap.main.seat.phase ≡ Quiet
  pub rows : length heap.main.free ≡ heap.main.seat.space.sizes.pages
  pub listed : heap.main.seat.space.sizes.young ≤ heap.rest.places
  pub marks : heap.rest.marks ≡ roots_start heap.main.seat.space
