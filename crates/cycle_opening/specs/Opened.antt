-- How a cycle of marking opens on a heap that shows a graph, and what it makes of the mutator.
use Rattle.std.specs.Prelude.{◌≡◌, ◌<◌, ℕ, List, length, Contains}
use Rattle.page_space.specs.Extents.{eden_start}
use Rattle.handle_roots.specs.declared.held.Held.TheVariants.{Ref}
use Rattle.handle_roots.specs.Roots.{Holds}
use Rattle.object_graph.specs.Graphs.{Graph}
use Rattle.heap_model.specs.Types.{Path}
use Rattle.heap_model.specs.Heaps.{Heap}
use Rattle.heap_model.specs.Showing.{Shows}
use Rattle.mark_world.specs.Cycles.{Cycle}
use Rattle.mark_world.specs.Soundness.{AreIn}
use Rattle.cycle_laws.specs.Openings.{Opens}
use Rattle.shared_table.specs.declared.overview.Overview.{Overview}
use Rattle.shared_table.specs.Owned.{Own}
use Rattle.heap_table.specs.Phases.{Mark}
use Rattle.write_barrier.specs.Cycles.{in_cycle}
use Rattle.write_barrier.specs.MutatorState.{Mutator, MainShows, heap_of}
use Rattle.write_barrier.specs.Seats.{heap_words}

-- the heap that stands in these words, with these paths and no young cell
abbrev pub heap_with : Own → List Path → Heap
heap_with own paths = record {
  space = own.space;
  used = 0;
  survivors = 0;
  paths = paths;
  words = own.words;
}

-- The cycle opens for each graph of so many objects that the words show without a young cell. The words tell no paths,
-- so there may be several such graphs.
abbrev pub OpensEach : Own → ℕ → Overview → Cycle → Type 0
OpensEach own made any cycle =
    (graph : Graph) → Shows (heap_with own graph.paths) graph → length graph.objects ≡ made
    → Opens (heap_with own graph.paths) graph cycle

-- the heap shows a graph of so many objects
pub record ShowsMade (main : Mutator) (made : ℕ) : Type 0 where
  pub graph : Graph
  pub shows : MainShows main graph
  pub counted : length graph.objects ≡ made

-- no cell is young, and no word of a page is granted
pub record HasNoYoung (main : Mutator) : Type 0 where
  pub used : main.young.used ≡ 0
  pub survivors : main.young.survivors ≡ 0
  pub granted : main.young.granted.words ≡ 0

-- the variable refers to the address, which is one of a page
pub record RefersToPage (main : Mutator) (variable at : ℕ) : Type 0 where
  pub holds : Holds main.seat.space (heap_words main.seat) variable (Ref at)
  pub of_page : at < eden_start main.seat.space

-- the mutator is sure of each cell of a page to which a variable refers
abbrev pub HasSureRoots : Mutator → Type 0
HasSureRoots main =
    (variable at : ℕ) → variable < main.seat.space.variables → RefersToPage main variable at
    → Contains main.cycle.sure at

-- Nothing of the mutator changes, but that it may be sure of more cells.
pub record GrowsSure (old new : Mutator) : Type 0 where
  pub is : new ≡ record old { cycle = record old.cycle { sure = new.cycle.sure } }
  pub sure : AreIn new.cycle.sure old.cycle.sure

-- A cycle that opens for the heap and the graph is open, and each cell of a page to which a variable refers is shaded.
-- The mutator may be sure of more cells, and nothing else of it changes. The heap shows the graph.
pub record OpensCycle (old new : Mutator) (graph : Graph) : Type 0 where
  pub first : Cycle
  pub opens : Opens (heap_of old) graph first
  pub is : new ≡ in_cycle old Mark (record first { sure = new.cycle.sure })
  pub roots : HasSureRoots new
  pub shows : MainShows new graph
