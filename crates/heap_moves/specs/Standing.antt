-- What is asked of a heap before it is moved: it is whole and shows a graph, but for what stands in cells that go.
use Rattle.std.specs.Prelude.{◌≡◌, ℕ, ◌<◌, ◌≤◌, List, length, Option, Some, None, slice_get, IsTrue}
use Rattle.std.specs.FinMap.{get}
use Rattle.heap_model.specs.Types.{Object, Cell}
use Rattle.object_graph.specs.Graphs.{Graph}
use Rattle.object_graph.specs.Reach.{is_marked, reach}
use Rattle.heap_model.specs.Heaps.{Heap, HasCell}
use Rattle.heap_model.specs.Slots.{IsPlace}
use Rattle.heap_model.specs.Kinds.{IsSoundCell}
use Rattle.heap_model.specs.Wholeness.{HasSizes, HasRows, HasRoot, NamesFrom}
use Rattle.heap_model.specs.Showing.{ShowsBinding, ShowsReached}

-- what stands at the address stays
abbrev pub Stays : (ℕ → Option ℕ) → ℕ → Type 0
Stays to at = (now : ℕ) × (to at ≡ Some now)

-- The heap is whole, but for what stands in cells at other addresses than these.
pub record WholeFor (heap : Heap) (live : ℕ → Type 0) : Type 0 where
  pub sized : HasSizes heap
  pub rows : HasRows heap
  pub roots : (variable : ℕ) → variable < heap.space.variables → HasRoot heap variable
  pub sound : (cell : Cell) (words : List ℕ) → HasCell heap cell words → live cell.at → IsSoundCell heap cell words
  pub owned : (owner another : Cell) (slot other named : ℕ) → live owner.at → live another.at
      → NamesFrom heap owner slot named → NamesFrom heap another other named → slot ≡ other

-- The heap shows the graph, but for what stands in cells at other addresses than these.
pub record ShowsFor (heap : Heap) (graph : Graph) (live : ℕ → Type 0) : Type 0 where
  pub whole : WholeFor heap live
  pub paths : heap.paths ≡ graph.paths
  pub bindings : (variable : ℕ) → variable < heap.space.variables → ShowsBinding heap graph variable
  pub no_others : (variable : ℕ) → heap.space.variables ≤ variable → get graph.bindings variable ≡ None
  pub reached : (number : ℕ) (what : Object) → slice_get graph.objects number ≡ Some what
      → IsTrue (is_marked (reach graph) number) → ShowsReached heap (reach graph) number what
  pub made : (number at : ℕ) → IsPlace heap number at → number < length graph.objects
