-- The lists of a graph, by the addresses of their cells, and those cells.
use Rattle.std.specs.Prelude.{◌≡◌, ℕ, List, Some, slice_get, IsTrue}
use Rattle.tagged_word.specs.declared.layout.Kind.TheVariants as kind
use Rattle.object_graph.specs.declared.object.Object.TheVariants.{List as ListOf}
use Rattle.object_graph.specs.Graphs.{Graph, ListObject}
use Rattle.object_graph.specs.Reach.{is_marked, reach}
use Rattle.heap_model.specs.Types.{Cell}
use Rattle.heap_model.specs.Heaps.{Heap, HasCell}
use Rattle.heap_model.specs.Slots.{IsPlace}
use Rattle.heap_model.specs.Needs.{count_at}
use Rattle.write_barrier.specs.MutatorState.{Mutator, heap_of, IsTied, MainShows}
use Rattle.heap_model.specs.Wholeness.{Whole}

-- The list of the graph has its place at the address, and can be reached.
pub record IsListAt (main : Mutator) (graph : Graph) (at : ℕ) (list : ListObject) : Type 0 where
  pub place : IsPlace (heap_of main) list.number at
  pub object : slice_get graph.objects list.number ≡ Some (ListOf list.elements)
  pub reached : IsTrue (is_marked (reach graph) list.number)

-- The heap shows a graph whose list of some number stands at the address.
pub record IsShownList (main : Mutator) (at : ℕ) : Type 0 where
  pub graph : Graph
  pub list : ListObject
  pub shows : MainShows main graph
  pub is : IsListAt main graph at list

-- a list's cell stands at the address
pub record IsListCellAt (heap : Heap) (at : ℕ) : Type 0 where
  pub cell : Cell
  pub words : List ℕ
  pub has : HasCell heap cell words
  pub stands : cell.at ≡ at
  pub of_kind : cell.layout.kind ≡ kind.List

-- The elements of the list at the address, which are so many, may change.
pub record IsListReady (main : Mutator) (list count : ℕ) : Type 0 where
  pub tied : IsTied main
  pub whole : Whole (heap_of main)
  pub there : IsListCellAt (heap_of main) list
  pub counted : count_at (heap_of main) list ≡ count
