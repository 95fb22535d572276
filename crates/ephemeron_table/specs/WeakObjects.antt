-- The weak maps of a graph and the keys of their entries, by the addresses of their cells.
use Rattle.std.specs.Prelude.{◌≡◌, ℕ, Some, slice_get, IsTrue}
use Rattle.object_graph.specs.declared.object.Object.TheVariants.{Weak}
use Rattle.heap_model.specs.Types.{Value, Held}
use Rattle.object_graph.specs.Graphs.{Graph, WeakObject}
use Rattle.object_graph.specs.Reach.{is_marked, reach}
use Rattle.heap_model.specs.Slots.{IsPlace}
use Rattle.write_barrier.specs.MutatorState.{Mutator, heap_of, MainShows}
use Rattle.object_cells.specs.HeldValues.{IsValueHeld}

-- The weak map of the graph has its place at the address, and can be reached.
pub record IsWeakAt (main : Mutator) (graph : Graph) (at : ℕ) (weak : WeakObject) : Type 0 where
  pub place : IsPlace (heap_of main) weak.number at
  pub object : slice_get graph.objects weak.number ≡ Some (Weak weak.entries)
  pub reached : IsTrue (is_marked (reach graph) weak.number)

-- The object of this number has its place at the address, and can be reached.
pub record IsKeyAt (main : Mutator) (graph : Graph) (at number : ℕ) : Type 0 where
  pub place : IsPlace (heap_of main) number at
  pub reached : IsTrue (is_marked (reach graph) number)

-- The heap shows a graph of which a weak map stands at the one address, and an object that can be reached at the other.
pub record IsShownKey (main : Mutator) (map key : ℕ) : Type 0 where
  pub graph : Graph
  pub weak : WeakObject
  pub number : ℕ
  pub shows : MainShows main graph
  pub is : IsWeakAt main graph map weak
  pub is_key : IsKeyAt main graph key number

-- And what is held shows a value of it.
pub record IsShownPutting (main : Mutator) (map key : ℕ) (held : Held) : Type 0 where
  pub graph : Graph
  pub weak : WeakObject
  pub number : ℕ
  pub value : Value
  pub shows : MainShows main graph
  pub is : IsWeakAt main graph map weak
  pub is_key : IsKeyAt main graph key number
  pub is_held : IsValueHeld main graph held value
