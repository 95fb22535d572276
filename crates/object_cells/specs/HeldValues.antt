-- What is held of the values of a graph.
use Rattle.std.specs.Prelude.{Some, IsTrue}
use Rattle.heap_model.specs.Types.{Value, Held}
use Rattle.object_graph.specs.declared.value.Value.TheVariants.{Ref}
use Rattle.object_graph.specs.Graphs.{Graph}
use Rattle.object_graph.specs.Reach.{is_marked, reach}
use Rattle.heap_model.specs.Showing.{ShowsHeld}
use Rattle.write_barrier.specs.MutatorState.{Mutator, heap_of}

-- a value that refers to an object refers to one that can be reached
abbrev pub IsReachedValue : Graph → Value → Type 0
IsReachedValue graph (Ref number) = IsTrue (is_marked (reach graph) number)
IsReachedValue graph _ = Unit {0}

-- what is held shows the value
pub record IsValueHeld (main : Mutator) (graph : Graph) (held : Held) (value : Value) : Type 0 where
  pub shows : ShowsHeld (heap_of main) held (Some value)
  pub reached : IsReachedValue graph value
