-- What the command `proto` finds: the plain object, and the prototype that a value gives it.
use Rattle.std.specs.Prelude.{◌≡◌, ℕ, Option, None, Some, Result, Ok, Err}
use Rattle.heap_model.specs.Types.{Value, FaultWord}
use Rattle.heap_command.specs.declared.command.FaultWord.TheVariants.{NotObject}
use Rattle.object_graph.specs.Graphs.{Graph, PlainObject}
use Rattle.object_graph.specs.Prototypes.{proto_for}
use Rattle.write_barrier.specs.MutatorState.{Mutator, MainShows}
use Rattle.object_cells.specs.PlainObjects.{IsPlainAt}
use Rattle.shape_change.specs.Prototypes.{GivesProto}

-- the prototype that the value gives was found: none, or the plain object at an address; where the value can give none,
-- the word is `notobject`
abbrev pub FindsProtoFor : Mutator → Graph → Value → Result (Option ℕ) FaultWord → Type 0
FindsProtoFor main graph value (Ok at) =
    (proto : Option ℕ) × (proto_for graph.objects value ≡ Some proto) × GivesProto main graph at proto
FindsProtoFor main graph value (Err word) = (proto_for graph.objects value ≡ None) × (word ≡ NotObject)

-- The heap shows a graph whose plain object of some number stands at the address, and this gives a prototype of it.
pub record IsShownLink (main : Mutator) (at : ℕ) (to : Option ℕ) : Type 0 where
  pub graph : Graph
  pub plain : PlainObject
  pub proto : Option ℕ
  pub shows : MainShows main graph
  pub is : IsPlainAt main graph at plain
  pub gives : GivesProto main graph to proto
