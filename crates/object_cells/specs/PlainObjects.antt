-- The plain objects of a graph, by the addresses of their cells.
use Rattle.std.specs.Prelude.{◌≡◌, ℕ, ◌≤◌, List, length, Some, None, slice_get, IsTrue}
use Rattle.object_graph.specs.declared.object.Object.TheVariants.{Plain}
use Rattle.heap_model.specs.Types.{Field, Path}
use Rattle.object_graph.specs.Objects.{field_value}
use Rattle.object_graph.specs.Paths.{path_of, with_path}
use Rattle.object_graph.specs.Graphs.{Graph, PlainObject}
use Rattle.object_graph.specs.Meaning.{refill}
use Rattle.object_graph.specs.Reach.{is_marked, reach}
use Rattle.object_graph.specs.Invariants.{fields_most}
use Rattle.object_graph.specs.Limits.{paths_most}
use Rattle.heap_model.specs.Slots.{IsPlace}
use Rattle.write_barrier.specs.MutatorState.{Mutator, heap_of, MainShows}

-- The plain object of the graph has its place at the address, and can be reached.
pub record IsPlainAt (main : Mutator) (graph : Graph) (at : ℕ) (plain : PlainObject) : Type 0 where
  pub place : IsPlace (heap_of main) plain.number at
  pub object : slice_get graph.objects plain.number ≡ Some (Plain plain.cap plain.proto plain.fields)
  pub reached : IsTrue (is_marked (reach graph) plain.number)

-- The heap shows a graph whose plain object of some number stands at the address.
pub record IsShownPlain (main : Mutator) (at : ℕ) : Type 0 where
  pub graph : Graph
  pub plain : PlainObject
  pub shows : MainShows main graph
  pub is : IsPlainAt main graph at plain

-- the heap shows the graph in which the object has these fields, and its path and prefixes are added
pub record ShowsRefilled (new : Mutator) (graph : Graph) (plain : PlainObject) (fields : List Field) : Type 0 where
  pub paths : List Path
  pub added : with_path (Some paths_most) graph.paths (path_of plain.cap fields) ≡ Some paths
  pub shows : MainShows new (refill graph plain fields paths)

-- there may not be as many paths as the object with these fields needs
abbrev pub LacksPaths : Graph → PlainObject → List Field → Type 0
LacksPaths graph plain fields = with_path (Some paths_most) graph.paths (path_of plain.cap fields) ≡ None

-- the name is new, and the object has as many fields as it may have
pub record LacksFields (plain : PlainObject) (name : ℕ) : Type 0 where
  pub fresh : field_value plain.fields name ≡ None
  pub full : fields_most ≤ length plain.fields
