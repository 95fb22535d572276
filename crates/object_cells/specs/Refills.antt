-- What a change of the cells of one plain object owes, so that the heap shows the graph in which it has other fields.
use Rattle.std.specs.Prelude.{◌≡◌, ℕ, ◌≤◌, false, List, length, All, Contains, Some, slice_get, IsTrue}
use Rattle.object_graph.specs.declared.object.Object.TheVariants.{Plain}
use Rattle.heap_model.specs.Types.{Field, Value, Cell}
use Rattle.object_graph.specs.Paths.{path_of, with_path}
use Rattle.object_graph.specs.Graphs.{Graph, PlainObject}
use Rattle.object_graph.specs.Meaning.{refill}
use Rattle.object_graph.specs.Objects.{with_field, without_field}
use Rattle.object_graph.specs.Reach.{is_marked, reach}
use Rattle.object_graph.specs.Invariants.{IsGraph, IsValue, AreFields, fields_most}
use Rattle.object_graph.specs.Limits.{paths_most}
use Rattle.heap_model.specs.Heaps.{Heap, words_of_cell}
use Rattle.tagged_word.specs.Cells.{is_object_kind}
use Rattle.heap_model.specs.Wholeness.{HasSizes, HasRows}
use Rattle.heap_model.specs.Showing.{ShowsPlain, ShowsProto}
use Rattle.heap_model.specs.Changes.{CellsChange, IsOwnChange}
use Rattle.heap_model.specs.Remembered.{AreRemembered}
use Rattle.write_barrier.specs.MutatorState.{Mutator, heap_of, MainShows}
use Rattle.object_cells.specs.CycleChanges.{KeepsOpenCycle}
use Rattle.object_cells.specs.Uses.{TakesRun}
use Rattle.object_cells.specs.PlainObjects.{LacksFields, ShowsRefilled}
use Rattle.object_cells.specs.HeldValues.{IsReachedValue}

-- fields that an object of the graph may have, which refer to nothing that cannot be reached
pub record AreNewFields (graph : Graph) (fields : List Field) : Type 0 where
  pub few : length fields ≤ fields_most
  pub are : AreFields (length graph.objects) fields
  pub reached : All (λ field. IsReachedValue graph field.value) fields

-- Of objects only this one's cell went; one came that shows these fields of it, and its prototype; and no object was
-- made.
pub record RefillsCells (old new : Heap) (plain : PlainObject) (fields : List Field)
    (gone came made : List Cell) : Type 0 where
  pub cells : CellsChange old new gone came made
  pub own : IsOwnChange old new gone came made
  pub only : (cell : Cell) → Contains gone cell → IsTrue (is_object_kind cell.layout.kind)
      → cell.header.object ≡ plain.number
  pub no_object : (cell : Cell) → Contains made cell → is_object_kind cell.layout.kind ≡ false
  pub cell : Cell
  pub among : Contains came cell
  pub carries : cell.header.object ≡ plain.number
  pub shows : ShowsPlain new cell (words_of_cell new cell) plain.cap fields
  pub leads : ShowsProto new (words_of_cell new cell) plain.proto

-- The mutator rests again: the cells that were made stand in words that were taken for them, its words are those of a
-- heap, and what is recorded is right.
pub record RestsAgain (old new : Mutator) (made : List Cell) : Type 0 where
  pub takes : TakesRun old new made
  pub sized : HasSizes (heap_of new)
  pub rows : HasRows (heap_of new)
  pub free : new.free ≡ old.free
  pub bound : new.recorded.bound ≡ old.recorded.bound
  pub remembered : AreRemembered (heap_of new) new.recorded.slots

-- A heap that showed a graph shows it with these fields in the object, where their path was added and its cells show
-- them.
abbrev pub RefillsShow : Type 0
RefillsShow =
    (old new : Mutator) (graph : Graph) (plain : PlainObject) (fields : List Field) (gone came made : List Cell)
    → MainShows old graph → slice_get graph.objects plain.number ≡ Some (Plain plain.cap plain.proto plain.fields)
    → IsTrue (is_marked (reach graph) plain.number)
    → AreNewFields graph fields
    → with_path (Some paths_most) graph.paths (path_of plain.cap fields) ≡ Some new.paths
    → RestsAgain old new made → RefillsCells (heap_of old) (heap_of new) plain fields gone came made
    → KeepsOpenCycle old new (refill graph plain fields new.paths) gone came made
    → ShowsRefilled new graph plain fields

-- With one field written, for which there is room, an object that can be reached has fields that it may have.
abbrev pub WrittenFieldsAreNew : Type 0
WrittenFieldsAreNew =
    (graph : Graph) (plain : PlainObject) (name : ℕ) (value : Value) → IsGraph graph
    → slice_get graph.objects plain.number ≡ Some (Plain plain.cap plain.proto plain.fields)
    → IsTrue (is_marked (reach graph) plain.number) → (LacksFields plain name → ⊥)
    → IsValue (length graph.objects) value → IsReachedValue graph value
    → AreNewFields graph (with_field plain.fields name value)

-- And so it has with one taken out.
abbrev pub RestOfFieldsAreNew : Type 0
RestOfFieldsAreNew =
    (graph : Graph) (plain : PlainObject) (name : ℕ) → IsGraph graph
    → slice_get graph.objects plain.number ≡ Some (Plain plain.cap plain.proto plain.fields)
    → IsTrue (is_marked (reach graph) plain.number) → AreNewFields graph (without_field plain.fields name)
