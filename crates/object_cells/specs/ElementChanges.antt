-- A change of the elements of one list, slot by slot: the list's cell, its store and its boxes stay where they are, or
-- a store and boxes are made.
use Rattle.std.specs.Prelude.{◌≡◌, ℕ, ◌<◌, ◌≤◌, List, ◌∷◌, ◌++◌, length}
use Rattle.std.specs.Prelude.{Some, slice_get, All, [], slice_set, IsTrue}
use Rattle.tagged_word.specs.declared.layout.Kind.TheVariants as kind
use Rattle.tagged_word.specs.Cells.{store_slot}
use Rattle.heap_model.specs.Types.{Value, Cell}
use Rattle.object_graph.specs.declared.object.Object.TheVariants.{List as ListOf}
use Rattle.object_graph.specs.Graphs.{Graph, ListObject}
use Rattle.object_graph.specs.Meaning.{list_most, relist}
use Rattle.object_graph.specs.Reach.{is_marked, reach}
use Rattle.object_graph.specs.Invariants.{IsGraph, IsValue, AreElements}
use Rattle.heap_model.specs.Heaps.{Heap, words_of_cell}
use Rattle.heap_model.specs.Slots.{hole_word, HoldsStore}
use Rattle.heap_model.specs.Kinds.{HasWord, count_offset}
use Rattle.heap_model.specs.Showing.{ShowsValue, ShowsList}
use Rattle.write_barrier.specs.MutatorState.{Mutator, heap_of, MainShows}
use Rattle.write_barrier.specs.Recording.{Remembers}
use Rattle.object_cells.specs.HeldValues.{IsReachedValue}
use Rattle.object_cells.specs.Uses.{TakesRun}
use Rattle.object_cells.specs.CellWrites.{WritesOwnCells}
use Rattle.object_cells.specs.CycleChanges.{KeepsCellsOpen}
use Rattle.object_cells.specs.OwnSlots.{IsNoBoxOf, Refills}

-- Words of a list's own cells were written.
abbrev pub WritesList : Heap → Heap → Cell → List Cell → List Cell → Type 0
WritesList old new cell others made = WritesOwnCells kind.List kind.Store old new cell cell others made

-- the slots of a list's store, beside its cell of these words
pub record HasElements (heap : Heap) (words slots : List ℕ) : Type 0 where
  pub store : ℕ
  pub slot : HasWord words store_slot store
  pub stands : HoldsStore heap kind.Store store slots

-- What a slot shows: the element that the slot of number `origin` showed before, or its element anew.
pub data ShowsElement (new : Heap) (slots : List ℕ) (others : List Cell) (before : List Value) (origin word : ℕ)
    (value : Value)
    : Type 0 where
  kept : slice_get before origin ≡ Some value → HasWord slots origin word → IsNoBoxOf others word
      → ShowsElement new slots others before origin word value
  fresh : ShowsValue new word value → ShowsElement new slots others before origin word value

-- The elements of a list become others, slot by slot. `others` are cells that belong to the list and were written, and
-- `made` those that were made: stores, of which the list has the one, and boxes.
pub record RefillsElements (old new : Heap) (cell : Cell) (others made : List Cell) (before after : List Value)
    : Type 0 where
  -- the slots before and after
  pub slots : List ℕ
  pub were : HasElements old (words_of_cell old cell) slots
  pub now : List ℕ
  pub are : HasElements new (words_of_cell new cell) now
  -- how many of them hold elements
  pub counted : HasWord (words_of_cell new cell) count_offset (length after)
  pub few : length after ≤ list_most
  pub enough : length after ≤ length now
  -- from where the word of each slot comes, and what it shows
  pub refills : Refills kind.Store old new cell cell others made (HasWord slots) (HasWord now)
  pub each_element : (slot word : ℕ) (value : Value) → slice_get after slot ≡ Some value → HasWord now slot word
      → ShowsElement new slots others before (refills.origin slot) word value
  pub rest : (slot word : ℕ) → length after ≤ slot → HasWord now slot word → word ≡ hole_word

-- elements that a list of the graph may have, which refer to nothing that cannot be reached
pub record AreNewElements (graph : Graph) (elements : List Value) : Type 0 where
  pub are : AreElements (length graph.objects) elements
  pub reached : All (IsReachedValue graph) elements

-- So a heap that showed a graph shows it with these elements in the list.
abbrev pub WrittenElementsShow : Type 0
WrittenElementsShow =
    (old new : Mutator) (graph : Graph) (list : ListObject) (cell : Cell) (others made : List Cell)
    (elements : List Value)
    → MainShows old graph → slice_get graph.objects list.number ≡ Some (ListOf list.elements)
    → IsTrue (is_marked (reach graph) list.number) → cell.header.object ≡ list.number
    → ShowsList (heap_of old) cell (words_of_cell (heap_of old) cell) list.elements
    → AreNewElements graph elements → TakesRun old new made → new.paths ≡ old.paths
    → WritesList (heap_of old) (heap_of new) cell others made
    → RefillsElements (heap_of old) (heap_of new) cell others made list.elements elements
    → Remembers old new (cell ∷ others) (cell ∷ others) made → KeepsCellsOpen old new cell others
    → MainShows new (relist graph list elements)

-- With one element more behind those that it has, for which there is room, a list that can be reached has elements that
-- it may have.
abbrev pub PushedElementsAreNew : Type 0
PushedElementsAreNew =
    (graph : Graph) (list : ListObject) (value : Value) → IsGraph graph
    → slice_get graph.objects list.number ≡ Some (ListOf list.elements)
    → IsTrue (is_marked (reach graph) list.number) → length list.elements < list_most
    → IsValue (length graph.objects) value → IsReachedValue graph value
    → AreNewElements graph (list.elements ++ value ∷ [])

-- And so it has with one in the place of another.
abbrev pub PutElementsAreNew : Type 0
PutElementsAreNew =
    (graph : Graph) (list : ListObject) (place : ℕ) (value : Value) → IsGraph graph
    → slice_get graph.objects list.number ≡ Some (ListOf list.elements)
    → IsTrue (is_marked (reach graph) list.number)
    → IsValue (length graph.objects) value → IsReachedValue graph value
    → AreNewElements graph (slice_set list.elements place value)
