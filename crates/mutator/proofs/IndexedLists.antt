-- Lists that commands name together with an integer: an index, or a number of elements.
use Rattle.std.proofs.Common.{◌≡◌, ℕ, Some, ℤ}
use Rattle.std.specs.FinMap.{get}
use Rattle.heap_model.specs.Types.{Operand, Value, Held}
use Rattle.object_graph.specs.declared.value.Value.TheVariants.{Ref}
use Rattle.object_graph.specs.Graphs.{Graph, ListObject, value_of, integer_in, as_list}
use Rattle.write_barrier.specs.MutatorState.{Mutator, MainShows}
use Rattle.object_cells.specs.ListObjects.{IsListAt, IsShownList}
use Rattle.mutator.specs.Reading.{StandsFor, StandForBoth, IsFoundList}
use Rattle.mutator.proofs.KnownObjects.{IsKnown, known_found}
use Rattle.mutator.proofs.ListMeanings.{IsIndex}
use Rattle.mutator.proofs.StillShown.{shows_still, stands_still}

-- what is known once the list of a command and its integer were found
pub record IsIndexedList (main : Mutator) (graph : Graph) (x : ℕ) (i : Operand) (at : ℕ) (n : ℤ) : Type 0 where
  pub list : ListObject
  pub shows : MainShows main graph
  pub known : IsKnown as_list graph x (Ref list.number) list
  pub index : IsIndex graph i n
  pub stands : IsListAt main graph at list

-- so it is once the operands were read, of a heap that is the same
pub indexed_read : {old now : Mutator} {graph : Graph} {pair : Held × Held} {at : ℕ} {n : ℤ} (x : ℕ) (i : Operand)
    → now ≡ old → MainShows old graph → StandForBoth old graph (get graph.bindings x) (value_of graph i) pair
    → ((value : Value) → MainShows now graph → StandsFor now graph value pair.0 → IsFoundList now graph value at)
    → ((value : Value) → StandsFor now graph value pair.1 → integer_in value ≡ Some n)
    → IsIndexedList now graph x i at n
indexed_read x i same shows both found integer =
    let shown = shows_still same shows in
    let named = found both.first shown (stands_still same both.stands_first) in
    record {
      list = named.list;
      shows = shown;
      known = known_found both.is_first named.is named.refers;
      index = record {
        value = both.second;
        value_is = both.is_second;
        integer = integer both.second (stands_still same both.stands_second);
      };
      stands = named.stands;
    }

-- a call on the elements of the list may be made
pub indexed_shown : {main : Mutator} {graph : Graph} {x at : ℕ} {i : Operand} {n : ℤ}
    → IsIndexedList main graph x i at n → IsShownList main at
indexed_shown {graph = graph} indexed = record {
  graph = graph;
  list = indexed.list;
  shows = indexed.shows;
  is = indexed.stands;
}
