-- The elements that pushing one or putting one makes are elements that the list may have.
use Rattle.std.proofs.Common.{◌≡◌, ℕ, length, Some, slice_get, length-append, length-set, arith, subst, [], ◌∷◌}
use Rattle.std.specs.Prelude.{All, Contains, IsTrue}
use Rattle.std.proofs.lemmas.List.Elements.{All-contains, All-contains_itself, All-weaker, All-push, All-set}
use Rattle.heap_model.specs.Types.{Value}
use Rattle.object_graph.specs.declared.object.Object.TheVariants.{List as ListOf}
use Rattle.object_graph.specs.Graphs.{Graph, ListObject}
use Rattle.object_graph.specs.Reach.{is_marked, reach}
use Rattle.object_graph.specs.Invariants.{IsGraph, IsObject, IsValue, AreElements}
use Rattle.graph_laws.proofs.Reaches.{reach_closed}
use Rattle.heap_model.proofs.SlotWords.{All-slice_get}
use Rattle.object_cells.specs.HeldValues.{IsReachedValue}
use Rattle.object_cells.specs.ElementChanges.{AreNewElements, PushedElementsAreNew, PutElementsAreNew}
use Rattle.object_cells.proofs.NewFields.{value_reached}

-- the list is one of the graph
list_is : (graph : Graph) (list : ListObject) → IsGraph graph
    → slice_get graph.objects list.number ≡ Some (ListOf list.elements)
    → AreElements (length graph.objects) list.elements
list_is graph list is there =
    All-slice_get (IsObject (length graph.objects)) graph.objects list.number (ListOf list.elements) is.made there

-- the elements of a list that can be reached can be
elements_reached : (graph : Graph) (list : ListObject) → IsGraph graph
    → slice_get graph.objects list.number ≡ Some (ListOf list.elements)
    → IsTrue (is_marked (reach graph) list.number) → All (IsReachedValue graph) list.elements
elements_reached graph list is there marked =
    let count : ℕ = length graph.objects in
    let each : (value : Value) → Contains list.elements value → IsReachedValue graph value = λ value among.
    value_reached graph value
    (All-contains (IsValue count) list.elements value (list_is graph list is there).values among)
    (λ number refers below. reach_closed graph list.number (ListOf list.elements) number there marked below
    (subst (Contains list.elements) refers among)) in
    All-weaker (Contains list.elements) (IsReachedValue graph) each list.elements (All-contains_itself list.elements)

-- so they are elements that it may have
pub elements_are_new : (graph : Graph) (list : ListObject) → IsGraph graph
    → slice_get graph.objects list.number ≡ Some (ListOf list.elements)
    → IsTrue (is_marked (reach graph) list.number) → AreNewElements graph list.elements
elements_are_new graph list is there marked =
    record { are = list_is graph list is there; reached = elements_reached graph list is there marked }

-- with one pushed
pub pushed_elements_are_new : PushedElementsAreNew
pushed_elements_are_new graph list value is there marked room is_value reached =
    let were = list_is graph list is there in
    record {
      are = record {
        values = All-push (IsValue (length graph.objects)) list.elements value were.values is_value;
        few = omega (arith, room, length-append list.elements (value ∷ []));
      };
      reached = All-push (IsReachedValue graph) list.elements value (elements_reached graph list is there marked)
          reached;
    }

-- with one put in the place of another
pub put_elements_are_new : PutElementsAreNew
put_elements_are_new graph list place value is there marked is_value reached =
    let were = list_is graph list is there in
    record {
      are = record {
        values = All-set (IsValue (length graph.objects)) list.elements place value is_value were.values;
        few = omega (arith, were.few, length-set list.elements place value);
      };
      reached = All-set (IsReachedValue graph) list.elements place value reached
          (elements_reached graph list is there marked);
    }
