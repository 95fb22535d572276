-- Where words of a list's own cells were written and its slots show other elements, the heap shows the graph in which
-- the list has these.
use Rattle.std.proofs.Common.{List, ◌∷◌, IsTrue, inr, refl, subst, sym, ◌∙◌, ap}
use Rattle.std.specs.Prelude.{option_and_then}
use Rattle.std.proofs.lemmas.List.Elements.{All-contains}
use Rattle.tagged_word.proofs.Members.{first_in}
use Rattle.heap_model.specs.Types.{Value, Cell}
use Rattle.object_graph.specs.declared.value.Value.TheVariants.{Ref}
use Rattle.object_graph.specs.declared.object.Object.TheVariants.{List as ListOf}
use Rattle.object_graph.specs.Graphs.{Graph, as_list}
use Rattle.object_graph.specs.Meaning.{relist}
use Rattle.object_graph.specs.Reach.{is_marked, reach}
use Rattle.graph_laws.proofs.MadeGraphs.{relists}
use Rattle.heap_model.specs.Heaps.{Heap}
use Rattle.write_barrier.specs.MutatorState.{heap_of}
use Rattle.object_cells.specs.HeldValues.{IsReachedValue}
use Rattle.object_cells.specs.Refills.{RestsAgain}
use Rattle.object_cells.specs.ElementChanges.{AreNewElements, WrittenElementsShow}
use Rattle.object_cells.proofs.OwnerWrites.{list_owns, written_own_keeps_cells}
use Rattle.object_cells.proofs.OwnersKeep.{own_cells_keep_cycle}
use Rattle.object_cells.proofs.OwnSteps.{own_step, went_object, of_kind_is_no_object}
use Rattle.object_cells.proofs.RefilledElements.{list_shows, elements_own}
use Rattle.object_cells.proofs.ReplacedObjects.{HasReachedLinks, ReplacesCells, rests_again, replaced_shows}
use Rattle.object_cells.proofs.ReplacedObjects.{stays_reached}

-- what a list links to is what one of its elements refers to
pub links_reached : (graph : Graph) (elements : List Value) → AreNewElements graph elements
    → HasReachedLinks graph (ListOf elements)
links_reached graph elements are number link =
    All-contains (IsReachedValue graph) elements (Ref number) are.reached link

-- so the heap shows the graph in which the list has these elements
pub written_elements_show : WrittenElementsShow
written_elements_show old new graph list cell others made elements shows there reached carries shown are takes
    same writes slots remembers keeps =
    let before : Heap = heap_of old in
    let now : Heap = heap_of new in
    let whole = shows.shows.whole in
    let kept = written_own_keeps_cells list_owns whole writes in
    let cells : List Cell = cell ∷ others in
    let rest : RestsAgain old new made =
    rests_again cells cells made shows takes writes.sized kept.0 kept.1 remembers in
    let replaces : ReplacesCells before now graph list.number (ListOf elements) cells cells made =
    record {
      cells = kept.1;
      own = elements_own whole shown writes slots;
      only = λ other among object.
          ap (λ (c : Cell). c.header.object)
          (sym (went_object (own_step list_owns whole writes) other among object)) ∙ carries;
      no_object = λ other among. of_kind_is_no_object list_owns whole writes other (slots.refills.kinds other among);
      cell = cell;
      among = first_in cell others;
      carries = carries;
      shows = λ marks reached. list_shows whole shown writes slots;
    } in
    replaced_shows list.number (ListOf elements) graph.paths shows
    (relists graph (Ref list.number) list elements shows.is_graph
    (ap (λ found. option_and_then (as_list list.number) found) there) are.are)
    (same ∙ shows.shows.paths)
    (links_reached graph elements are) rest replaces
    (own_cells_keep_cycle (relist graph list elements) (inr refl) list_owns shows writes slots.refills replaces.own
    takes (subst (λ n. IsTrue (is_marked (reach (relist graph list elements)) n)) (sym carries)
    (stays_reached graph list.number (ListOf elements) graph.paths reached)) keeps)
