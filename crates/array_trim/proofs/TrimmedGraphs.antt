-- A heap in which a list was trimmed shows the graph in which the list has the elements that stay.
use Rattle.std.proofs.Common.{ℕ, IsTrue, ◌+◌, List, [], ◌∷◌, length, take, drop, sym, ◌∙◌, ap, subst, arith}
use Rattle.std.proofs.Common.{length-take, length-drop}
use Rattle.std.specs.Prelude.{option_and_then}
use Rattle.std.proofs.lemmas.List.Elements.{All-take, All-drop}
use Rattle.tagged_word.proofs.Members.{first_in}
use Rattle.heap_model.specs.Types.{Value, Cell}
use Rattle.object_graph.specs.declared.object.Object.TheVariants.{List as ListOf}
use Rattle.object_graph.specs.declared.value.Value.TheVariants.{Ref}
use Rattle.object_graph.specs.Graphs.{Graph, ListObject, as_list}
use Rattle.object_graph.specs.Invariants.{IsValue}
use Rattle.object_graph.specs.Meaning.{relist}
use Rattle.object_graph.specs.Reach.{is_marked, reach}
use Rattle.graph_laws.proofs.MadeGraphs.{relists}
use Rattle.page_space.specs.Sizes.{AreWithin}
use Rattle.heap_model.proofs.BoundHeaps.{none_in}
use Rattle.write_barrier.specs.MutatorState.{Mutator, heap_of, MainShows}
use Rattle.write_barrier.specs.Recording.{Remembers}
use Rattle.object_cells.specs.HeldValues.{IsReachedValue}
use Rattle.object_cells.specs.Refills.{RestsAgain}
use Rattle.object_cells.specs.Capacities.{ChangesObjectUsing}
use Rattle.object_cells.specs.Contents.{next_at}
use Rattle.object_cells.specs.CycleChanges.{KeepsOpenCycle}
use Rattle.object_cells.specs.ElementChanges.{AreNewElements}
use Rattle.object_cells.specs.ListObjects.{IsListAt}
use Rattle.object_cells.specs.Made.{PutsWords}
use Rattle.object_cells.specs.Uses.{UsesMore}
use Rattle.object_cells.proofs.NothingUsed.{room_for_none, uses_none}
use Rattle.object_cells.proofs.TakenRuns.{bumped_none, takes_none}
use Rattle.object_cells.proofs.NewElements.{elements_are_new}
use Rattle.object_cells.proofs.RefilledLists.{links_reached}
use Rattle.object_cells.proofs.ReplacedObjects.{ReplacesCells, replaced_shows, rests_again, stays_reached}
use Rattle.object_cells.proofs.ListCells.{ListShown}
use Rattle.array_trim.specs.Trims.{HasTrimmed}
use Rattle.array_trim.proofs.MarkedTrims.{TrimMarks, trim_keeps_open_cycle}
use Rattle.array_trim.proofs.TrimmedCells.{Trimming, trimmed_cells}
use Rattle.object_cells.proofs.OwnSteps.{went_object}
use Rattle.array_trim.proofs.TrimmedSlots.{trim_step}
use Rattle.array_trim.proofs.TrimmedLists.{list_shows, trimmed_own}
use Rattle.array_trim.proofs.TrimmedCapacities.{trimmed_capacities}

-- elements that a list may have are such without the first ones
pub dropped_are_new : (graph : Graph) (elements : List Value) (n : ℕ) → AreNewElements graph elements
    → AreNewElements graph (drop n elements)
dropped_are_new graph elements n are = record {
  are = record {
    values = All-drop (IsValue (length graph.objects)) n elements are.are.values;
    few = omega (arith, are.are.few, length-drop n elements);
  };
  reached = All-drop (IsReachedValue graph) n elements are.reached;
}

-- and so are the first ones alone
pub taken_are_new : (graph : Graph) (elements : List Value) (n : ℕ) → AreNewElements graph elements
    → AreNewElements graph (take n elements)
taken_are_new graph elements n are = record {
  are = record {
    values = All-take (IsValue (length graph.objects)) n elements are.are.values;
    few = omega (arith, are.are.few, length-take n elements);
  };
  reached = All-take (IsReachedValue graph) n elements are.reached;
}

-- the elements of a list of the graph are elements that it may have
pub list_are_new : {main : Mutator} {graph : Graph} {at : ℕ} {list : ListObject} → MainShows main graph
    → IsListAt main graph at list → AreNewElements graph list.elements
list_are_new {graph = graph} {list = list} shows is = elements_are_new graph list shows.is_graph is.object is.reached

-- what is known where words of a trim were put for a list that is shown
pub record Trimmed (old new : Mutator) (graph : Graph) (at : ℕ) (list : ListObject) (after : List Value) : Type 0 where
  pub shows : MainShows old graph
  pub is : IsListAt old graph at list
  pub within : AreWithin old.seat.space.sizes old.seat.space.variables
  pub shown : ListShown (heap_of old) at list
  pub are : AreNewElements graph after
  pub words : List ℕ
  pub puts : PutsWords old new words
  pub store : Cell
  pub came : Cell
  pub pieces : List Cell
  pub from : ℕ
  pub trim : Trimming (heap_of old) (heap_of new) shown.cell store came pieces list.elements after from
  pub remembers : Remembers old new (shown.cell ∷ store ∷ []) (shown.cell ∷ pieces) []
  pub marks : TrimMarks old new shown.cell.at store.at came.at

module _ {old new : Mutator} {graph : Graph} {at : ℕ} {list : ListObject} {after : List Value}
    (trimmed : Trimmed old new graph at list after) where
  -- the mutator rests again
  rests : RestsAgain old new []
  rests =
      let cells = trimmed_cells trimmed.trim in
      rests_again (trimmed.shown.cell ∷ trimmed.store ∷ []) (trimmed.shown.cell ∷ trimmed.pieces) [] trimmed.shows
      (takes_none trimmed.puts.beside (room_for_none old trimmed.shows.tied trimmed.shows.shows.whole)
      (trimmed.puts.young ∙ sym (bumped_none old.young))) trimmed.trim.sized cells.0 cells.1 trimmed.remembers

  -- the list's cell shows the elements that stay, and no other object's went
  replaces : ReplacesCells (heap_of old) (heap_of new) graph list.number (ListOf after)
      (trimmed.shown.cell ∷ trimmed.store ∷ []) (trimmed.shown.cell ∷ trimmed.pieces) []
  replaces = record {
    cells = (trimmed_cells trimmed.trim).1;
    own = trimmed_own trimmed.trim;
    only = λ one among object.
        ap (λ (c : Cell). c.header.object) (sym (went_object (trim_step trimmed.trim) one among object))
        ∙ trimmed.shown.carries;
    no_object = λ one among. absurd (none_in one among);
    cell = trimmed.shown.cell;
    among = first_in trimmed.shown.cell trimmed.pieces;
    carries = trimmed.shown.carries;
    shows = λ marks reached. list_shows trimmed.trim;
  }

  -- a list that can be reached can be with other elements
  still_reached : IsTrue (is_marked (reach (relist graph list after)) trimmed.shown.cell.header.object)
  still_reached =
      subst (λ n. IsTrue (is_marked (reach (relist graph list after)) n)) (sym trimmed.shown.carries)
      (stays_reached graph list.number (ListOf after) graph.paths trimmed.is.reached)

  -- an open cycle is kept
  keeps : KeepsOpenCycle old new (relist graph list after) (trimmed.shown.cell ∷ trimmed.store ∷ [])
      (trimmed.shown.cell ∷ trimmed.pieces) []
  keeps =
      trim_keeps_open_cycle (relist graph list after) trimmed.shows trimmed.trim trimmed.marks still_reached

  -- so the heap shows the graph in which the list has these
  graph_shown : MainShows new (relist graph list after)
  graph_shown =
      replaced_shows list.number (ListOf after) graph.paths trimmed.shows
      (relists graph (Ref list.number) list after trimmed.shows.is_graph
      (ap (λ found. option_and_then (as_list list.number) found) trimmed.is.object) trimmed.are.are)
      (trimmed.puts.paths ∙ trimmed.shows.shows.paths)
      (links_reached graph after trimmed.are) rests replaces keeps

  -- no word more is used
  none_used : UsesMore old new 0
  none_used = uses_none trimmed.puts.beside trimmed.puts.young trimmed.remembers.touches.free

  -- the list was trimmed
  pub has_trimmed : HasTrimmed old new graph at list after trimmed.came.length
  has_trimmed = record {
    uses = none_used;
    changes = subst (λ n. ChangesObjectUsing old new 0 n trimmed.came.length) trimmed.shown.stands
        (trimmed_capacities trimmed.trim trimmed.within (next_at old) (next_at old + 0));
    shows = graph_shown;
  }
