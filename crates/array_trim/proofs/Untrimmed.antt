-- A list that keeps all its elements: nothing has changed.
use Rattle.std.proofs.Common.{◌≡◌, ℕ, List, Some, refl, sym, ◌∙◌, ap, subst}
use Rattle.std.specs.Prelude.{slice_get, slice_set}
use Rattle.std.proofs.lemmas.List.{set-get_or}
use Rattle.std.proofs.lemmas.Option.{get_or_from_slice_get}
use Rattle.heap_model.specs.Types.{Value, Object}
use Rattle.object_graph.specs.declared.object.Object.TheVariants.{List as ListOf}
use Rattle.object_graph.specs.Graphs.{Graph, ListObject}
use Rattle.object_graph.specs.Meaning.{relist}
use Rattle.write_barrier.specs.Staying.{rest_stays_itself}
use Rattle.heap_model.specs.Needs.{capacity_at}
use Rattle.write_barrier.specs.MutatorState.{Mutator, heap_of, MainShows}
use Rattle.object_cells.specs.ListObjects.{IsListAt}
use Rattle.object_cells.proofs.NothingUsed.{uses_none, nothing_changes}
use Rattle.array_trim.specs.Trims.{HasTrimmed}

-- a graph in which a list gets its own elements is the graph
relisted_alike : {main : Mutator} {graph : Graph} {at : ℕ} (list : ListObject) (elements : List Value)
    → MainShows main graph → IsListAt main graph at list → elements ≡ list.elements
    → MainShows main (relist graph list elements)
relisted_alike {main} {graph} list elements shows is all =
    let what : Object = ListOf elements in
    let there : slice_get graph.objects list.number ≡ Some what =
    is.object ∙ ap (λ (every : List Value). Some (ListOf every)) (sym all) in
    let same : slice_set graph.objects list.number what ≡ graph.objects =
    ap (slice_set graph.objects list.number) (sym (get_or_from_slice_get graph.objects list.number what what there))
    ∙ set-get_or graph.objects list.number what in
    subst (λ objects. MainShows main (record graph { objects = objects })) (sym same) shows

-- so it is with all elements, and with as many slots as there are
pub nothing_trimmed : {main : Mutator} {graph : Graph} {at : ℕ} (list : ListObject) (elements : List Value)
    (capacity : ℕ) → MainShows main graph → IsListAt main graph at list → elements ≡ list.elements
    → capacity ≡ capacity_at (heap_of main) at → HasTrimmed main main graph at list elements capacity
nothing_trimmed {main} {at = at} list elements capacity shows is all same = record {
  uses = uses_none (rest_stays_itself main.seat) refl refl;
  changes = nothing_changes (heap_of main) at capacity (sym same);
  shows = relisted_alike list elements shows is all;
}
