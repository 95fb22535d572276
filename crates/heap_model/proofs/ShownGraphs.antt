-- A heap shows the graph in which the objects that changed are what their cells show.
use Rattle.std.specs.Prelude.{◌≤◌}
use Rattle.std.proofs.Common.{ap, ◌∙◌}
use Rattle.std.proofs.Common.{◌≡◌, ℕ, ◌<◌, inl, inr, List, [], get_or, length, Option, IsTrue, sym, subst}
use Rattle.std.proofs.lemmas.Option.{slice_get-get_or}
use Rattle.std.specs.FinMap.{get}
use Rattle.page_space.specs.Extents.{Space}
use Rattle.heap_model.specs.Types.{Value, Object, Cell, Held}
use Rattle.object_graph.specs.declared.object.Object.TheVariants as graph_object
use Rattle.object_graph.specs.Graphs.{Graph}
use Rattle.object_graph.specs.Reach.{is_marked, reach}
use Rattle.heap_model.specs.Heaps.{Heap}
use Rattle.heap_model.specs.Showing.{ShowsReached, ShowsHeld, ShowsBinding, Shows}
use Rattle.heap_model.specs.Changes.{CellsChange}
use Rattle.heap_model.specs.Laws.{OwnChangesShow}
use Rattle.heap_model.proofs.Moves.{Moves, place_stays}
use Rattle.heap_model.proofs.CellOutcomes.{cells_move}
use Rattle.heap_model.proofs.WholeStays.{holds_stays}
use Rattle.heap_model.proofs.PlacesBefore.{AreNumberedFrom}
use Rattle.heap_model.proofs.ReachedStays.{reach_below, keys_stay, reached_stays, reached_came, made_below}

-- what a variable holds shows what it is bound to
pub held_shown : {old new : Heap} {gone came made : List Cell} (one : Held) (value : Option Value)
    → Moves old new gone came made → ShowsHeld old one value → ShowsHeld new one value
held_shown one value moves ShowsHeld.unbound = ShowsHeld.unbound
held_shown one value moves ShowsHeld.undefined = ShowsHeld.undefined
held_shown one value moves (ShowsHeld.integer v) = ShowsHeld.integer v
held_shown one value moves (ShowsHeld.object at number place) =
    ShowsHeld.object at number (place_stays moves number at place)

-- the root words of a variable show what it is bound to
pub binding_shown : {old new : Heap} {gone came made : List Cell} (before after : Graph) (variable : ℕ)
    → Moves old new gone came made → CellsChange old new gone came made → after.bindings ≡ before.bindings
    → variable < old.space.variables → ShowsBinding old before variable → ShowsBinding new after variable
binding_shown {old} {new} before after variable moves change same below shown = record {
  held = shown.held;
  holds = holds_stays variable shown.held change below shown.holds;
  shows = subst (λ bindings. ShowsHeld new shown.held (get bindings variable)) (sym same)
      (held_shown shown.held (get before.bindings variable) moves shown.shows);
}

-- each object that could be reached was shown
was_shown : (old : Heap) (before : Graph) (number : ℕ) → Shows old before → IsTrue (is_marked (reach before) number)
    → (was : Object) × ShowsReached old (reach before) number was
was_shown old before number shows marked =
    let none : Object = graph_object.List [] in
    let was : Object = get_or before.objects number none in (
      was,
      shows.reached number was (slice_get-get_or before.objects number none (reach_below before number marked))
          marked,
    )

-- a heap shows the graph in which these objects are what their cells show
pub own_changes_show : OwnChangesShow
own_changes_show old new before after gone came made shows whole change own graphs =
    let moves : Moves old new gone came made = record { whole = shows.whole; cells = cells_move change; own = own } in
    let count : ℕ = length before.objects in
    let numbered : AreNumberedFrom count made = λ cell there object. (graphs.numbered cell there object).0 in
    record {
      whole = whole;
      paths = graphs.paths;
      bindings = λ variable within.
          let below = subst (λ (space : Space). variable < space.variables) change.same_space within in
          binding_shown before after variable moves change graphs.bindings below (shows.bindings variable below);
      no_others = λ variable past.
          let behind = subst (λ (space : Space). space.variables ≤ variable) change.same_space past in
          ap (λ bindings. get bindings variable) graphs.bindings ∙ shows.no_others variable behind;
      reached = λ number what there marked.
          let was_marked = graphs.reached number marked in
          let below = reach_below before number was_marked in
          elim (graphs.each number what there marked) [
            | inl stays ↦
                let shown = shows.reached number what stays.same was_marked in
                reached_stays count (reach before) (reach after) number what moves numbered
                (reach_below before) below shown
                stays.stood (keys_stay old (reach before) (reach after) shown.words what graphs.reached)
            | inr comes ↦
                let was = was_shown old before number shows was_marked in
                reached_came count (reach before) (reach after) number what was.0 moves numbered below was.1 comes
          ];
      made = made_below count (length after.objects) moves graphs.few shows.made
          (λ cell there object. (graphs.numbered cell there object).1);
    }
