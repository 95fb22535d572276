-- A moved heap shows the graph that the old one showed.
use Rattle.std.proofs.Common.{◌≡◌, ℕ, ◌<◌, ◌≤◌, Option, IsTrue, sym, ◌∙◌, ap, subst, refl}
use Rattle.std.proofs.lemmas.Option.{same_Some}
use Rattle.page_space.specs.Extents.{Space}
use Rattle.heap_model.specs.Types.{Held, Value, Object}
use Rattle.object_graph.specs.Graphs.{Graph}
use Rattle.object_graph.specs.Reach.{is_marked, reach}
use Rattle.heap_model.specs.Heaps.{Heap}
use Rattle.heap_model.specs.Slots.{IsPlace}
use Rattle.heap_model.specs.Wholeness.{IsHeld}
use Rattle.heap_model.specs.Showing.{ShowsReached, ShowsHeld, ShowsBinding}
use Rattle.heap_model.proofs.ShownObjects.{object_of_shown}
use Rattle.heap_moves.specs.Moved.{moved_to, IsMoved}
use Rattle.heap_moves.specs.Standing.{Stays, ShowsFor}
use Rattle.heap_moves.specs.Laws.{MovesShow, ReachedStay}
use Rattle.heap_moves.proofs.MovedCells.{place_before}
use Rattle.heap_moves.proofs.MovedRoots.{root_moved, held_is_shown}
use Rattle.heap_moves.proofs.MovedWhole.{moves_keep_whole}
use Rattle.heap_moves.proofs.MovedShown.{object_shown}
use Rattle.heap_moves.proofs.MovedReach.{reached_stays}

-- each object that can be reached stays
pub reached_stay : ReachedStay
reached_stay old new to graph number at shows moved marked place = reached_stays moved shows number at marked place

-- what a variable shows it may hold
shown_is_held : {heap : Heap} {one : Held} {value : Option Value} → ShowsHeld heap one value → IsHeld heap one
shown_is_held ShowsHeld.unbound = tt
shown_is_held ShowsHeld.undefined = tt
shown_is_held (ShowsHeld.integer v) = tt
shown_is_held (ShowsHeld.object at number place) = (number, place)

module _ {old new : Heap} {to : ℕ → Option ℕ} {graph : Graph} (moved : IsMoved old new to)
    (shows : ShowsFor old graph (Stays to)) where
  -- the root words of a variable show what it is bound to
  binding_shown : (variable : ℕ) → variable < new.space.variables → ShowsBinding new graph variable
  binding_shown variable within =
      let below = subst (λ (space : Space). variable < space.variables) moved.space within in
      let was = shows.bindings variable below in
      let root = root_moved moved shows.whole.sized variable was.held below was.holds (shown_is_held was.shows) in
      record { held = root.now; holds = root.holds; shows = held_is_shown moved root.is was.shows }

  -- an object that can be reached is shown where it stands
  reached_shown : (number : ℕ) (what : Object) → IsTrue (is_marked (reach graph) number)
      → ShowsReached old (reach graph) number what → ShowsReached new (reach graph) number what
  reached_shown number what marked one =
      let place : IsPlace old number one.cell.at = record {
        cell = one.cell;
        words = one.words;
        has = one.has;
        stands = refl;
        object = object_of_shown old (reach graph) one.cell one.words what one.shows;
        carries = one.carries;
      } in
      let stays = reached_stays moved shows number one.cell.at marked place in
      let stood = moved.stands one.cell one.words stays.0 one.has stays.1 in
      record {
        cell = moved_to one.cell stays.0;
        words = stood.others;
        has = stood.has;
        carries = one.carries;
        shows = object_shown moved (reach graph) stays.0 what shows.whole one.has stays stood.are one.shows;
        once = λ at there.
            let before = place_before moved there in
            let same : before.at ≡ one.cell.at = one.once before.at before.place in
            same_Some _ _ (sym before.stays ∙ ap to same ∙ stays.1);
      }

-- a moved heap shows the same graph
pub moves_show : MovesShow
moves_show old new to graph shows moved = record {
  whole = moves_keep_whole old new to shows.whole moved;
  paths = moved.paths ∙ shows.paths;
  bindings = binding_shown moved shows;
  no_others = λ variable past.
      shows.no_others variable (subst (λ (space : Space). space.variables ≤ variable) moved.space past);
  reached = λ number what there marked.
      reached_shown moved shows number what marked (shows.reached number what there marked);
  made = λ number at place.
      let before = place_before moved place in
      shows.made number before.at before.place;
}
