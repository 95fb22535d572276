-- A heap in which words of a free run were granted shows what it showed, with the same rooms and stores, and stays
-- tight.
use Rattle.std.proofs.Common.{◌≡◌, ℕ, ◌≤◌, List, Some, sym, ◌∙◌, ap, subst}
use Rattle.object_graph.specs.Graphs.{Graph}
use Rattle.page_space.specs.Extents.{eden_start}
use Rattle.nursery.specs.Young.{Young, other_half}
use Rattle.free_runs.specs.FreeRuns.{TakesFront}
use Rattle.heap_model.specs.Types.{Run}
use Rattle.heap_model.specs.Slots.{IsPlace}
use Rattle.heap_model.specs.Needs.{capacity_at}
use Rattle.heap_model.specs.Collectable.{IsCollectable, AreFreeRuns}
use Rattle.heap_model.specs.Reaching.{IsTight}
use Rattle.heap_model.specs.Remembered.{AreRemembered}
use Rattle.heap_model.proofs.StaysCollectable.{object_not_free}
use Rattle.heap_moves.specs.Moved.{IsMoved}
use Rattle.heap_moves.specs.Standing.{Stays}
use Rattle.heap_moves.proofs.AllStands.{whole_for, shows_for}
use Rattle.heap_moves.proofs.MovedCells.{place_before}
use Rattle.heap_moves.proofs.MovedGraphs.{moves_show}
use Rattle.heap_moves.proofs.MovedRooms.{moves_keep_room}
use Rattle.heap_moves.proofs.RoomsStay.{moves_keep_rooms}
use Rattle.write_barrier.specs.MutatorState.{Mutator, heap_of, AreGranted, AvoidsFree, MainShows}
use Rattle.scavenger.specs.Granting.{Grants, GrantsKeepGraphs, GrantsKeepStores, GrantsStayTight}
use Rattle.scavenger.proofs.PagesRuns.{whole, whole_is}
use Rattle.scavenger.proofs.GrantedWords.{Granting}
use Rattle.scavenger.proofs.GrantedCells.{granted}
use Rattle.scavenger.proofs.GrantedMoves.{all_but, all_but_stays, all_but_same, used_apart, granted_is_moved}
use Rattle.scavenger.proofs.GrantedRuns.{stays_collectable, are_granted, runs_left, runs_apart}
use Rattle.scavenger.proofs.GrantedRecords.{stays_remembered, stays_tight}

-- words of a run of a heap that shows a graph may be granted
pub may_grant : {main : Mutator} {graph : Graph} {left : List (List Run)} {n : ℕ} {run : Run} → MainShows main graph
    → 1 ≤ n → (takes : TakesFront main.free left n run) → Granting (heap_of main) (whole takes) n
may_grant shows some takes =
    let is = whole_is takes in
    record {
      whole = shows.shows.whole;
      free = shows.free is.row (whole takes) is.of_rows is.among;
      some = some;
      enough = takes.takes.enough;
    }

module _ {old new : Mutator} {n : ℕ} (grants : Grants old new n) {graph : Graph} (shows : MainShows old graph) where
  -- the run of which words are granted
  abbrev one : Run
  one = whole grants.takes

  -- they may be
  granting : Granting (heap_of old) one n
  granting = may_grant shows grants.some grants.takes

  -- the heap of afterwards
  is_granted : heap_of new ≡ granted granting
  is_granted = λ i. record {
    space = grants.beside.space i;
    used = ap (λ (young : Young). young.used) grants.young i;
    survivors = ap (λ (young : Young). young.survivors) grants.young i;
    paths = grants.paths i;
    words = grants.words i;
  }

  -- it is the old one, moved
  is_moved : IsMoved (heap_of old) (heap_of new) (all_but one.at)
  is_moved =
      subst (λ heap. IsMoved (heap_of old) heap (all_but one.at)) (sym is_granted) (granted_is_moved granting)

  -- the run that is granted
  run_is : new.young.granted ≡ grants.run
  run_is = ap (λ (young : Young). young.granted) grants.young

  -- its words are fillers
  fillers : AreGranted (heap_of new) new.young.granted
  fillers =
      subst (AreGranted (heap_of new)) (sym run_is)
      (subst (λ heap. AreGranted heap grants.run) (sym is_granted)
      (are_granted grants.takes granting grants.own shows.free))

  -- the heap may be collected
  may_collect : IsCollectable (heap_of new) (other_half new.young.half)
  may_collect =
      let half : other_half new.young.half ≡ other_half old.young.half =
      ap (λ (young : Young). other_half young.half) grants.young in
      subst (IsCollectable (heap_of new)) (sym half)
      (subst (λ heap. IsCollectable heap (other_half old.young.half)) (sym is_granted)
      (stays_collectable granting (other_half old.young.half) shows.collectable))

  -- it shows the graph
  still_shows : MainShows new graph
  still_shows = record {
    tied = record {
      space = ap (λ (young : Young). young.space) grants.young ∙ shows.tied.space ∙ sym grants.beside.space;
      granted = fillers;
    };
    is_graph = shows.is_graph;
    calm = λ mark. absurd (grants.quiet (sym grants.beside.phase ∙ mark));
    shows = moves_show (heap_of old) (heap_of new) (all_but one.at) graph
        (shows_for (Stays (all_but one.at)) shows.shows) is_moved;
    collectable = may_collect;
    free = subst (λ heap. AreFreeRuns heap new.free) (sym is_granted)
        (runs_left grants.takes granting grants.own shows.free);
    apart = subst (λ run. AvoidsFree run new.free) (sym run_is)
        (runs_apart grants.takes granting grants.own shows.free);
    bounded = grants.bound ∙ shows.bounded ∙ ap eden_start (sym grants.beside.space);
    remembered = subst (λ heap. AreRemembered heap new.recorded.slots) (sym is_granted)
        (stays_remembered granting old.recorded.slots new.recorded.slots grants.recorded shows.remembered);
  }

  -- an object stands where it stood, with as many slots
  place_stays : (number at : ℕ) → IsPlace (heap_of old) number at
      → IsPlace (heap_of new) number at × (capacity_at (heap_of new) at ≡ capacity_at (heap_of old) at)
  place_stays number at place =
      let apart = used_apart granting place.has (object_not_free place.cell.layout.kind place.object) in
      let stays : all_but one.at at ≡ Some at =
      all_but_stays one.at at (λ same. apart (place.stands ∙ same)) in
      let moved = moves_keep_room (heap_of old) (heap_of new) (all_but one.at) number at at
      (whole_for (Stays (all_but one.at)) shows.shows.whole) is_moved place stays in
      (moved.place, moved.capacity)

  -- and stood where it stands
  place_was : (number at : ℕ) → IsPlace (heap_of new) number at → IsPlace (heap_of old) number at
  place_was number at place =
      let before = place_before is_moved place in
      subst (IsPlace (heap_of old) number) (all_but_same one.at before.at at before.stays).0 before.place

  -- it is tight where the old one was
  still_tight : IsTight (heap_of old) → IsTight (heap_of new)
  still_tight tight = subst IsTight (sym is_granted) (stays_tight granting tight)

-- graphs and rooms are kept
pub grants_keep_graphs : GrantsKeepGraphs
grants_keep_graphs old new graph n shows grants = record {
  shows = λ other shown. still_shows grants shown;
  rooms = λ other rooms shown.
      let to = all_but (one grants shown).at in
      moves_keep_rooms (heap_of old) (heap_of new) to other rooms (shows_for (Stays to) shown.shows)
      (is_moved grants shown);
}

-- so are the stores of objects
pub grants_keep_stores : GrantsKeepStores
grants_keep_stores old new graph n shows grants number at = (
  (λ place. (place_stays grants shows number at place).0, place_was grants shows number at),
  λ place. (place_stays grants shows number at place).1,
)

-- and the heap stays tight
pub grants_stay_tight : GrantsStayTight
grants_stay_tight old new graph n shows grants tight = still_tight grants shows tight
