-- A heap keeps nothing but what can be reached, where all that stays of another is kept for that.
use Rattle.std.proofs.Common.{ℕ, List, Option, refl, sym, subst}
use Rattle.heap_model.specs.Types.{Cell}
use Rattle.object_graph.specs.Graphs.{Graph}
use Rattle.heap_model.specs.Heaps.{Heap}
use Rattle.heap_model.specs.Wholeness.{IsOwnedKind, NamesFrom}
use Rattle.heap_model.specs.Slots.{IsPlace}
use Rattle.heap_model.specs.Showing.{Shows}
use Rattle.heap_model.proofs.StaysCollectable.{owned_not_free}
use Rattle.heap_moves.specs.Standing.{Stays}
use Rattle.heap_moves.proofs.AllStands.{shows_for}
use Rattle.heap_moves.proofs.MovedCells.{origin, place_before}
use Rattle.heap_moves.proofs.MovedGraphs.{moves_show, reached_stay}
use Rattle.live_cells.specs.Keeping.{KeepsOnlyReached, StayInPlace, MovesForReached, SweptKeepsNoOther}
use Rattle.live_cells.specs.Live.{AreLive}
use Rattle.live_cells.specs.Keeping.{MovedKeepsNoOther}
use Rattle.live_cells.proofs.LiveKept.{live_is_for_reached}
use Rattle.live_cells.proofs.MovedNames.{names_moved}

-- the place of an object whose cell names something
pub place_of_owner : {heap : Heap} {owner : Cell} {slot at : ℕ} → NamesFrom heap owner slot at
    → IsPlace heap owner.header.object owner.at
place_of_owner {owner = owner} names = record {
  cell = owner;
  words = names.words;
  has = names.has;
  stands = refl;
  object = names.object;
  carries = refl;
}

-- what stays is all that the moved heap keeps
pub moves_for_reached : MovesForReached
moves_for_reached old new to graph shows keeps moved = record {
  shows = moves_show old new to graph shows moved;
  reached = λ number at place.
      let before = place_before moved place in
      keeps.reached number before.at before.place (at, before.stays);
  named = λ cell words has owned.
      let from = origin moved has (owned_not_free cell.layout.kind owned) in
      let was_owned = subst (λ (one : Cell). IsOwnedKind one.layout.kind) (sym from.same) owned in
      let named = keeps.named from.was from.words from.had (cell.at, from.stays) was_owned in
      names_moved moved cell.at named.names named.among from.stays;
}

-- what is live is all that stays, where it stays in its place
live_stays_only : {heap : Heap} {graph : Graph} {marked : List ℕ} {to : ℕ → Option ℕ} → Shows heap graph
    → AreLive heap marked → StayInPlace marked to → KeepsOnlyReached heap graph (Stays to)
live_stays_only {heap} {graph} {marked} shows are stay =
    let live = live_is_for_reached heap graph marked shows are in
    record {
      reached = λ number at place stays. live.reached number at place (stay.goes at stays.0 stays.1).1;
      named = λ cell words has stays owned.
          let named = live.named cell words has (stay.goes cell.at stays.0 stays.1).1 owned in
          record {
            owner = named.owner;
            slot = named.slot;
            names = named.names;
            among = (named.owner.at, stay.stays named.owner.at named.among);
          };
    }

-- so a heap keeps nothing else of which just the live cells stay
pub swept_keeps_no_other : SweptKeepsNoOther
swept_keeps_no_other old new marked to graph shows are stay moved =
    moves_for_reached old new to graph (shows_for (Stays to) shows) (live_stays_only shows are stay) moved

-- nor does one that kept nothing else and is moved
pub moved_keeps_no_other : MovedKeepsNoOther
moved_keeps_no_other old new to graph keeps moved =
    let shows = shows_for (Stays to) keeps.shows in
    moves_for_reached old new to graph shows (record {
      reached = λ number at place stays. keeps.reached number at place;
      named = λ cell words has stays owned.
          let named = keeps.named cell words has owned in
          let place = place_of_owner named.names in
          record {
            owner = named.owner;
            slot = named.slot;
            names = named.names;
            among = reached_stay old new to graph named.owner.header.object named.owner.at shows moved
                (keeps.reached named.owner.header.object named.owner.at place) place;
          };
    }) moved
