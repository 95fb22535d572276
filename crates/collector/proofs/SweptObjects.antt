-- What is left of cells and objects once a heap was cleared and swept: each marked cell stands where it stood, so does
-- each object that can be reached, and none holds more.
use Rattle.std.proofs.Common.{◌≡◌, ℕ, ◌≤◌, inr, false, List, Contains, Some, IsTrue, slice_get}
use Rattle.std.proofs.Common.{refl, sym, ◌∙◌, ap, subst, arith}
use Rattle.std.proofs.lemmas.Bool.{false≢true}
use Rattle.tagged_word.specs.Cells.{is_free_kind, is_object_kind}
use Rattle.object_graph.specs.declared.object.Object.TheVariants as graph_object
use Rattle.object_graph.specs.Graphs.{Graph}
use Rattle.object_graph.specs.Reach.{is_marked, reach}
use Rattle.heap_model.specs.Types.{Object, Cell}
use Rattle.heap_model.specs.Heaps.{Heap, HasCell, words_of_cell}
use Rattle.heap_model.specs.Slots.{IsPlace, IsWeakCellAt}
use Rattle.heap_model.specs.Needs.{capacity_at, count_at}
use Rattle.heap_model.specs.Rooms.{Room, room_at, IsNoFuller, RoomsAreNoFuller}
use Rattle.heap_model.specs.Showing.{Shows}
use Rattle.heap_model.specs.Wholeness.{HasRows}
use Rattle.heap_model.proofs.CellsApart.{cells_apart}
use Rattle.heap_moves.specs.Moved.{IsMoved}
use Rattle.heap_moves.specs.Laws.{IsPlaceMoved}
use Rattle.heap_moves.specs.Standing.{Stays}
use Rattle.heap_moves.proofs.AllStands.{whole_for}
use Rattle.heap_moves.proofs.MovedCells.{origin, place_before, place_moved}
use Rattle.heap_moves.proofs.MovedRooms.{moves_keep_room}
use Rattle.live_cells.specs.Exact.{IsWordOf}
use Rattle.live_cells.specs.Keeping.{StayInPlace}
use Rattle.live_cells.proofs.ReachedMarked.{shown_place}
use Rattle.write_barrier.specs.MutatorState.{Mutator, heap_of}
use Rattle.ephemeron_clear.specs.Clearing.{MarksReached, TakesUnmarked}
use Rattle.sweeper.specs.Swept.{IsOfMarked, place_if_marked}
use Rattle.sweeper.proofs.KeptPlaces.{place_is_kept, place_of_marked}
use Rattle.collector.specs.MarkSwept.{MarkedCellsStay, WasMarked}

-- what is marked stays in its place, and nothing else stays
pub marked_stay : (marked : List ℕ) → StayInPlace marked (place_if_marked marked)
marked_stay marked = record {
  stays = place_of_marked marked;
  goes = λ at now is.
      let kept = place_is_kept marked at now is in
      (sym kept.same, kept.among);
}

-- where marked cells stay, a cell that has a word of one of them is that cell
pub with_marked_word : {old new : Heap} {marked : List ℕ} {cell : Cell} {words : List ℕ}
    → MarkedCellsStay old new marked
    → HasRows new → (at : ℕ) → HasCell new cell words → IsWordOf cell at → IsOfMarked old marked at
    → WasMarked old marked cell
with_marked_word {old} {marked = marked} stay rows at has word is =
    let same = cells_apart at rows (stay is.cell is.words is.has is.among).1 has
    (record { from = is.from; below = is.below }) (record { from = word.from; below = word.below }) in
    record {
      words = is.words;
      had = subst (λ (one : Cell). HasCell old one is.words) same is.has;
      among = subst (λ (one : Cell). Contains marked one.at) same is.among;
    }

-- Pairs were taken out of the tables of weak maps of a heap, and of what was left the marked cells stay in their
-- places.
pub record SweptAfter (old mid : Mutator) (new : Heap) (graph : Graph) (maps marked : List ℕ) : Type 0 where
  pub shown : Shows (heap_of old) graph
  pub takes : TakesUnmarked old mid maps marked
  pub marks : MarksReached (heap_of old) marked graph
  pub moved : IsMoved (heap_of mid) new (place_if_marked marked)
  pub shows : Shows new graph

module _ {old mid : Mutator} {new : Heap} {graph : Graph} {maps marked : List ℕ}
    (after : SweptAfter old mid new graph maps marked) where
  -- each marked cell stands where it stood
  pub marked_cells_stay : MarkedCellsStay (heap_of old) new marked
  marked_cells_stay cell words has among =
      let stood = after.moved.stands cell (words_of_cell (heap_of mid) cell) cell.at
      (after.takes.cells.stays cell words has) (place_of_marked marked cell.at among) in
      (stood.others, stood.has)

  -- and each cell that is not free is one of them
  pub used_were_marked : (cell : Cell) (words : List ℕ) → HasCell new cell words
      → is_free_kind cell.layout.kind ≡ false → WasMarked (heap_of old) marked cell
  used_were_marked cell words has used =
      let from = origin after.moved has (λ free. false≢true (sym used ∙ free)) in
      let kept = place_is_kept marked from.was.at cell.at from.stays in
      let same : from.was ≡ cell = ap (λ (at : ℕ). record from.was { at = at }) kept.same ∙ from.same in
      record {
        words = words_of_cell (heap_of old) cell;
        had = subst (λ (one : Cell). HasCell (heap_of old) one (words_of_cell (heap_of old) one)) same
            (after.takes.cells.stood from.was from.words from.had);
        among = subst (Contains marked) kept.same kept.among;
      }

  -- an object that can be reached does
  reached_stays : (number at : ℕ) → IsTrue (is_marked (reach graph) number) → IsPlace (heap_of old) number at
      → IsPlace new number at
  reached_stays number at reached place =
      place_moved after.moved at ((after.takes.places number at).0 place)
      (place_of_marked marked at (after.marks number at reached place))

  -- what stands stood there once pairs were taken
  stood_between : (number at : ℕ) → IsPlace new number at → IsPlace (heap_of mid) number at × Contains marked at
  stood_between number at place =
      let before = place_before after.moved place in
      let kept = place_is_kept marked before.at at before.stays in
      (subst (IsPlace (heap_of mid) number) kept.same before.place, subst (Contains marked) kept.same kept.among)

  -- and with as much room
  moved_room : (number at : ℕ) → IsPlace new number at → IsPlaceMoved (heap_of mid) new number at at
  moved_room number at place =
      let stood = stood_between number at place in
      moves_keep_room (heap_of mid) new (place_if_marked marked) number at at
      (whole_for (Stays (place_if_marked marked)) after.takes.whole) after.moved stood.0
      (place_of_marked marked at stood.1)

  -- it stood there before
  stood_before : (number at : ℕ) → IsPlace new number at → IsPlace (heap_of old) number at
  stood_before number at place = (after.takes.places number at).1 (stood_between number at place).0

  -- with a store of as many slots, or a table of as many pairs
  same_capacity : (number at : ℕ) → IsPlace new number at → capacity_at new at ≡ capacity_at (heap_of old) at
  same_capacity number at place =
      (moved_room number at place).capacity ∙ after.takes.capacities number at (stood_before number at place)

  -- a weak map's cell is the place of an object
  map_place : {at : ℕ} (there : IsWeakCellAt new at) → IsPlace new there.cell.header.object at
  map_place there = record {
    cell = there.cell;
    words = there.words;
    has = there.has;
    stands = there.stands;
    object = ap is_object_kind there.of_kind;
    carries = refl;
  }

  -- a weak map stood there once pairs were taken
  map_stood : {at : ℕ} → IsWeakCellAt new at → IsWeakCellAt (heap_of mid) at
  map_stood {at} there =
      let from = origin after.moved there.has (λ free. false≢true (sym (ap is_free_kind there.of_kind) ∙ free)) in
      let kept = place_is_kept marked from.was.at there.cell.at from.stays in
      record {
        cell = from.was;
        words = from.words;
        has = from.had;
        stands = kept.same ∙ there.stands;
        of_kind = ap (λ (c : Cell). c.layout.kind) from.same ∙ there.of_kind;
      }

  -- it counts no more entries
  no_more_entries : (at : ℕ) → IsWeakCellAt new at → count_at new at ≤ count_at (heap_of old) at
  no_more_entries at there =
      let mid_there = map_stood there in
      let same =
      (moved_room there.cell.header.object at (map_place there)).count mid_there.cell mid_there.words mid_there.has
      mid_there.stands (inr mid_there.of_kind) in
      let was : IsWeakCellAt (heap_of old) at = record {
        cell = mid_there.cell;
        words = _;
        has = after.takes.cells.stood mid_there.cell mid_there.words mid_there.has;
        stands = mid_there.stands;
        of_kind = mid_there.of_kind;
      } in
      omega (arith, same, after.takes.counts at was)

  -- the room of each kind of object is no fuller
  room_by : (number at : ℕ) (what : Object) → slice_get graph.objects number ≡ Some what
      → IsTrue (is_marked (reach graph) number) → IsPlace new number at
      → IsNoFuller (room_at new at what) (room_at (heap_of old) at what)
  room_by number at (graph_object.Plain cap proto fields) object reached place =
      record { capacity = same_capacity number at place; entries = omega arith }
  room_by number at (graph_object.List elements) object reached place =
      record { capacity = same_capacity number at place; entries = omega arith }
  room_by number at (graph_object.Weak entries) object reached place =
      let shown = after.shows.reached number (graph_object.Weak entries) object reached in
      record {
        capacity = same_capacity number at place;
        entries = no_more_entries at (record {
          cell = shown.cell;
          words = shown.words;
          has = shown.has;
          stands = sym (shown.once at place);
          of_kind = shown.shows.of_kind;
        });
      }

  -- So rooms are.
  pub rooms_no_fuller : RoomsAreNoFuller (heap_of old) new graph
  rooms_no_fuller rooms were number what has had object reached =
      let at : ℕ = (after.shown.reached number what object reached).cell.at in
      let stood = shown_place (reach graph) what (after.shown.reached number what object reached) in
      let place : IsPlace new number at = reached_stays number at reached stood in
      let fuller = room_by number at what object reached place in
      subst (λ (room : Room). IsNoFuller room (were number)) (sym (has number at what object reached place))
      (subst (λ (room : Room). IsNoFuller (room_at new at what) room) (sym (had number at what object reached stood))
      fuller)
