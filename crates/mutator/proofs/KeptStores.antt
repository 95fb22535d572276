-- Which rooms objects have after a command that leaves them, or changes one of them.
use Rattle.std.proofs.Common.{◌≡◌, ◌≢◌, ℕ, suc, ◌<◌, List, [], inl, inr, Some}
use Rattle.std.proofs.Common.{IsTrue, slice_get, refl, cond, sym, ◌∙◌, ap, subst, arith, eq-eqb}
use Rattle.std.specs.Prelude.{slice_set}
use Rattle.std.proofs.lemmas.Bool.{cases_eq, ne_eqb}
use Rattle.std.proofs.lemmas.Option.{slice_get_within, same_Some}
use Rattle.heap_model.specs.Types.{Command, Object, Entry, Cell, Held}
use Rattle.object_graph.specs.declared.object.Object.TheVariants.{Plain, Weak, List as ListOf}
use Rattle.object_graph.specs.Graphs.{Graph}
use Rattle.object_graph.specs.Reach.{is_marked, reach}
use Rattle.object_graph.proofs.Lists.{slice_get-set_same, slice_get-set_other}
use Rattle.heap_model.specs.Heaps.{Heap, HasCell}
use Rattle.tagged_word.specs.Cells.{is_object_kind}
use Rattle.heap_model.specs.Slots.{IsPlace}
use Rattle.heap_model.specs.Wholeness.{Whole}
use Rattle.heap_model.specs.Needs.{capacity_at, count_at}
use Rattle.heap_model.specs.Rooms.{Room, room_at, HasRooms, with_room, rooms_after}
use Rattle.heap_model.specs.Laws.{ReachesNoMore, bound}
use Rattle.heap_model.proofs.BoundHeaps.{none_in, bound_keeps, bound_moves}
use Rattle.heap_model.proofs.CountsStay.{place_of, count_stays}
use Rattle.heap_model.proofs.CellOutcomes.{CellsMove, places_stay}
use Rattle.heap_model.proofs.PlacesBefore.{place_before}
use Rattle.heap_model.proofs.ShownObjects.{object_of_shown}
use Rattle.write_barrier.specs.MutatorState.{Mutator, heap_of, MainShows}
use Rattle.object_cells.specs.Capacities.{ChangesObject}
use Rattle.object_cells.proofs.KeptCapacities.{kept_where_none_went}
use Rattle.mutator.specs.Capacities.{KeepsStores}
use Rattle.mutator.proofs.SameHeld.{one_address, one_number}

-- each object stands where it stood
abbrev pub PlacesStay : Heap → Heap → Type 0
PlacesStay old new = (number at : ℕ) → IsPlace old number at → IsPlace new number at

-- an object's cell that stands at the address stands there with the same words
abbrev pub CellStands : Heap → Heap → ℕ → Type 0
CellStands old new at =
    (cell : Cell) (words : List ℕ) → HasCell old cell words → IsTrue (is_object_kind cell.layout.kind) → cell.at ≡ at
    → HasCell new cell words

-- A heap that showed a graph, of which objects had these rooms, shows another one, and each object stands where it
-- stood.
pub record IsAfter (old new : Mutator) (graph after : Graph) (rooms : ℕ → Room) : Type 0 where
  pub shows : MainShows old graph
  pub shown : MainShows new after
  pub has : HasRooms (heap_of old) graph rooms
  pub stays : PlacesStay (heap_of old) (heap_of new)

-- an object that is in both graphs and can be reached in both
pub record InBoth (graph after : Graph) (number : ℕ) (what : Object) : Type 0 where
  pub was : slice_get graph.objects number ≡ Some what
  pub marked_was : IsTrue (is_marked (reach graph) number)
  pub is : slice_get after.objects number ≡ Some what
  pub marked : IsTrue (is_marked (reach after) number)

-- its place is the one that it had
pub stood : {old new : Mutator} {graph after : Graph} {rooms : ℕ → Room} (number at : ℕ) (what : Object)
    → IsAfter old new graph after rooms → InBoth graph after number what → IsPlace (heap_of new) number at
    → IsPlace (heap_of old) number at
stood {old} {graph = graph} number at what one both place =
    let was = one.shows.shows.reached number what both.was both.marked_was in
    let object = object_of_shown (heap_of old) (reach graph) was.cell was.words what was.shows in
    let before : IsPlace (heap_of old) number was.cell.at = place_of was.has object was.carries in
    let once = (one.shown.shows.reached number what both.is both.marked).once in
    subst (IsPlace (heap_of old) number) (once was.cell.at (one.stays number was.cell.at before) ∙ sym (once at place))
    before

-- a weak map has as many pairs filled as before, where its cell stands with the same words
pairs_stay : {old new : Mutator} {graph after : Graph} {rooms : ℕ → Room} (number at : ℕ) (entries : List Entry)
    → IsAfter old new graph after rooms → InBoth graph after number (Weak entries) → IsPlace (heap_of old) number at
    → CellStands (heap_of old) (heap_of new) at → count_at (heap_of new) at ≡ count_at (heap_of old) at
pairs_stay {old} {new} number at entries one both was stands =
    let shown = one.shows.shows.reached number (Weak entries) both.was both.marked_was in
    let object : IsTrue (is_object_kind shown.cell.layout.kind) = ap is_object_kind shown.shows.of_kind in
    let same : shown.cell.at ≡ at = sym (shown.once at was) in
    subst (λ a. count_at (heap_of new) a ≡ count_at (heap_of old) a) same
    (count_stays shown.has (stands shown.cell shown.words shown.has object same) shown.shows.of_kind)

-- and an object has the room that it had, where it keeps its capacity
pub room_stays : {old new : Mutator} {graph after : Graph} {rooms : ℕ → Room} (number at : ℕ) (what : Object)
    → IsAfter old new graph after rooms → InBoth graph after number what → IsPlace (heap_of old) number at
    → CellStands (heap_of old) (heap_of new) at → capacity_at (heap_of new) at ≡ capacity_at (heap_of old) at
    → room_at (heap_of new) at what ≡ room_at (heap_of old) at what
room_stays number at (Plain cap proto fields) one both was stands keeps =
    ap (λ n. record { capacity = n; entries = 0 }) keeps
room_stays number at (ListOf elements) one both was stands keeps =
    ap (λ n. record { capacity = n; entries = 0 }) keeps
room_stays number at (Weak entries) one both was stands keeps =
    let counts = pairs_stay number at entries one both was stands in
    λ i. record { capacity = keeps i; entries = counts i }

-- A command that leaves all objects as they are, and their cells and stores, leaves all rooms.
pub keeps_all : {old new : Mutator} {graph after : Graph} {rooms : ℕ → Room} (command : Command)
    → IsAfter old new graph after rooms → ReachesNoMore graph after → after.objects ≡ graph.objects
    → ((number : ℕ) → rooms_after graph rooms command number ≡ rooms number)
    → ((at : ℕ) → CellStands (heap_of old) (heap_of new) at)
    → ((number at : ℕ) → IsPlace (heap_of old) number at → capacity_at (heap_of new) at ≡ capacity_at (heap_of old) at)
    → ((number at : ℕ) → IsPlace (heap_of new) number at → IsPlace (heap_of old) number at)
    → KeepsStores (heap_of old) (heap_of new) graph after command rooms
keeps_all {old} {new} {graph} {after} {rooms} command one fewer same rooms_stay stand capacities none_made = record {
  has = λ number at what there marked place.
      let was = ap (λ objects. slice_get objects number) (sym same) ∙ there in
      let both : InBoth graph after number what =
      record { was = was; marked_was = fewer number marked; is = there; marked = marked } in
      let before = stood number at what one both place in
      rooms_stay number ∙ one.has number at what was both.marked_was before
      ∙ sym (room_stays number at what one both before (stand at) (capacities number at before));
  stays = one.stays;
  others = λ number at place same_room. capacities number at place;
  made = λ number at place apart. absurd (apart (none_made number at place));
}

-- The object of this number, which stands at the address, was changed: it came to be this one, with this room.
pub record ChangesOne (old new : Mutator) (graph after : Graph) (rooms : ℕ → Room) (command : Command) (of at : ℕ)
    (was now : Object) (room : Room) : Type 0 where
  pub there : slice_get graph.objects of ≡ Some was
  pub reached : IsTrue (is_marked (reach graph) of)
  pub place : IsPlace (heap_of old) of at
  pub objects : after.objects ≡ slice_set graph.objects of now
  pub becomes : rooms_after graph rooms command of ≡ room
  pub others : (number : ℕ) → number ≢ of → rooms_after graph rooms command number ≡ rooms number
  pub own : slice_get after.objects of ≡ Some now → IsTrue (is_marked (reach after) of)
      → IsPlace (heap_of new) of at → room ≡ room_at (heap_of new) at now
  pub from : ℕ
  pub to : ℕ
  pub changes : ChangesObject (heap_of old) (heap_of new) from to at room.capacity

-- Then all other objects keep their rooms.
pub keeps_others : {old new : Mutator} {graph after : Graph} {rooms : ℕ → Room} (command : Command) (of at : ℕ)
    (was now : Object) (room : Room) → IsAfter old new graph after rooms → ReachesNoMore graph after
    → ChangesOne old new graph after rooms command of at was now room
    → KeepsStores (heap_of old) (heap_of new) graph after command rooms
keeps_others {old} {new} {graph} {after} {rooms} command of at was now room one fewer is = record {
  has = λ number other what there marked place.
      elim (cases_eq number of) [
        | inl same ↦
            let it_is : slice_get after.objects of ≡ Some now =
            ap (λ objects. slice_get objects of) is.objects
            ∙ slice_get-set_same graph.objects of now (slice_get_within graph.objects of was is.there) in
            let what_is : now ≡ what =
            same_Some now what (sym it_is ∙ ap (slice_get after.objects) (sym same) ∙ there) in
            let marked_of = subst (λ n. IsTrue (is_marked (reach after) n)) same marked in
            let once = (one.shown.shows.reached of now it_is marked_of).once in
            let stands : at ≡ other =
            once at (one.stays of at is.place)
            ∙ sym (once other (subst (λ n. IsPlace (heap_of new) n other) same place)) in
            ap (rooms_after graph rooms command) same ∙ is.becomes
            ∙ is.own it_is marked_of (one.stays of at is.place) ∙ ap (λ a. room_at (heap_of new) a now) stands
            ∙ ap (room_at (heap_of new) other) what_is
        | inr apart ↦
            let there_was : slice_get graph.objects number ≡ Some what =
            sym (slice_get-set_other graph.objects of number now apart)
            ∙ ap (λ objects. slice_get objects number) (sym is.objects) ∙ there in
            let both : InBoth graph after number what =
            record { was = there_was; marked_was = fewer number marked; is = there; marked = marked } in
            let before = stood number other what one both place in
            let elsewhere : other ≢ at = λ same. apart (one_number number of other at before is.place same) in
            is.others number apart ∙ one.has number other what there_was both.marked_was before
            ∙ sym (room_stays number other what one both before
            (λ cell words has object here. is.changes.stand cell words has object (λ same. elsewhere (sym here ∙ same)))
            (is.changes.others number other before elsewhere))
      ];
  stays = one.stays;
  others = λ number other place same_room.
      elim (cases_eq number of) [
        | inl same ↦
            let stands : at ≡ other = one_address of number at other one.shows is.reached is.place place (sym same) in
            let keeps : room ≡ room_at (heap_of old) at was =
            sym is.becomes ∙ ap (rooms_after graph rooms command) (sym same) ∙ same_room ∙ ap rooms same
            ∙ one.has of at was is.there is.reached is.place in
            subst (λ a. capacity_at (heap_of new) a ≡ capacity_at (heap_of old) a) stands
            (is.changes.own ∙ ap (λ (r : Room). r.capacity) keeps)
        | inr apart ↦
            is.changes.others number other place
            (λ same. apart (one_number number of other at place is.place same))
      ];
  made = λ number other place apart. absurd (apart (is.changes.none_made number other place));
}

-- with another room of one object, that one has it
pub with_room-same : (rooms : ℕ → Room) (number : ℕ) (room : Room) → with_room rooms number room number ≡ room
with_room-same rooms number room = ap (λ t. cond t room (rooms number)) (eq-eqb number number refl)

-- and the others have theirs
pub with_room-other : (rooms : ℕ → Room) (number : ℕ) (room : Room) (other : ℕ) → other ≢ number
    → with_room rooms number room other ≡ rooms other
with_room-other rooms number room other apart =
    ap (λ t. cond t room (rooms other)) (ne_eqb other number apart)

-- a place stays where no cell went
pub none_went : {old new : Heap} {made : List Cell} (number at : ℕ) → CellsMove old new [] [] made
    → IsPlace old number at → IsPlace new number at
none_went number at cells place = places_stay cells (λ cell there. absurd (none_in cell there)) number at place

-- an object stood where no cell changed but the roots
pub stood_before : {heap : Heap} {number at : ℕ} (x : ℕ) (one : Held) → x < heap.space.variables → Whole heap
    → IsPlace (bound heap x one) number at → IsPlace heap number at
stood_before {heap} {number} x one below whole place =
    place_before (suc number) (bound_moves heap x one below whole) (λ cell there. absurd (none_in cell there))
    (omega arith) place

-- rooms stay where nothing has changed
pub keeps_still : {old new : Mutator} {graph after : Graph} {rooms : ℕ → Room} (command : Command) → new ≡ old
    → MainShows old graph → MainShows new after → HasRooms (heap_of old) graph rooms → ReachesNoMore graph after
    → after.objects ≡ graph.objects → ((number : ℕ) → rooms_after graph rooms command number ≡ rooms number)
    → KeepsStores (heap_of old) (heap_of new) graph after command rooms
keeps_still command same shows shown has fewer objects rooms_stay =
    keeps_all command (record {
      shows = shows;
      shown = shown;
      has = has;
      stays = λ number at place. subst (λ (main : Mutator). IsPlace (heap_of main) number at) (sym same) place;
    }) fewer objects rooms_stay
    (λ at cell words has object here. subst (λ (main : Mutator). HasCell (heap_of main) cell words) (sym same) has)
    (λ number at place. ap (λ (main : Mutator). capacity_at (heap_of main) at) same)
    (λ number at place. subst (λ (main : Mutator). IsPlace (heap_of main) number at) same place)

-- and where a variable was bound anew
pub keeps_bound : {old new : Mutator} {graph after : Graph} {rooms : ℕ → Room} (command : Command) (x : ℕ) (one : Held)
    → x < old.seat.space.variables → heap_of new ≡ bound (heap_of old) x one
    → MainShows old graph → MainShows new after → HasRooms (heap_of old) graph rooms → ReachesNoMore graph after
    → after.objects ≡ graph.objects → ((number : ℕ) → rooms_after graph rooms command number ≡ rooms number)
    → KeepsStores (heap_of old) (heap_of new) graph after command rooms
keeps_bound {old} command x one below is shows shown has fewer objects rooms_stay =
    let whole = shows.shows.whole in
    let cells = (bound_moves (heap_of old) x one below whole).cells in
    keeps_all command (record {
      shows = shows;
      shown = shown;
      has = has;
      stays = λ number at place. subst (λ heap. IsPlace heap number at) (sym is) (none_went number at cells place);
    }) fewer objects rooms_stay
    (λ at cell words has object here. subst (λ heap. HasCell heap cell words) (sym is)
    (bound_keeps (heap_of old) x one below whole has))
    (λ number at place. ap (λ heap. capacity_at heap at) is ∙ kept_where_none_went at whole cells place)
    (λ number at place. stood_before x one below whole (subst (λ heap. IsPlace heap number at) is place))
