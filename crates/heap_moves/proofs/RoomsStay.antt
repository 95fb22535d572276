-- The rooms of a graph's objects are the same in a moved heap.
use Rattle.std.proofs.Common.{◌≡◌, ℕ, inr, Bool, List, sym, ◌∙◌, ap}
use Rattle.heap_model.specs.Types.{Object}
use Rattle.object_graph.specs.declared.object.Object.TheVariants.{Plain, Weak, List as ListOf}
use Rattle.heap_model.specs.Heaps.{Heap}
use Rattle.heap_model.specs.Slots.{IsPlace}
use Rattle.heap_model.specs.Showing.{ShowsReached}
use Rattle.heap_model.specs.Rooms.{room_at}
use Rattle.heap_moves.specs.Laws.{IsPlaceMoved, MovesKeepRooms}
use Rattle.heap_moves.proofs.MovedCells.{place_before}
use Rattle.heap_moves.proofs.MovedReach.{reached_stays}
use Rattle.heap_moves.proofs.MovedRooms.{moves_keep_room}

-- an object that is shown has its room where it stands
room_stays : {old new : Heap} {number at now : ℕ} (marks : List Bool) (what : Object)
    → ShowsReached old marks number what → IsPlace old number at → IsPlaceMoved old new number at now
    → room_at new now what ≡ room_at old at what
room_stays marks (Plain cap proto fields) shown place moved =
    ap (λ n. record { capacity = n; entries = 0 }) moved.capacity
room_stays marks (ListOf elements) shown place moved = ap (λ n. record { capacity = n; entries = 0 }) moved.capacity
room_stays {at = at} marks (Weak entries) shown place moved =
    let count = moved.count shown.cell shown.words shown.has (sym (shown.once at place)) (inr shown.shows.of_kind) in
    λ i. record { capacity = moved.capacity i; entries = count i }

-- so the rooms are the same
pub moves_keep_rooms : MovesKeepRooms
moves_keep_rooms old new to graph rooms shows moved = (
  λ has number now what there marked place.
      let before = place_before moved place in
      let one = moves_keep_room old new to number before.at now shows.whole moved before.place before.stays in
      has number before.at what there marked before.place
      ∙ sym (room_stays _ what (shows.reached number what there marked) before.place one),
  λ has number at what there marked place.
      let stays = reached_stays moved shows number at marked place in
      let one = moves_keep_room old new to number at stays.0 shows.whole moved place stays.1 in
      has number stays.0 what there marked one.place
      ∙ room_stays _ what (shows.reached number what there marked) place one,
)
