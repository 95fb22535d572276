-- The objects of a graph that a heap shows have rooms: each that of its one place.
use Rattle.std.proofs.Common.{◌≡◌, ℕ, Bool, true, false, Option, Some, None, IsTrue, slice_get, refl, sym, ◌∙◌, ap}
use Rattle.std.proofs.lemmas.Bool.{false≢true}
use Rattle.std.proofs.lemmas.Option.{none-some, same_Some}
use Rattle.heap_model.specs.Types.{Object}
use Rattle.object_graph.specs.Graphs.{Graph}
use Rattle.object_graph.specs.Reach.{is_marked, reach}
use Rattle.heap_model.specs.Heaps.{Heap}
use Rattle.heap_model.specs.Slots.{IsPlace}
use Rattle.heap_model.specs.Showing.{Shows}
use Rattle.heap_model.specs.Rooms.{Room, bare_room, room_at, ShownObjectsHaveRooms}

-- the room of one object, if it is there and can be reached
record HasRoomOf (heap : Heap) (graph : Graph) (number : ℕ) : Type 0 where
  room : Room
  is : (at : ℕ) (what : Object) → slice_get graph.objects number ≡ Some what
      → IsTrue (is_marked (reach graph) number) → IsPlace heap number at → room ≡ room_at heap at what

-- it is that of the place, by whether the object is there and marked
room_found : (heap : Heap) (graph : Graph) (number : ℕ) (found : Option Object) (marked : Bool) → Shows heap graph
    → slice_get graph.objects number ≡ found → is_marked (reach graph) number ≡ marked → HasRoomOf heap graph number
room_found heap graph number None marked shows there is = record {
  room = bare_room;
  is = λ at what found reached place. absurd (none-some what (sym there ∙ found));
}
room_found heap graph number (Some one) false shows there is = record {
  room = bare_room;
  is = λ at what found reached place. absurd (false≢true (sym is ∙ reached));
}
room_found heap graph number (Some one) true shows there is =
    let shown = shows.reached number one there is in
    record {
      room = room_at heap shown.cell.at one;
      is = λ at what found reached place.
          ap (λ (a : ℕ). room_at heap a one) (sym (shown.once at place))
          ∙ ap (room_at heap at) (same_Some one what (sym there ∙ found));
    }

-- so each object has its room
room_of : (heap : Heap) (graph : Graph) (number : ℕ) → Shows heap graph → HasRoomOf heap graph number
room_of heap graph number shows =
    room_found heap graph number (slice_get graph.objects number) (is_marked (reach graph) number) shows refl refl

-- and they have rooms
pub shown_objects_have_rooms : ShownObjectsHaveRooms
shown_objects_have_rooms heap graph shows =
    (λ number. (room_of heap graph number shows).room, λ number. (room_of heap graph number shows).is)
