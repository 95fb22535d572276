-- What a marker is to its callers, and what it keeps in its fields.
use Rattle.std.specs.Prelude.{◌≡◌, ℕ, ◌<◌, Option, Some, None, IfSome}
use Rattle.std.specs.Arc.{arc_value}
use Rattle.atomic_table.specs.Seated.{TableId}
use Rattle.page_space.specs.Extents.{board_words}
use Rattle.cell_list.specs.Listing.{Listing}
use Rattle.shared_table.specs.Seats.{Helping}
use Rattle.marker.specs.declared.markers.Marker.TheInside.{Inside}
use Rattle.marker.specs.declared.marking.Outcome.{Outcome}
use Rattle.marker.specs.Marking.{IsMarked}
use Rattle.marker.specs.Resting.{Rests, StaysAt}

-- a marker: its table, its seat if it has one, and the list of cells that wait with it
pub record Marking : Type 0 where
  pub table : TableId
  pub seat : Option Helping
  pub listing : Listing

abbrev pub marking_of : Inside → Marking
marking_of marker = record {
  table = (arc_value marker.table).table.shared.table_id;
  seat = marker.seat;
  listing = marker.room.list;
}

-- a seat is of this table, and rests with this list
pub record Sits (table : TableId) (listing : Listing) (seat : Helping) : Type 0 where
  pub own : seat.table ≡ table
  pub rests : Rests listing seat.lent

-- The place that it looks at next is on the board, and its seat is of its table and rests with its list.
pub record IsMarker (marker : Inside) : Type 0 where
  pub place : marker.room.place < board_words
  pub sits : IfSome marker.seat (Sits (arc_value marker.table).table.shared.table_id marker.room.list)

-- A marker with a seat has made a run of turns, of which its seat's log tells, and rests. Its list has the same room.
pub record Marks (before after : Marking) (turns : ℕ) (outcome : Outcome) : Type 0 where
  pub seat : Helping
  pub had : before.seat ≡ Some seat
  pub later : Helping
  pub has : after.seat ≡ Some later
  pub table : after.table ≡ before.table
  pub stays : StaysAt seat later
  pub rests : Rests after.listing later.lent
  pub bound : after.listing.bound ≡ before.listing.bound
  pub marked : IsMarked seat.lent.view.log later.lent.view.log after.listing.addresses turns outcome

-- a marker without a seat does nothing
abbrev pub HasMarked : Marking → Marking → ℕ → Option Outcome → Type 0
HasMarked before after turns None = (before.seat ≡ None) × (after ≡ before)
HasMarked before after turns (Some outcome) = Marks before after turns outcome
