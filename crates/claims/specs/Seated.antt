-- What a table of places and its seats keep in their fields.
use Rattle.std.specs.Prelude.{◌≡◌, ◌+◌, []}
use Rattle.claims.specs.declared.rule.Claims.TheInside as places
use Rattle.claims.specs.declared.owner.Owner.TheInside as owner
use Rattle.claims.specs.declared.seat.ClaimSeat.TheInside as seat
use Rattle.claims.specs.declared.view.View.TheVariants.{Owning, Lent}
use Rattle.claims.specs.Changes.{owner_of, seat_of}
use Rattle.claims.specs.Sides.{PlacesSide, OwnerSide, SeatSide}

-- which table it is, and how many places it has
abbrev pub places_of : places.Inside → PlacesSide
places_of claims = record { table = claims.table.shared.table_id; places = claims.table.shared.key }

-- the table has a word for each place, and one more
abbrev pub IsSized : places.Inside → Type 0
IsSized claims = claims.table.shared.table_id.words ≡ claims.table.shared.key + 1

-- what the owner knows
abbrev pub owner_side : owner.Inside → OwnerSide
owner_side owner = record {
  table = owner.seat.table_id;
  round = (owner_of owner.seat.me.0).round;
  out = (owner_of owner.seat.me.0).out;
  made = (owner_of owner.seat.me.0).made;
  seen = (owner_of owner.seat.me.0).seen;
}

-- the seat is the main one of its table; the round and the number of seats out are those of its view
pub record IsOwning (owner : owner.Inside) : Type 0 where
  pub id : owner.seat.id ≡ 0
  pub me : owner.seat.me ≡ (Owning (owner_of owner.seat.me.0), [])
  pub round : (owner_of owner.seat.me.0).round ≡ owner.round
  pub out : (owner_of owner.seat.me.0).out ≡ owner.out

-- what a lent seat knows
abbrev pub seat_side : seat.Inside → SeatSide
seat_side seat = record {
  table = seat.seat.table_id;
  round = (seat_of seat.seat.me.0).round;
  made = (seat_of seat.seat.me.0).made;
  seen = (seat_of seat.seat.me.0).seen;
}

-- the seat is one that was lent; its round is that of its view
pub record IsClaiming (seat : seat.Inside) : Type 0 where
  pub me : seat.seat.me ≡ (Lent (seat_of seat.seat.me.0), [])
  pub round : (seat_of seat.seat.me.0).round ≡ seat.round
