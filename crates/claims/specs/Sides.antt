-- What a table of places and the seats at it are to their callers, and what their calls make of that.
use Rattle.std.specs.Prelude.{ℕ, ◌+◌, ◌-◌, List, [], ◌∷◌, ◌++◌, Option, Some, None, Result, Ok, Err}
use Rattle.atomic_table.specs.Seated.{TableId}
use Rattle.claims.specs.declared.view.Claim.{Claim}
use Rattle.claims.specs.Claimed.{claim_of, together}

-- a table of places: which one it is, and how many it has
pub record PlacesSide : Type 0 where
  pub table : TableId
  pub places : ℕ

-- The owner: its table, the round, how many seats are out, what each seat claimed that was taken back in this round,
-- and what these saw.
pub record OwnerSide : Type 0 where
  pub table : TableId
  pub round : ℕ
  pub out : ℕ
  pub made : List (List Claim)
  pub seen : List Claim

-- a seat that was lent: its table, its round, what it claimed, in order, and the claims that it saw, its own among
-- them, or that the owner knew of when it lent the seat
pub record SeatSide : Type 0 where
  pub table : TableId
  pub round : ℕ
  pub made : List Claim
  pub seen : List Claim

-- a new round has begun
abbrev pub next_round : OwnerSide → OwnerSide
next_round owner = record owner { round = owner.round + 1; made = []; seen = [] }

-- one seat more is out
abbrev pub lending : OwnerSide → OwnerSide
lending owner = record owner { out = owner.out + 1 }

-- the seat that was lent: it has claimed nothing, and has seen what was claimed, and what was seen, by the seats that
-- were taken back before
abbrev pub lent_by : OwnerSide → SeatSide
lent_by owner = record {
  table = owner.table;
  round = owner.round;
  made = [];
  seen = owner.seen ++ together owner.made;
}

-- a seat was taken back
abbrev pub taking : OwnerSide → SeatSide → OwnerSide
taking owner seat = record owner {
  out = owner.out - 1;
  made = owner.made ++ seat.made ∷ [];
  seen = owner.seen ++ seat.seen;
}

-- a seat saw a claim
abbrev pub saw : SeatSide → Claim → SeatSide
saw seat claim = record seat { seen = seat.seen ++ claim ∷ [] }

-- a seat made a claim, which it saw so
abbrev pub won : SeatSide → Claim → SeatSide
won seat claim = record seat { made = seat.made ++ claim ∷ []; seen = seat.seen ++ claim ∷ [] }

-- a seat looked at a place, by the result
abbrev pub looked : SeatSide → ℕ → Option ℕ → SeatSide
looked seat place None = seat
looked seat place (Some value) = saw seat (claim_of place value)

-- a seat tried to claim a place for a value, by the result
abbrev pub claimed : SeatSide → ℕ → ℕ → Result Unit ℕ → SeatSide
claimed seat place value (Ok done) = won seat (claim_of place value)
claimed seat place value (Err was) = saw seat (claim_of place was)
