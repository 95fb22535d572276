-- What a main seat keeps in its fields.
use Rattle.std.specs.Prelude.{Option, Some, None, IfSome}
use Rattle.shared_table.specs.declared.phase.Phase.{Phase}
use Rattle.shared_table.specs.declared.phase.Phase.TheVariants.{Quiet}
use Rattle.shared_table.specs.Seats.{Side}
use Rattle.heap_table.specs.declared.main_seat.MainSeat.TheInside.{Inside}
use Rattle.heap_table.specs.Seats.{Beside, Seat, beside_in}
use Rattle.heap_table.specs.Sharing.{Agrees}

-- the phase is that of the shared table; where there is none, no cycle is ever open
abbrev pub phase_in : Option Side → Phase
phase_in (Some side) = side.main.phase
phase_in None = Quiet

-- what is known of the shared table besides
abbrev pub besides : Option Side → Option Beside
besides (Some side) = Some (beside_in side.table side.main)
besides None = None

-- the regions, the phase, the words, and what is known of the shared table
abbrev pub seat_of : Inside → Seat
seat_of seat = record {
  space = seat.own.space;
  phase = phase_in seat.shared;
  table = seat.own.words;
  shared = besides seat.shared;
}

-- the shared table agrees with the own words, in each phase
pub record IsSeated (seat : Inside) : Type 0 where
  pub agrees : IfSome seat.shared (λ side. Agrees seat.own side.main)
