-- What the mutator keeps in its fields.
use Rattle.std.specs.Prelude.{◌≡◌, ◌==◌, true, [], Option, is_some, IfSome, IsSomeAnd}
use Rattle.page_space.specs.Extents.{eden_start}
use Rattle.heap_table.specs.Overviews.{cycle_in, known}
use Rattle.heap_table.specs.Phases.{Quiet, Mark, Paused}
use Rattle.heap_table.specs.Seats.{Seat as TableSeat}
use Rattle.mark_barrier.specs.Paid.{IsPaid}
use Rattle.mark_barrier.specs.Waiting.{HasRoom, IsEmpty, Waiting}
use Rattle.write_barrier.specs.declared.main_side.Main.TheInside.{Inside}
use Rattle.write_barrier.specs.Layouts.{IsUnmarked, ReadLayouts}
use Rattle.write_barrier.specs.MutatorState.{Mutator}
use Rattle.write_barrier.specs.Seats.{told_of}

-- the seat, the field paths, the young generation, the free runs of pages, what is recorded, and the cycle
abbrev pub mutator_of : Inside → Mutator
mutator_of main = record {
  seat = told_of main.seat;
  paths = main.shapes;
  young = main.nursery;
  free = main.free;
  recorded = main.remembered;
  cycle = cycle_in main.seat;
}

-- the seat without its own words
abbrev pub without_words : TableSeat → TableSeat
without_words seat = record seat { table = [] }

-- No cycle is open and none waits: no cell is listed, and none has a colour or is on the board.
pub record IsClean (seat : TableSeat) (list : Option Waiting) : Type 0 where
  pub out : (known seat.shared).out ≡ 0
  pub listed : IfSome list IsEmpty
  pub unmarked : IfSome seat.shared (IsUnmarked (eden_start seat.space))

-- An address is below the bound of what is recorded exactly if it is one of a page. The layout words that helpers read
-- are those of the shapes, and else 0. Colours and board are known exactly while no seat is out. There are lists of
-- grey cells where there is a shared table. While a cycle is open, or waits, they have the grey cells that wait with
-- the mutator, and nothing is owed; else they have none, and no cell has a colour. While a cycle waits colours and
-- board are known.
pub record IsTold (main : Inside) : Type 0 where
  pub bound : main.remembered.bound ≡ eden_start main.seat.space
  pub layouts : ReadLayouts main.seat main.shapes
  pub listed : is_some main.grey ≡ is_some main.seat.shared
  pub lists : IfSome main.grey (λ grey. HasRoom grey (eden_start main.seat.space))
  pub home : (known main.seat.shared).home ≡ ((known main.seat.shared).out == 0)
  pub paid : main.seat.phase ≡ Mark → IsSomeAnd main.grey (IsPaid (without_words main.seat))
  pub paused : main.seat.phase ≡ Paused → IsSomeAnd main.grey (IsPaid (without_words main.seat))
  pub waits : main.seat.phase ≡ Paused → (known main.seat.shared).home ≡ true
  pub clean : main.seat.phase ≡ Quiet → IsClean (without_words main.seat) main.grey
