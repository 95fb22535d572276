-- The seat of the thread that runs commands, as the mutator and those above it see it.
use Rattle.std.specs.Prelude.{◌≡◌, ◌+◌, ◌-◌, ◌==◌, ℕ, Bool, true, false, List, length, replicate}
use Rattle.std.specs.Prelude.{Option, Some, None, option_map}
use Rattle.atomic_table.specs.Seated.{TableId}
use Rattle.page_space.specs.Extents.{Space, marks_start}
use Rattle.core_parts.specs.declared.note.Note.{Note}
use Rattle.heap_table.specs.Phases.{Phase, Quiet, Mark, Paused}
use Rattle.heap_table.specs.Overviews.{known}
use Rattle.heap_table.specs.Seats.{Seat as TableSeat, Beside}

-- What a cycle of marking that waits has beside the heap's words and what is known of the cycle: the colours of cells
-- of pages, the board, the grey cells that wait with the mutator, and the log of its steps on the board.
pub record Marks : Type 0 where
  pub colours : List ℕ
  pub board : List ℕ
  pub grey : List ℕ
  pub log : List Note

-- these, as the seat knows them
abbrev pub marks_by : Beside → Marks
marks_by beside = record {
  colours = beside.colours;
  board = beside.board;
  grey = beside.view.grey;
  log = beside.view.log;
}

-- they are told exactly while a cycle waits
abbrev pub marks_in : Phase → Marks → Option Marks
marks_in Paused marks = Some marks
marks_in Mark marks = None
marks_in Quiet marks = None

-- The regions of the heap, the phase, the words before the marks, and which shared table there is, which helpers read,
-- if there is one. Its words of pages are those of the heap, and its layout words those of the shapes. Then whether its
-- colours and its board are known, how many seats are out, and how many were ever lent. A heap without a shared table
-- is at home, with no seat out. While a cycle waits its marks are told, too. What else the table has is not told.
pub record Seat : Type 0 where
  pub space : Space
  pub phase : Phase
  pub table : List ℕ
  pub shared : Option TableId
  pub home : Bool
  pub out : ℕ
  pub lent : ℕ
  pub marks : Option Marks

-- the words that stand before the marks: pages, eden, segments, roots and layout words; the table has these alone
abbrev pub heap_words : Seat → List ℕ
heap_words seat = seat.table

-- which shared table the seat has, if it has one
abbrev pub table_of : TableSeat → Option TableId
table_of seat = option_map (λ (beside : Beside). beside.id) seat.shared

-- what is told of a seat at the table of a heap's words
abbrev pub told_of : TableSeat → Seat
told_of seat = record {
  space = seat.space;
  phase = seat.phase;
  table = seat.table;
  shared = table_of seat;
  home = (known seat.shared).home;
  out = (known seat.shared).out;
  lent = (known seat.shared).lent;
  marks = marks_in seat.phase (marks_by (known seat.shared));
}

-- all words are 0, the phase is quiet, this is the shared table, if there is one, and no seat was ever lent
abbrev pub fresh : Space → Option TableId → Seat
fresh space shared = record {
  space = space;
  phase = Quiet;
  table = replicate (marks_start space) 0;
  shared = shared;
  home = true;
  out = 0;
  lent = 0;
  marks = None;
}

-- The regions, the phase, how many heap words there are, which shared table there is, its seats, and the marks of a
-- cycle that waits, stay.
pub record RestStays (old new : Seat) : Type 0 where
  pub space : new.space ≡ old.space
  pub phase : new.phase ≡ old.phase
  pub count : length new.table ≡ length old.table
  pub shared : new.shared ≡ old.shared
  pub home : new.home ≡ old.home
  pub out : new.out ≡ old.out
  pub lent : new.lent ≡ old.lent
  pub marks : new.marks ≡ old.marks

-- one seat more is out, so colours and board are not known
abbrev pub seat_lent : Seat → Seat
seat_lent seat = record seat { home = false; out = seat.out + 1; lent = seat.lent + 1 }

-- one seat fewer is out, and colours and board are known if it was the last one
abbrev pub seat_back : Seat → Seat
seat_back seat = record seat { home = seat.out == 1; out = seat.out - 1 }
