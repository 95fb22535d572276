-- What a seat knows of the shared table: the words of the pages are its own, in each phase.
use Rattle.std.specs.Prelude.{ℕ, List, [], take, slice_set, Option, Some, None}
use Rattle.atomic_table.specs.Seated.{TableId}
use Rattle.page_space.specs.Extents.{eden_start}
use Rattle.mark_laws.specs.Types.{Event}
use Rattle.mark_world.specs.Cycles.{Cycle, cycle_of}
use Rattle.shared_table.specs.declared.overview.Overview.{Overview}
use Rattle.shared_table.specs.Changes.{MayDo, told}
use Rattle.shared_table.specs.Worlds.{beginning, no_counts, no_cycle}
use Rattle.heap_table.specs.Seats.{Beside, Seat, beside_in}

-- the name of no table
abbrev pub no_table : TableId
no_table = record { words = 0; slots = 0; views_name = 0; atom = 0; block = 0; offset = 0; slot_names = [] }

-- what is known besides; nothing where there is no shared table
abbrev pub known : Option Beside → Beside
known (Some beside) = beside
known None = beside_in no_table (beginning no_counts)

-- what the seat knows of the shared table
abbrev pub overview : Seat → Overview
overview seat = record {
  phase = seat.phase;
  home = (known seat.shared).home;
  old = eden_start seat.space;
  words = take (eden_start seat.space) seat.table;
  layouts = (known seat.shared).layouts;
  colours = (known seat.shared).colours;
  board = (known seat.shared).board;
  view = (known seat.shared).view;
  reached = (known seat.shared).reached;
  made = (known seat.shared).made;
  dead = (known seat.shared).dead;
  out = (known seat.shared).out;
  lent = (known seat.shared).lent;
}

-- What commands know of the cycle that the seat is in. Where there is no shared table no cycle is ever open.
abbrev pub cycle_in : Seat → Cycle
cycle_in seat =
    cycle_of (overview seat).view (overview seat).reached (overview seat).made (overview seat).dead

-- what they know before any cycle is opened
abbrev pub unopened : Cycle
unopened = cycle_of no_cycle [] 0 []

-- the seat with these words of its own, and with this knowledge of the shared table
abbrev pub knowing : Seat → List ℕ → Overview → Seat
knowing seat table main =
    record seat { phase = main.phase; table = table; shared = Some (beside_in (known seat.shared).id main) }

-- the mutator may make the step
abbrev pub MayStep : Seat → Event → Type 0
MayStep seat of = MayDo (overview seat) of

-- the seat after a step that changes none of its own words, by the word found
abbrev pub stepped : Seat → Event → ℕ → Seat
stepped seat of found = knowing seat seat.table (told (overview seat) of found)

-- the seat after a step that stores a word, which goes to its own words at an address
abbrev pub stored : Seat → Event → ℕ → ℕ → Seat
stored seat of a word = knowing seat (slice_set seat.table a word) (told (overview seat) of word)
