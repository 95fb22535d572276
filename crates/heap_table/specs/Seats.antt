-- What a seat at the table of words knows.
use Rattle.std.specs.Prelude.{◌≡◌, ℕ, ◌+◌, Bool, true, false, List, length, replicate, slice_set}
use Rattle.std.specs.Prelude.{Option, Some, None, option_map}
use Rattle.tagged_word.specs.Shapes.{shapes_most}
use Rattle.atomic_table.specs.Seated.{TableId}
use Rattle.page_space.specs.Extents.{Space, eden_start, layouts_start, marks_start}
use Rattle.mark_laws.specs.Types.{MainView}
use Rattle.shared_table.specs.declared.overview.Counts.{Counts}
use Rattle.shared_table.specs.declared.overview.Overview.{Overview}
use Rattle.shared_table.specs.declared.phase.Phase.{Phase}
use Rattle.shared_table.specs.declared.phase.Phase.TheVariants.{Quiet}
use Rattle.shared_table.specs.Owned.{Own}
use Rattle.shared_table.specs.Worlds.{beginning}

-- What the seat knows of the shared table that its own words do not say: which table it is; the layout words that
-- helpers read; whether colours and board are known, and these; the mutator's view of the open cycle, and what was
-- found at its opening; how many seats are out, and how many were ever lent.
pub record Beside : Type 0 where
  pub id : TableId
  pub layouts : List ℕ
  pub home : Bool
  pub colours : List ℕ
  pub board : List ℕ
  pub view : MainView
  pub reached : List ℕ
  pub made : ℕ
  pub dead : List ℕ
  pub out : ℕ
  pub lent : ℕ

-- the regions of the heap, the phase, the words of the seat, and what it knows of the shared table, where there is one
pub record Seat : Type 0 where
  pub space : Space
  pub phase : Phase
  pub table : List ℕ
  pub shared : Option Beside

-- the words that stand before the marks: pages, eden, segments, roots and layout words; the table has these alone
abbrev pub heap_words : Seat → List ℕ
heap_words seat = seat.table

-- the regions, and these words
abbrev pub own_in : Seat → Own
own_in seat = record { space = seat.space; words = seat.table }

-- what an overview says that own words do not
abbrev pub beside_in : TableId → Overview → Beside
beside_in id main = record {
  id = id;
  layouts = main.layouts;
  home = main.home;
  colours = main.colours;
  board = main.board;
  view = main.view;
  reached = main.reached;
  made = main.made;
  dead = main.dead;
  out = main.out;
  lent = main.lent;
}

-- all words are 0, the phase is quiet, and there is no shared table
abbrev pub fresh : Space → Seat
fresh space = record { space = space; phase = Quiet; table = replicate (marks_start space) 0; shared = None }

-- how many words the pages have, and how many layout words there are
abbrev pub counts_of : Space → Counts
counts_of space = record { old = eden_start space; shapes = shapes_most }

-- A seat that was just opened: all words are 0, in the shared table too, where one was asked for.
abbrev pub IsFresh : Space → Bool → Seat → Type 0
IsFresh space false seat = seat ≡ fresh space
IsFresh space true seat =
    (id : TableId) × (seat ≡ record (fresh space) { shared = Some (beside_in id (beginning (counts_of space))) })

-- what the seat knows with the layout word of a shape put among those that helpers read
abbrev pub with_read_layout : ℕ → ℕ → Beside → Beside
with_read_layout shape word beside = record beside { layouts = slice_set beside.layouts shape word }

-- the layout word of a shape is put among the own words, and among those that helpers read, where there are any
abbrev pub with_layout : Seat → ℕ → ℕ → Seat
with_layout seat shape word = record seat {
  table = slice_set seat.table (layouts_start seat.space + shape) word;
  shared = option_map (with_read_layout shape word) seat.shared;
}

-- The regions, the phase, how many heap words there are, and what is known of the shared table, stay.
pub record RestStays (old new : Seat) : Type 0 where
  pub space : new.space ≡ old.space
  pub phase : new.phase ≡ old.phase
  pub count : length new.table ≡ length old.table
  pub shared : new.shared ≡ old.shared
