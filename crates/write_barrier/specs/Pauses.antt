-- Cycles of marking that wait: what is known of their world, and how they go on.
use Rattle.std.specs.Prelude.{◌≡◌, ℕ, true, replicate, Option, Some, None, option_map, slice_set}
use Rattle.page_space.specs.Extents.{eden_start}
use Rattle.cell_layout.specs.Cells.{layouts_in}
use Rattle.mark_laws.specs.Runs.{IsSoundAndBorn}
use Rattle.mark_world.specs.declared.views.MainView.{MainView}
use Rattle.mark_world.specs.declared.world.World.{World}
use Rattle.mark_world.specs.Cycles.{Cycle, cycle_of}
use Rattle.mark_world.specs.Steps.{black, returned}
use Rattle.shared_table.specs.declared.overview.Overview.{Overview}
use Rattle.shared_table.specs.Changes.{IsContinued}
use Rattle.shared_table.specs.Owned.{Own}
use Rattle.cycle_state.specs.Cycles.{main_of, words_of_pages}
use Rattle.heap_table.specs.Phases.{Phase, Mark, Paused}
use Rattle.write_barrier.specs.Cycles.{IsWholeWorld, own_of}
use Rattle.write_barrier.specs.MutatorState.{Mutator, heap_of, world_of}
use Rattle.write_barrier.specs.Seats.{Marks, heap_words}

-- the mutator's view of a cycle with these marks: nothing is owed
abbrev pub view_with : Cycle → Marks → MainView
view_with cycle marks = record (main_of cycle) { grey = marks.grey; log = marks.log }

-- The world of marking that the heap's pages are, by what is known of the cycle and by these marks. No seat is out:
-- each that was ever lent was taken back.
abbrev pub world_with : Mutator → Marks → World
world_with main marks = record (world_of main) {
  colours = marks.colours;
  board = marks.board;
  main = view_with main.cycle marks;
  helpers = replicate main.seat.lent returned;
}

-- What the main seat knows of its table while a cycle with these marks waits: all of it is told.
abbrev pub paused_overview : Mutator → Marks → Overview
paused_overview main marks = record {
  phase = Paused;
  home = true;
  old = eden_start main.seat.space;
  words = words_of_pages (heap_of main);
  layouts = layouts_in main.seat.space (heap_words main.seat);
  colours = marks.colours;
  board = marks.board;
  view = view_with main.cycle marks;
  reached = main.cycle.reached;
  made = main.cycle.made;
  dead = main.cycle.dead;
  out = 0;
  lent = main.seat.lent;
}

-- the mutator in another phase, with another cycle, and with these marks told, or none
abbrev pub with_marks : Mutator → Phase → Cycle → Option Marks → Mutator
with_marks main phase cycle marks =
    record main { seat = record main.seat { phase = phase; marks = marks }; cycle = cycle }

-- A cycle waits from now on, and its marks are told. The world that the heap's pages are by them is whole.
pub record HasPaused (old new : Mutator) : Type 0 where
  pub marks : Marks
  pub is : new ≡ with_marks old Paused old.cycle (Some marks)
  pub whole : IsWholeWorld (world_with old marks)

-- the colour of one cell is black
abbrev pub marks_black : ℕ → Marks → Marks
marks_black at marks = record marks { colours = slice_set marks.colours at black }

-- the mutator with one cell black, among the marks of a cycle that waits
abbrev pub with_black_mark : Mutator → ℕ → Mutator
with_black_mark main at =
    record main { seat = record main.seat { marks = option_map (marks_black at) main.seat.marks } }

-- A cycle may go on as another that a choice allows. Its lists are those of the cycle that waited, with promoted cells
-- joined, and what was found at the opening is as it was. With the marks as they are the world is sound, and marking
-- reaches born cells alone.
pub record MayResume (fits : Own → ℕ → Overview → Cycle → Type 0) (main : Mutator) (made : ℕ) (marks : Marks)
    (cycle : Cycle) : Type 0 where
  pub allowed : fits (own_of main) made (paused_overview main marks) cycle
  pub continued : IsContinued (paused_overview main marks) cycle
  pub sound : IsSoundAndBorn (world_with (record main { cycle = cycle }) marks)

-- the cycle that waits goes on as one that may
pub record HasResumed (fits : Own → ℕ → Overview → Cycle → Type 0) (old new : Mutator) (made : ℕ) : Type 0 where
  pub marks : Marks
  pub told : old.seat.marks ≡ Some marks
  pub cycle : Cycle
  pub may : MayResume fits old made marks cycle
  pub is : new ≡ with_marks old Mark cycle None

-- the cycle is the one that waited
abbrev pub IsItself : Own → ℕ → Overview → Cycle → Type 0
IsItself own made main cycle = cycle ≡ cycle_of main.view main.reached main.made main.dead
