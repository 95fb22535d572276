-- The world that the words of the table and the views of its seats are.
use Rattle.std.specs.Prelude.{ℕ, true, List, [], map, replicate}
use Rattle.core_parts.specs.Boards.{empty_board}
use Rattle.mark_laws.specs.Types.{HelperView, MainView, World}
use Rattle.mark_world.specs.Steps.{returned}
use Rattle.shared_table.specs.declared.overview.Counts.{Counts}
use Rattle.shared_table.specs.declared.overview.Overview.{Overview}
use Rattle.shared_table.specs.declared.overview.Lent.{Lent}
use Rattle.shared_table.specs.declared.overview.View.{View}
use Rattle.shared_table.specs.declared.overview.View.TheVariants.{Main, Helper, Gone}
use Rattle.shared_table.specs.declared.phase.Phase.TheVariants.{Quiet}

-- the mutator's view where no cycle is open: empty
abbrev pub no_cycle : MainView
no_cycle = record { starts = []; born = []; mine = []; sure = []; owed = []; grey = []; log = [] }

-- what the main seat knows of a table that was just opened: all words are 0, and no seat was lent
abbrev pub beginning : Counts → Overview
beginning counts = record {
  phase = Quiet;
  home = true;
  old = counts.old;
  words = replicate counts.old 0;
  layouts = replicate counts.shapes 0;
  colours = replicate counts.old 0;
  board = empty_board;
  view = no_cycle;
  reached = [];
  made = 0;
  dead = [];
  out = 0;
  lent = 0;
}

-- the sizes of no table
abbrev pub no_counts : Counts
no_counts = record { old = 0; shapes = 0 }

-- what the main seat knows, by its view
abbrev pub overview_of : View → Overview
overview_of (Main main) = main
overview_of (Helper lent) = beginning no_counts
overview_of Gone = beginning no_counts

-- what a lent seat knows, by its view
abbrev pub lent_of : View → Lent
lent_of (Main main) = record { counts = no_counts; view = returned; seen = [] }
lent_of (Helper lent) = lent
lent_of Gone = record { counts = no_counts; view = returned; seen = [] }

-- the helper's view of a seat; one that was taken back is empty
abbrev pub helper_of : View → HelperView
helper_of (Main main) = returned
helper_of (Helper lent) = lent.view
helper_of Gone = returned

-- the helpers' views of the seats that were lent
abbrev pub views_of : List View → List HelperView
views_of others = map helper_of others

-- the world, by what the main seat knows, the views of the other seats, the colours and the board
abbrev pub world : Overview → List View → List ℕ → List ℕ → World
world main others colours board = record {
  old = main.old;
  words = main.words;
  layouts = main.layouts;
  colours = colours;
  board = board;
  main = main.view;
  helpers = views_of others;
}

-- the world with no seat out, by what the main seat knows alone: each seat that was ever lent was taken back
abbrev pub world_at_home : Overview → World
world_at_home main = record {
  old = main.old;
  words = main.words;
  layouts = main.layouts;
  colours = main.colours;
  board = main.board;
  main = main.view;
  helpers = replicate main.lent returned;
}
