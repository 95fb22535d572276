-- What seats know after their steps.
use Rattle.std.specs.Prelude.{◌≡◌, ℕ, ◌+◌, ◌-◌, true, false, List, [], Contains, length, replicate, Option, Some, None}
use Rattle.mark_laws.specs.Restarts.{HasJoined}
use Rattle.mark_laws.specs.Types.{Event, HelperView, Spot}
use Rattle.mark_world.specs.Conditions.{MayMain}
use Rattle.mark_world.specs.Cycles.{Cycle, with_cycle}
use Rattle.mark_world.specs.Steps.{becomes, main_learns, main_spot, lent, taken_back}
use Rattle.shared_table.specs.declared.overview.Overview.{Overview}
use Rattle.shared_table.specs.declared.overview.Lent.{Lent}
use Rattle.shared_table.specs.declared.overview.View.{View}
use Rattle.shared_table.specs.declared.overview.View.TheVariants.{Main, Helper}
use Rattle.shared_table.specs.declared.phase.Phase.TheVariants.{Quiet, Mark, Paused}
use Rattle.shared_table.specs.Worlds.{overview_of, lent_of, no_cycle}
use Rattle.shared_table.specs.Spots.{with_spot}

-- the mutator may make the step, as far as the main seat knows
abbrev pub MayDo : Overview → Event → Type 0
MayDo main of = MayMain main.old main.words main.layouts main.view of

-- what the main seat knows after an event at a spot, by the word found there
abbrev pub told_at : Overview → Spot → Event → ℕ → Overview
told_at main spot of found = record (with_spot main spot (becomes of found)) {
  view = main_learns main.old main.words main.layouts main.view of found;
}

-- the same, where the spot is that of the event
abbrev pub told_by : Overview → Option Spot → Event → ℕ → Overview
told_by main None of found = main
told_by main (Some spot) of found = told_at main spot of found

-- what the main seat knows after an event of its own, by the word found
abbrev pub told : Overview → Event → ℕ → Overview
told main of found = told_by main (main_spot of) of found

-- a cycle has just begun, with the lists of this one and what was found at its opening
abbrev pub opened : Overview → Cycle → Overview
opened main cycle = record main {
  phase = Mark;
  view = with_cycle no_cycle cycle;
  reached = cycle.reached;
  made = cycle.made;
  dead = cycle.dead;
}

-- The lists of a cycle are those of the mutator's view, with promoted cells joined, which were not published. What was
-- found at the opening is as it was.
pub record IsContinued (main : Overview) (cycle : Cycle) : Type 0 where
  pub promoted : List ℕ
  pub unpublished : (at : ℕ) → Contains promoted at → Contains main.view.starts at → ⊥
  pub starts : HasJoined main.view.starts promoted cycle.starts
  pub born : HasJoined main.view.born promoted cycle.born
  pub mine : HasJoined main.view.mine promoted cycle.mine
  pub sure : HasJoined main.view.sure promoted cycle.sure
  pub reached : cycle.reached ≡ main.reached
  pub made : cycle.made ≡ main.made
  pub dead : cycle.dead ≡ main.dead

-- a cycle goes on with the lists of this one; what was found at its opening stays
abbrev pub resumed : Overview → Cycle → Overview
resumed main cycle = record main { phase = Mark; view = with_cycle main.view cycle }

-- the cycle waits
abbrev pub paused : Overview → Overview
paused main = record main { phase = Paused }

-- no cycle is open any more
abbrev pub closed : Overview → Overview
closed main = record main { phase = Quiet; view = no_cycle; reached = []; made = 0; dead = [] }

-- all cells are white
abbrev pub whitened : Overview → Overview
whitened main = record main { colours = replicate main.old 0 }

-- a seat was lent: colours and board are not known any more
abbrev pub lending : Overview → Overview
lending main = record main { home = false; out = main.out + 1; lent = main.lent + 1 }

-- what the lent seat knows
abbrev pub lent_by : Overview → Lent
lent_by main = record { counts = record { old = main.old; shapes = length main.layouts }; view = lent; seen = [] }

-- a seat was taken back: what it was to visit is owed, and what waited with it waits with the mutator
abbrev pub taking : Overview → HelperView → Overview
taking main view = record main { view = taken_back main.view view; out = main.out - 1 }

-- the colours and the board are known again
abbrev pub home_with : Overview → List ℕ → List ℕ → Overview
home_with main colours board = record main { home = true; colours = colours; board = board }

-- the view of the main seat after a lend, that of the lent seat, and that of the main seat after a return
abbrev pub lending_view : View → View
lending_view view = Main (lending (overview_of view))

abbrev pub lent_view : View → View
lent_view view = Helper (lent_by (overview_of view))

abbrev pub taking_view : View → View → View
taking_view view other = Main (taking (overview_of view) (lent_of other).view)
