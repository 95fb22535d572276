-- What commands know of an open cycle.
use Rattle.std.specs.Prelude.{ℕ, List}
use Rattle.mark_world.specs.declared.views.MainView.{MainView}

-- What commands know of an open cycle. Four lists of addresses of cells of pages, as in the mutator's view: those that
-- are published; those that count as reached, or as made, since the cycle began; those that the mutator made black
-- itself; and those that it is sure of. Then what no step changes, as it was when the cycle began: the numbers of the
-- objects that could be reached, how many objects there were, and the words of pages that were dead. What the mutator
-- owes, the grey cells that wait with it and its log are left out, since they hang on what its steps found.
pub record Cycle : Type 0 where
  pub starts : List ℕ
  pub born : List ℕ
  pub mine : List ℕ
  pub sure : List ℕ
  pub reached : List ℕ
  pub made : ℕ
  pub dead : List ℕ

-- the cycle that a view of the mutator is in, by what was found at the opening
abbrev pub cycle_of : MainView → List ℕ → ℕ → List ℕ → Cycle
cycle_of main reached made dead = record {
  starts = main.starts;
  born = main.born;
  mine = main.mine;
  sure = main.sure;
  reached = reached;
  made = made;
  dead = dead;
}

-- the view with the lists of a cycle
abbrev pub with_cycle : MainView → Cycle → MainView
with_cycle main cycle = record main {
  starts = cycle.starts;
  born = cycle.born;
  mine = cycle.mine;
  sure = cycle.sure;
}
