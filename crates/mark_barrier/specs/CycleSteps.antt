-- What the mutator's own steps make of an open cycle.
use Rattle.std.specs.Prelude.{ℕ, List}
use Rattle.core_parts.specs.Boards.{joined_by}
use Rattle.core_parts.specs.Lists.{joined}
use Rattle.mark_world.specs.Cycles.{Cycle, with_cycle}
use Rattle.mark_world.specs.Pages.{target, targets_joined}
use Rattle.mark_world.specs.Steps.{free_slot_words}
use Rattle.shared_table.specs.Worlds.{no_cycle}

-- the mutator is sure of a cell
abbrev pub sure_of : Cycle → ℕ → Cycle
sure_of cycle at = record cycle { sure = joined cycle.sure at }

-- the mutator is sure of the target of a word, if it has one
abbrev pub sure_of_target : ℕ → Cycle → ℕ → Cycle
sure_of_target old cycle word = record cycle { sure = joined_by cycle.sure (target old word) }

-- The mutator has made a cell black: it is sure of the targets of the cell's tagged slots, if that was a free start.
abbrev pub made_black : ℕ → List ℕ → List ℕ → Cycle → ℕ → Cycle
made_black old words layouts cycle at = record cycle {
  mine = joined cycle.mine at;
  sure = targets_joined old cycle.sure (free_slot_words old words layouts (with_cycle no_cycle cycle) at);
}

-- a cell that was just made is published, born, and one that the mutator made black
abbrev pub published : Cycle → ℕ → Cycle
published cycle at = record cycle {
  starts = joined cycle.starts at;
  born = joined cycle.born at;
  mine = joined cycle.mine at;
}
