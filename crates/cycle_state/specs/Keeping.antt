-- What an open cycle of marking keeps. Young cells are kept, whatever they are: so a store into one needs no barrier.
-- The cycle's end looks at them as it looks at variables.
use Rattle.std.specs.Prelude.{ℕ, Bool, IsTrue, List, nat_le, ◌||◌}
use Rattle.core_parts.specs.Lists.{is_in}
use Rattle.page_space.specs.Extents.{Space, eden_start}
use Rattle.mark_world.specs.BetweenCommands.{IsBornObject}
use Rattle.heap_model.specs.Heaps.{Heap}
use Rattle.heap_model.specs.Slots.{IsPlace}
use Rattle.live_cells.specs.Marked.{HasRootTargets, IsMarkClosed}
use Rattle.mark_world.specs.Cycles.{Cycle}

-- whether a cell is kept: it is young, or counts as reached, or as made, since the cycle began
abbrev pub is_kept : Space → List ℕ → ℕ → Bool
is_kept space born at = nat_le (eden_start space) at || is_in born at

-- the cell at the address is kept
abbrev pub IsKept : Heap → List ℕ → ℕ → Type 0
IsKept heap born at = IsTrue (is_kept heap.space born at)

-- What is kept is closed. What variables refer to is kept. What slots of kept cells refer to, of those that marking
-- visits, is kept; and so is the value of a pair whose weak table and key are kept. And each object whose cell is kept
-- could be reached when the cycle began, or was made since.
pub record KeepsClosed (heap : Heap) (cycle : Cycle) : Type 0 where
  pub roots : HasRootTargets heap (IsKept heap cycle.born)
  pub closed : IsMarkClosed heap (is_kept heap.space cycle.born)
  pub numbers : (number at : ℕ) → IsPlace heap number at → IsKept heap cycle.born at
      → IsBornObject cycle.reached cycle.made number
