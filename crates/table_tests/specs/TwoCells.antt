-- A list at 0 with its store at 3, both published and white when a cycle begins.
use Rattle.std.specs.Prelude.{◌≡◌, ◌≤◌, ℕ, true, [], ◌∷◌, Some, slice_get, slice_index}
use Rattle.mark_world.specs.Cycles.{Cycle}
use Rattle.shared_table.specs.declared.overview.Overview.{Overview}
use Rattle.shared_table.specs.declared.phase.Phase.TheVariants.{Mark}
use Rattle.shared_table.specs.Owned.{Own}
use Rattle.table_tests.specs.OneCell.{IsBare}

-- the two cells are published and born
abbrev pub two_cells : Cycle
two_cells = record { starts = 0 ∷ 3 ∷ []; born = 0 ∷ 3 ∷ []; mine = []; sure = []; reached = []; made = 0; dead = [] }

abbrev pub IsTwo : Own → ℕ → Overview → Cycle → Type 0
IsTwo own made main cycle = cycle ≡ two_cells

-- no cycle is open, and the words of the first page begin with a list and its store, which has no slot
pub record HasTwoCells (main : Overview) : Type 0 where
  pub bare : IsBare main
  pub page : 2048 ≤ main.old
  pub list : slice_get main.words 0 ≡ Some 6
  pub slot : slice_get main.words 1 ≡ Some 13
  pub store : slice_get main.words 3 ≡ Some 14
  pub capacity : slice_get main.words 4 ≡ Some 0
  pub list_layout : slice_get main.layouts 1 ≡ Some 2
  pub store_layout : slice_get main.layouts 3 ≡ Some 4

-- a cycle is open with the two cells, which are white; nothing waits
pub record HasBegun (main : Overview) : Type 0 where
  pub phase : main.phase ≡ Mark
  pub home : main.home ≡ true
  pub page : 2048 ≤ main.old
  pub born : main.view.born ≡ 0 ∷ 3 ∷ []
  pub grey : main.view.grey ≡ []
  pub white : slice_index main.colours 0 ≡ 0
  pub out : main.out ≡ 0
