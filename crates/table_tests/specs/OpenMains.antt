-- The mutator on a heap of one page with a shared table, before and in a cycle that begins with four cells.
use Rattle.std.specs.Prelude.{◌≡◌, ℕ, true, List, [], ◌∷◌, IsSome}
use Rattle.page_space.specs.Extents.{Space}
use Rattle.mark_world.specs.Cycles.{Cycle}
use Rattle.shared_table.specs.declared.overview.Overview.{Overview}
use Rattle.shared_table.specs.declared.rule.SharedTable.{SharedTable}
use Rattle.shared_table.specs.Owned.{Own}
use Rattle.shared_table.specs.Seats.{Helping}
use Rattle.heap_table.specs.Phases.{Quiet, Mark}
use Rattle.heap_table.specs.Seats.{counts_of}
use Rattle.write_barrier.specs.Layouts.{HasLayouts}
use Rattle.write_barrier.specs.MutatorState.{Mutator}
use Rattle.table_tests.specs.CellPages.{these_cells}

-- where the four cells of a page begin
abbrev pub four_starts : List ℕ
four_starts = 0 ∷ 1024 ∷ 1032 ∷ 1040 ∷ []

-- it is the cycle of these four
abbrev pub IsOfFour : Own → ℕ → Overview → Cycle → Type 0
IsOfFour own made main cycle = cycle ≡ these_cells four_starts

-- the regions of a page, an eden of 64 words and one variable
abbrev pub page_and_eden : Space
page_and_eden = record { sizes = record { pages = 1; young = 64; helpers = 0 }; variables = 1 }

-- no cycle is open on such a heap, which has a shared table and the layout words of its shapes
pub record IsBareMain (main : Mutator) : Type 0 where
  pub quiet : main.seat.phase ≡ Quiet
  pub space : main.seat.space ≡ page_and_eden
  pub shared : IsSome main.seat.shared
  pub layouts : HasLayouts main

-- a cycle is open that began with the four cells, and no seat is out
pub record IsMarkingMain (main : Mutator) : Type 0 where
  pub mark : main.seat.phase ≡ Mark
  pub space : main.seat.space ≡ page_and_eden
  pub shared : IsSome main.seat.shared
  pub layouts : HasLayouts main
  pub home : main.seat.home ≡ true
  pub out : main.seat.out ≡ 0
  pub starts : main.cycle.starts ≡ four_starts
  pub born : main.cycle.born ≡ four_starts

-- the seat is one of the shared table of such a heap
pub record IsSeatOfPage (seat : Helping) (table : SharedTable) : Type 0 where
  pub own : seat.table ≡ table.table.shared.table_id
  pub counts : seat.lent.counts ≡ counts_of page_and_eden
