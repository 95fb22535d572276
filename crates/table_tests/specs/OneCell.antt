-- A cycle that begins with no cell, and then has one.
use Rattle.std.specs.Prelude.{◌≡◌, ◌%◌, ◌^◌, ◌<◌, ℕ, true, [], ◌∷◌, length, replicate}
use Rattle.tagged_word.specs.Shapes.{shapes_most}
use Rattle.page_space.specs.Sizes.{page_words}
use Rattle.core_parts.specs.Boards.{empty_board}
use Rattle.mark_world.specs.Cycles.{Cycle, cycle_of}
use Rattle.shared_table.specs.declared.overview.Overview.{Overview}
use Rattle.shared_table.specs.declared.phase.Phase.TheVariants.{Quiet, Mark}
use Rattle.shared_table.specs.Owned.{Own}

-- no cell is published so far, and nothing was reached
abbrev pub no_cells : Cycle
no_cells = record { starts = []; born = []; mine = []; sure = []; reached = []; made = 0; dead = [] }

abbrev pub IsEmpty : Own → ℕ → Overview → Cycle → Type 0
IsEmpty own made main cycle = cycle ≡ no_cells

-- no cell was promoted while the cycle waited: its lists are as they were
abbrev pub IsSame : Own → ℕ → Overview → Cycle → Type 0
IsSame own made main cycle = cycle ≡ cycle_of main.view main.reached main.made main.dead

-- a table with whole pages and all shapes, on which no cycle is open and no cell has a colour
pub record IsBare (main : Overview) : Type 0 where
  pub phase : main.phase ≡ Quiet
  pub home : main.home ≡ true
  pub pages : main.old % page_words ≡ 0
  pub addresses : main.old < 2 ^ 32
  pub words : length main.words ≡ main.old
  pub layouts : length main.layouts ≡ shapes_most
  pub colours : main.colours ≡ replicate main.old 0
  pub board : main.board ≡ empty_board
  pub out : main.out ≡ 0

-- a cycle is open in which one cell was made, a black one
pub record HasOneCell (main : Overview) (at : ℕ) : Type 0 where
  pub phase : main.phase ≡ Mark
  pub home : main.home ≡ true
  pub within : at < main.old
  pub starts : main.view.starts ≡ at ∷ []
  pub born : main.view.born ≡ at ∷ []
  pub mine : main.view.mine ≡ at ∷ []
  pub board : main.board ≡ empty_board
  pub out : main.out ≡ 0
