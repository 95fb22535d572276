-- How a cycle of marking is opened, and what is known of it.
use Rattle.std.specs.Prelude.{◌≡◌, ℕ, true, [], replicate}
use Rattle.page_space.specs.Extents.{eden_start}
use Rattle.cell_layout.specs.Cells.{layouts_in}
use Rattle.core_parts.specs.Boards.{empty_board}
use Rattle.mark_world.specs.declared.world.World.{World}
use Rattle.mark_world.specs.BetweenCommands.{Fresh, Settled}
use Rattle.mark_world.specs.BornCells.{Born}
use Rattle.mark_world.specs.Cycles.{Cycle}
use Rattle.mark_world.specs.Soundness.{AreIn, Sound}
use Rattle.mark_world.specs.Steps.{white}
use Rattle.mark_laws.specs.PageWords.{HasMainSound}
use Rattle.mark_laws.specs.Runs.{HasNoneOut}
use Rattle.shared_table.specs.declared.overview.Overview.{Overview}
use Rattle.shared_table.specs.Changes.{opened}
use Rattle.shared_table.specs.Owned.{Own}
use Rattle.shared_table.specs.Worlds.{world_at_home}
use Rattle.cycle_state.specs.Cycles.{IsWorldOf, words_of_pages, world_in}
use Rattle.heap_table.specs.Phases.{Phase, Mark, Quiet}
use Rattle.write_barrier.specs.MutatorState.{Mutator, heap_of, world_of}
use Rattle.write_barrier.specs.Seats.{heap_words}

-- the regions, and the words before the marks
abbrev pub own_of : Mutator → Own
own_of main = record { space = main.seat.space; words = heap_words main.seat }

-- What the main seat knows of its table while no cycle is open: the words of the pages and the layout words are those
-- of the heap, all cells are white, no cell is on the board, and no seat is out. The view of the cycle before is any.
pub record IsQuietOverview (main : Mutator) (any : Overview) : Type 0 where
  pub phase : any.phase ≡ Quiet
  pub home : any.home ≡ true
  pub old : any.old ≡ eden_start main.seat.space
  pub words : any.words ≡ words_of_pages (heap_of main)
  pub layouts : any.layouts ≡ layouts_in main.seat.space (heap_words main.seat)
  pub colours : any.colours ≡ replicate (eden_start main.seat.space) white
  pub board : any.board ≡ empty_board
  pub out : any.out ≡ 0
  pub lent : any.lent ≡ main.seat.lent

-- a cycle that a choice allows, with which a fresh world begins
abbrev pub MayOpenWith : (Own → ℕ → Overview → Cycle → Type 0) → Mutator → ℕ → Overview → Cycle → Type 0
MayOpenWith fits main made any cycle = fits (own_of main) made any cycle × Fresh (world_at_home (opened any cycle))

-- the mutator in another phase, with another cycle
abbrev pub in_cycle : Mutator → Phase → Cycle → Mutator
in_cycle main phase cycle = record main { seat = record main.seat { phase = phase }; cycle = cycle }

-- A cycle was opened, one that the choice allows, by what the main seat knew.
pub record HasOpened (fits : Own → ℕ → Overview → Cycle → Type 0) (old new : Mutator) (made : ℕ) : Type 0 where
  pub any : Overview
  pub quiet : IsQuietOverview old any
  pub cycle : Cycle
  pub begins : MayOpenWith fits old made any cycle
  pub is : new ≡ in_cycle old Mark cycle

-- Cells that waited were made black. Of all that the mutator has, only the cells that it made black, and those that it
-- is sure of, are more. Where its part of marking was done it is done.
pub record ScansOn (old new : Mutator) : Type 0 where
  pub is : new ≡ record old { cycle = record old.cycle { mine = new.cycle.mine; sure = new.cycle.sure } }
  pub mine : AreIn new.cycle.mine old.cycle.mine
  pub sure : AreIn new.cycle.sure old.cycle.sure
  pub settled : Settled (world_in (heap_of old) old.cycle) → Settled (world_in (heap_of new) new.cycle)

-- The heap's pages are a world of the cycle, of which this holds.
pub record IsWorldWith (main : Mutator) (P : World → Type 0) : Type 0 where
  pub world : World
  pub is : IsWorldOf (heap_of main) main.cycle world
  pub holds : P world

-- the mutator's view is as it is in a sound world, by the words of the heap and what is known of the cycle
abbrev pub HasSoundView : Mutator → Type 0
HasSoundView main = HasMainSound (world_of main)

-- a world is sound, marking reaches born cells alone, no seat is out, and nothing is owed
pub record IsWholeWorld (world : World) : Type 0 where
  pub sound : Sound world
  pub born : Born world
  pub none_out : HasNoneOut world
  pub owed : world.main.owed ≡ []

-- the heap's pages are such a world
abbrev pub HasWholeWorld : Mutator → Type 0
HasWholeWorld main = IsWorldWith main IsWholeWorld
