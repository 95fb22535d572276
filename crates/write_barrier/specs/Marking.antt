-- What is asked of steps that touch words of pages while a cycle of marking is open.
use Rattle.std.specs.Prelude.{◌≡◌, ℕ, ◌+◌, ◌<◌, ◌≤◌, ◌⊎◌, IsSome}
use Rattle.page_space.specs.Extents.{eden_start}
use Rattle.mark_world.specs.declared.event.Event.{Event}
use Rattle.mark_world.specs.declared.event.Event.TheVariants as event
use Rattle.mark_world.specs.declared.world.World.{World}
use Rattle.mark_world.specs.Conditions.{MayMain}
use Rattle.mark_world.specs.Coverage.{cell_of}
use Rattle.mark_world.specs.Cycles.{Cycle}
use Rattle.mark_world.specs.Pages.{EachFree}
use Rattle.mark_barrier.specs.CycleSteps.{made_black, published}
use Rattle.cell_layout.specs.Cells.{layouts_in}
use Rattle.cycle_state.specs.Cycles.{main_of, words_of_pages, world_in}
use Rattle.heap_table.specs.Phases.{Mark}
use Rattle.write_barrier.specs.Layouts.{HasLayouts}
use Rattle.write_barrier.specs.MutatorState.{Mutator, cycle_after, heap_of}
use Rattle.write_barrier.specs.Seats.{heap_words}

-- the mutator may make the step in the world
abbrev pub MayIn : World → Event → Type 0
MayIn world of = MayMain world.old world.words world.layouts world.main of

-- In an open cycle the mutator may make the step, as far as the heap's words and what is known of the cycle tell, and
-- the layout words of the heap, by which helpers read cells, are those of the shapes.
pub record MayStepInCycle (main : Mutator) (of : Event) : Type 0 where
  pub layouts : HasLayouts main
  pub may : MayIn (world_in (heap_of main) main.cycle) of

-- The step that goes with the word at an address may be made, if the word is one of a page and a cycle is open. Of a
-- word behind the pages, or while no cycle is open or it waits, nothing is asked.
abbrev pub MayPut : Mutator → ℕ → Event → Type 0
MayPut main at of = at < eden_start main.seat.space → main.seat.phase ≡ Mark → MayStepInCycle main of

-- In an open cycle the word at an address of a page may become another as a header that changes safely, or as a word
-- that no helper visits by.
abbrev pub MayPutHeader : Mutator → ℕ → ℕ → Type 0
MayPutHeader main at word = at < eden_start main.seat.space → main.seat.phase ≡ Mark
    → MayStepInCycle main (event.StoreHeader at word) ⊎ MayStepInCycle main (event.StoreOwned at word)

-- a stretch of words from an address on, if it begins in a page, may be put while no cycle is open or while it waits
abbrev pub MayFill : Mutator → ℕ → Type 0
MayFill main at = at < eden_start main.seat.space → main.seat.phase ≡ Mark → ⊥

-- In an open cycle the mutator may store any word at each address from one up to another, since no helper visits by
-- what stands there. At each free start a cell is read.
pub record MayStoreAll (main : Mutator) (from to : ℕ) : Type 0 where
  pub layouts : HasLayouts main
  pub read : EachFree (main_of main.cycle) (λ start. IsSome (cell_of (world_in (heap_of main) main.cycle) start))
  pub may : (at word : ℕ) → from ≤ at → at < to
      → MayIn (world_in (heap_of main) main.cycle) (event.StoreOwned at word)

-- In an open cycle so many words at an address of a page may become a free cell: any word may be stored there. Of words
-- behind the pages, or while no cycle is open or it waits, nothing is asked.
abbrev pub MayPutFree : Mutator → ℕ → ℕ → Type 0
MayPutFree main at count = at < eden_start main.seat.space → main.seat.phase ≡ Mark → MayStoreAll main at (at + count)

-- in an open cycle a new cell of a page is black, and is published
abbrev pub with_published : Mutator → ℕ → Mutator
with_published main at = record main { cycle = cycle_after main at (published main.cycle at) }

-- what is known of the cycle once a cell was made black
abbrev pub blackened : Mutator → ℕ → Cycle
blackened main at =
    made_black (eden_start main.seat.space) (words_of_pages (heap_of main))
    (layouts_in main.seat.space (heap_words main.seat)) main.cycle at

-- in an open cycle a cell was made black, if it is one of a page
abbrev pub with_blackened : Mutator → ℕ → Mutator
with_blackened main at = record main { cycle = cycle_after main at (blackened main at) }
