-- Words that were put as slots' words, of whose targets the mutator is sure in an open cycle.
use Rattle.std.specs.Prelude.{◌≡◌, ℕ, ◌<◌}
use Rattle.page_space.specs.Extents.{eden_start}
use Rattle.mark_world.specs.declared.event.Event.TheVariants as event
use Rattle.cycle_state.specs.Cycles.{words_of_pages}
use Rattle.heap_model.specs.Remembered.{Touch}
use Rattle.heap_table.specs.Phases.{Mark}
use Rattle.write_barrier.specs.Marking.{MayPut, with_blackened}
use Rattle.write_barrier.specs.MutatorState.{Mutator, heap_of}
use Rattle.write_barrier.specs.Storing.{StoresOn, IsSureAt}

-- In an open cycle the mutator is sure of the target of each word of a page that was put as a slot's.
pub record StoresSurely (new : Mutator) (touch : ℕ → Touch) : Type 0 where
  pub sure : new.seat.phase ≡ Mark → (at : ℕ) → at < eden_start new.seat.space → at < new.recorded.bound
      → touch at ≡ Touch.Stored → IsSureAt new at

-- Words behind the pages were put, the cell at an address was made black, and words were stored.
pub record StoresBlack (old new : Mutator) (at : ℕ) : Type 0 where
  pub mid : Mutator
  pub before : StoresOn old mid
  pub words : words_of_pages (heap_of mid) ≡ words_of_pages (heap_of old)
  pub may : MayPut mid at (event.Blacken at)
  pub after : StoresOn (with_blackened mid at) new
