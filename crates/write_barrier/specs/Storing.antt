-- What a command knows of an open cycle while it changes cells, from one of its stores to the next.
use Rattle.std.specs.Prelude.{◌≡◌, ℕ, ◌<◌, ◌≤◌, ◌⊎◌, Contains, slice_index}
use Rattle.page_space.specs.Extents.{eden_start}
use Rattle.mark_world.specs.Pages.{OfTarget}
use Rattle.mark_world.specs.Safety.{FitsTaggedSlot}
use Rattle.mark_world.specs.Soundness.{AreIn}
use Rattle.mark_laws.specs.PageWords.{HasMainSound}
use Rattle.mark_laws.specs.Types.{Kind}
use Rattle.cycle_state.specs.Claims.{Claims, GoesOn}
use Rattle.cycle_state.specs.Cycles.{words_of_pages}
use Rattle.heap_table.specs.Phases.{Mark}
use Rattle.write_barrier.specs.Layouts.{HasLayouts}
use Rattle.write_barrier.specs.MutatorState.{Mutator, heap_of, world_of}

-- Helpers may read cells: what is recorded is bounded by the pages, the layout words of the heap are those of the
-- shapes, and the mutator's view is as in a sound world.
pub record IsReadable (main : Mutator) : Type 0 where
  pub bounded : main.recorded.bound ≡ eden_start main.seat.space
  pub layouts : HasLayouts main
  pub view : HasMainSound (world_of main)

-- The words of a cell of so many words and this kind are the mutator's to change: no helper that reads a cell meets
-- them, but one that reads this cell.
pub record OwnsCell (main : Mutator) (at size : ℕ) (kind : Kind) : Type 0 where
  pub readable : IsReadable main
  pub claims : Claims (world_of main) at size kind

-- Where a cycle is open they are, if the cell is one of a page. Of a young cell nothing is asked.
abbrev pub MayChange : Mutator → ℕ → ℕ → Kind → Type 0
MayChange main at size kind = at < eden_start main.seat.space → main.seat.phase ≡ Mark → OwnsCell main at size kind

-- A tagged slot may hold the word, which has no target or a born one.
pub record IsBornWord (main : Mutator) (word : ℕ) : Type 0 where
  pub fits : FitsTaggedSlot word
  pub born : OfTarget (eden_start main.seat.space) word (Contains main.cycle.born)

-- where a cycle is open it is such a word
abbrev pub MayHold : Mutator → ℕ → Type 0
MayHold main word = main.seat.phase ≡ Mark → IsBornWord main word

-- Words were stored. The regions and the phase stay, no cell was published or made black, and the mutator may be sure
-- of more cells. Where a cycle is open, cells that could be read can be, and the world goes on.
pub record StoresOn (old new : Mutator) : Type 0 where
  pub space : new.seat.space ≡ old.seat.space
  pub phase : new.seat.phase ≡ old.seat.phase
  pub cycle : new.cycle ≡ record old.cycle { sure = new.cycle.sure }
  pub sure : AreIn new.cycle.sure old.cycle.sure
  pub readable : old.seat.phase ≡ Mark → IsReadable old → IsReadable new
  pub goes : old.seat.phase ≡ Mark → IsReadable old → GoesOn (world_of old) (world_of new)

-- the word at an address of a page has no target, or one that the mutator is sure of
abbrev pub IsSureAt : Mutator → ℕ → Type 0
IsSureAt main at =
    OfTarget (eden_start main.seat.space) (slice_index (words_of_pages (heap_of main)) at) (Contains main.cycle.sure)

-- Each word of a page, but at these addresses, is as it was, or has no target or one that the mutator is sure of.
abbrev pub KeepsOrIsSure : Mutator → Mutator → (ℕ → Type 0) → Type 0
KeepsOrIsSure old new but =
    (at : ℕ) → at < eden_start old.seat.space → (but at → ⊥)
    → (slice_index (words_of_pages (heap_of new)) at ≡ slice_index (words_of_pages (heap_of old)) at)
    ⊎ IsSureAt new at

-- where a cycle is open, a cell that is made at the address is young
abbrev pub IsMadeYoung : Mutator → ℕ → Type 0
IsMadeYoung main at = main.seat.phase ≡ Mark → eden_start main.seat.space ≤ at
