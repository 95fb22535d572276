-- How many words were taken from where cells are made, and what stays beside the words.
use Rattle.std.specs.Prelude.{◌≡◌, ℕ, ◌+◌, ◌≤◌, List, Contains}
use Rattle.nursery.specs.Young.{HasRoom, bumped}
use Rattle.write_barrier.specs.Seats.{RestStays}
use Rattle.heap_model.specs.Types.{Cell}
use Rattle.write_barrier.specs.MutatorState.{Mutator}
use Rattle.object_cells.specs.Contents.{next_at}

-- so many words were taken from where cells are made; the regions, the phase, the marks, the board and the free runs of
-- pages are the same
pub record UsesMore (old new : Mutator) (need : ℕ) : Type 0 where
  pub beside : RestStays old.seat new.seat
  pub young : new.young ≡ bumped old.young need
  pub free : new.free ≡ old.free

-- So many words were taken from where cells are made, in which these cells stand; the regions and the phase are the
-- same.
pub record TakesRun (old new : Mutator) (made : List Cell) : Type 0 where
  pub space : new.seat.space ≡ old.seat.space
  pub phase : new.seat.phase ≡ old.seat.phase
  pub need : ℕ
  pub room : HasRoom old.young need
  pub young : new.young ≡ bumped old.young need
  pub within : (cell : Cell) → Contains made cell → (next_at old ≤ cell.at) × (cell.at + cell.size ≤ next_at old + need)
