-- What becomes of the recorded addresses where the mutator puts words.
use Rattle.std.specs.Prelude.{◌≡◌, ℕ, ◌+◌, if◌then◌else◌, List}
use Rattle.remembered_set.specs.Recorded.{is_between}
use Rattle.write_barrier.specs.Seats.{heap_words}
use Rattle.heap_model.specs.Types.{Cell}
use Rattle.heap_model.specs.Remembered.{Touch, Records, TouchesCells}
use Rattle.write_barrier.specs.MutatorState.{Mutator, heap_of}

-- From one mutator to another each address of a page was touched so. There are as many pages, and their free runs are
-- the same.
pub record Touches (old new : Mutator) (touch : ℕ → Touch) : Type 0 where
  pub free : new.free ≡ old.free
  pub bound : new.recorded.bound ≡ old.recorded.bound
  pub records : Records old.recorded.bound (heap_words old.seat) (heap_words new.seat) old.recorded.slots
      new.recorded.slots touch

-- no address was touched
abbrev pub untouched : ℕ → Touch
untouched at = Touch.Kept

-- those from one up to another were, in this way
abbrev pub touched : Touch → ℕ → ℕ → ℕ → Touch
touched how from to at = if is_between from to at then how else Touch.Kept

-- one was
abbrev pub touched_one : Touch → ℕ → ℕ → Touch
touched_one how one = touched how one (one + 1)

-- what was touched after it was touched before
abbrev pub touched_again : Touch → Touch → Touch
touched_again first Touch.Kept = first
touched_again first Touch.Stored = Touch.Stored
touched_again first Touch.Wiped = Touch.Wiped

-- first so, and then so
abbrev pub touched_then : (ℕ → Touch) → (ℕ → Touch) → ℕ → Touch
touched_then first next at = touched_again (first at) (next at)

-- What was recorded follows a change of cells: words of those that went, of those that came in their place and of those
-- that were made were touched so.
pub record Remembers (old new : Mutator) (gone came made : List Cell) : Type 0 where
  pub touch : ℕ → Touch
  pub touches : Touches old new touch
  pub cells : TouchesCells (heap_of old) gone came made touch
