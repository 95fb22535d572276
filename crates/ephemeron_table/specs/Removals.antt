-- How a pair is removed from a table, word by word.
use Rattle.std.specs.Prelude.{◌≡◌, ◌≢◌, ℕ, ◌+◌, ◌-◌, ◌<◌, ◌⊎◌, length, Some, None, slice_get, slice_set}
use Rattle.linear_probing.specs.Tables.{FindsAll}
use Rattle.write_barrier.specs.Seats.{heap_words, RestStays}
use Rattle.heap_model.specs.Kinds.{Pair, free_pair, count_offset}
use Rattle.heap_model.specs.Needs.{count_at}
use Rattle.heap_model.specs.Remembered.{Touch}
use Rattle.write_barrier.specs.MutatorState.{Mutator, heap_of}
use Rattle.write_barrier.specs.Recording.{Touches}
use Rattle.write_barrier.specs.Storing.{StoresOn}
use Rattle.weak_pairs.specs.Pairs.{IsFilledAt}
use Rattle.weak_pairs.specs.declared.table.Table.{Table}
use Rattle.weak_pairs.specs.Tables.{IsOutsidePairs, numbers, pairs_of}
use Rattle.weak_pairs.specs.Removals.{IsRemoved, StaysBelow}

-- Of all that the mutator has, only words of the table's pairs are others, and what is recorded of them; so the marks,
-- the board and the free runs are as they were.
pub record ChangesPairs (old new : Mutator) (table : Table) : Type 0 where
  pub rest : RestStays old.seat new.seat
  pub paths : new.paths ≡ old.paths
  pub young : new.young ≡ old.young
  pub long : length (heap_words new.seat) ≡ length (heap_words old.seat)
  pub beside : (at : ℕ) → IsOutsidePairs table at
      → slice_get (heap_words new.seat) at ≡ slice_get (heap_words old.seat) at
  pub touch : ℕ → Touch
  pub touches : Touches old new touch
  pub touched : (at : ℕ) → (touch at ≡ Touch.Kept)
      ⊎ ((touch at ≡ Touch.Stored) × (IsOutsidePairs table at → ⊥))
  pub stores : StoresOn old new

-- Once the hole is free, the pair at the place is removed, and probing finds all where it did before.
pub record ShiftsBack (old new : Mutator) (table : Table) (place hole : ℕ) : Type 0 where
  pub changes : ChangesPairs old new table
  pub cycle : new.cycle ≡ old.cycle
  pub within : hole < table.capacity
  pub removed : IsRemoved (pairs_of (heap_words old.seat) table)
      (slice_set (pairs_of (heap_words new.seat) table) hole free_pair) place
  pub below : (free : ℕ) → slice_get (pairs_of (heap_words old.seat) table) free ≡ Some free_pair
      → (one : Pair) → IsFilledAt (pairs_of (heap_words old.seat) table) place one → StaysBelow removed
  pub found : FindsAll (numbers (heap_of old) (pairs_of (heap_words old.seat) table))
      → FindsAll (slice_set (numbers (heap_of old) (pairs_of (heap_words new.seat) table)) hole None)

-- The pair at the place of the map's table was removed, and the count is one less. All other words are as they were,
-- and so is what is known of a cycle.
pub record RemovesAt (old new : Mutator) (map : ℕ) (table : Table) (place : ℕ) : Type 0 where
  pub rest : RestStays old.seat new.seat
  pub paths : new.paths ≡ old.paths
  pub cycle : new.cycle ≡ old.cycle
  pub young : new.young ≡ old.young
  pub long : length (heap_words new.seat) ≡ length (heap_words old.seat)
  pub beside : (at : ℕ) → IsOutsidePairs table at → at ≢ map + count_offset
      → slice_get (heap_words new.seat) at ≡ slice_get (heap_words old.seat) at
  pub counted : slice_get (heap_words new.seat) (map + count_offset) ≡ Some (count_at (heap_of old) map - 1)
  pub hole : ℕ
  pub free : slice_get (pairs_of (heap_words new.seat) table) hole ≡ Some free_pair
  pub removed : IsRemoved (pairs_of (heap_words old.seat) table) (pairs_of (heap_words new.seat) table) place
  pub below : (free : ℕ) → slice_get (pairs_of (heap_words old.seat) table) free ≡ Some free_pair
      → (one : Pair) → IsFilledAt (pairs_of (heap_words old.seat) table) place one → StaysBelow removed
  pub found : FindsAll (numbers (heap_of old) (pairs_of (heap_words old.seat) table))
      → FindsAll (numbers (heap_of old) (pairs_of (heap_words new.seat) table))
  pub touch : ℕ → Touch
  pub touches : Touches old new touch
  pub touched : (at : ℕ) → (touch at ≡ Touch.Kept)
      ⊎ (((touch at ≡ Touch.Stored) × (IsOutsidePairs table at → ⊥))
      ⊎ ((touch at ≡ Touch.Wiped) × (at ≡ map + count_offset)))
  pub stores : StoresOn old new
