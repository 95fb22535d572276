-- Where probing for a key comes in a table, by the words of its pairs.
use Rattle.std.specs.Prelude.{◌≡◌, ◌≢◌, ℕ, ◌<◌, Option, Some, None}
use Rattle.linear_probing.specs.Tables.{place_after}
use Rattle.heap_model.specs.Heaps.{Heap}
use Rattle.heap_model.specs.Slots.{hole_word}
use Rattle.weak_pairs.specs.Tables.{key_in}
use Rattle.weak_pairs.specs.declared.table.Table.{Table}

-- the pair holds something, and has another key
pub record IsPassed (heap : Heap) (table : Table) (key place : ℕ) : Type 0 where
  pub filled : key_in heap table.at place ≢ hole_word
  pub other : key_in heap table.at place ≢ key

-- each pair to which probing comes in fewer steps is such
abbrev pub PassesBefore : Heap → Table → ℕ → ℕ → ℕ → Type 0
PassesBefore heap table number key steps =
    (before : ℕ) → before < steps → IsPassed heap table key (place_after table.capacity number before)

-- probing comes to the place, and passes all before it
pub record ProbesTo (heap : Heap) (table : Table) (number key place : ℕ) : Type 0 where
  pub steps : ℕ
  pub few : steps < table.capacity
  pub comes : place ≡ place_after table.capacity number steps
  pub passes : PassesBefore heap table number key steps

-- no pair to which probing comes in fewer steps is free
abbrev pub FilledBefore : Heap → Table → ℕ → ℕ → Type 0
FilledBefore heap table number steps =
    (before : ℕ) → before < steps → key_in heap table.at (place_after table.capacity number before) ≢ hole_word

-- the place is the first on the way of the number where a pair is free
pub record IsFirstFree (heap : Heap) (table : Table) (number place : ℕ) : Type 0 where
  pub steps : ℕ
  pub few : steps < table.capacity
  pub comes : place ≡ place_after table.capacity number steps
  pub filled : FilledBefore heap table number steps
  pub free : key_in heap table.at place ≡ hole_word

-- the first free place is this one, or none is free
abbrev pub FreeBy : Heap → Table → ℕ → Option ℕ → Type 0
FreeBy heap table number (Some place) = IsFirstFree heap table number place
FreeBy heap table number None = FilledBefore heap table number table.capacity

-- some pair of the table is free
abbrev pub HasFree : Heap → Table → Type 0
HasFree heap table = (place : ℕ) × (place < table.capacity) × (key_in heap table.at place ≡ hole_word)
