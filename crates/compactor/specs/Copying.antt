-- The words of a cell at another address: its slots refer to where cells come, and its other words are as they were.
use Rattle.std.specs.Prelude.{◌≡◌, ◌≢◌, ℕ, ◌+◌, ◌<◌, ◌≤◌, ◌⊎◌, ◌↔◌, List, Some, Contains, slice_get}
use Rattle.tagged_word.specs.Cells.{scavenge_offsets}
use Rattle.write_barrier.specs.Seats.{RestStays, heap_words}
use Rattle.heap_model.specs.Types.{Cell}
use Rattle.heap_model.specs.Remembered.{RefersToYoung}
use Rattle.write_barrier.specs.MutatorState.{Mutator}
use Rattle.compactor.specs.Tables.{Table, moved_word}

-- a scavenge visits the slot at this offset of the cell
abbrev pub IsSlotAt : Cell → ℕ → Type 0
IsSlotAt cell offset = Contains (scavenge_offsets cell.layout cell.length) offset

-- the word at an offset of a cell once it has moved: that of a slot is moved, and any other is as it was
pub data IsCopy (table : Table) (cell : Cell) (offset word now : ℕ) : Type 0 where
  slot : IsSlotAt cell offset → now ≡ moved_word table word → IsCopy table cell offset word now
  raw : (IsSlotAt cell offset → ⊥) → now ≡ word → IsCopy table cell offset word now

-- the word at an offset of the cell stands moved at the same offset from another address
pub record StandsCopied (were : List ℕ) (table : Table) (cell : Cell) (words : List ℕ) (to offset : ℕ) : Type 0 where
  pub word : ℕ
  pub now : ℕ
  pub read : slice_get were (cell.at + offset) ≡ Some word
  pub put : slice_get words (to + offset) ≡ Some now
  pub is : IsCopy table cell offset word now

-- of all that the mutator has only words, records and free runs have changed
pub record KeepsRest (old new : Mutator) : Type 0 where
  pub seat : RestStays old.seat new.seat
  pub paths : new.paths ≡ old.paths
  pub young : new.young ≡ old.young
  pub cycle : new.cycle ≡ old.cycle
  pub bound : new.recorded.bound ≡ old.recorded.bound

-- the address is recorded exactly where it is a slot of the cell, at this offset, and refers to a young cell
abbrev pub IsRecordedAt : Mutator → Cell → ℕ → ℕ → Type 0
IsRecordedAt main cell at offset =
    Contains main.recorded.slots at
    ↔ (IsSlotAt cell offset × RefersToYoung main.recorded.bound (heap_words main.seat) at)

-- So many words of a cell were copied to another address, each slot moved. No other word has changed, and no other
-- record.
pub record Copies (old new : Mutator) (table : Table) (cell : Cell) (to count : ℕ) : Type 0 where
  pub rest : KeepsRest old new
  pub free : new.free ≡ old.free
  pub copied : (offset : ℕ) → offset < count
      → StandsCopied (heap_words old.seat) table cell (heap_words new.seat) to offset
  pub beside : (at : ℕ) → (at < to) ⊎ (to + count ≤ at)
      → slice_get (heap_words new.seat) at ≡ slice_get (heap_words old.seat) at
  pub recorded : (offset : ℕ) → offset < count → to + offset < old.recorded.bound
      → IsRecordedAt new cell (to + offset) offset
  pub others : (at : ℕ) → at < old.recorded.bound → (at < to) ⊎ (to + count ≤ at)
      → Contains new.recorded.slots at ↔ Contains old.recorded.slots at
  pub beyond : (at : ℕ) → old.recorded.bound ≤ at → Contains new.recorded.slots at → Contains old.recorded.slots at

-- One word of a cell was put, moved if it is a slot's, at the same offset from another address. No other word has
-- changed, and no other record.
pub record CopiesOne (old new : Mutator) (table : Table) (cell : Cell) (to offset : ℕ) : Type 0 where
  pub rest : KeepsRest old new
  pub free : new.free ≡ old.free
  pub copied : StandsCopied (heap_words old.seat) table cell (heap_words new.seat) to offset
  pub beside : (at : ℕ) → at ≢ to + offset
      → slice_get (heap_words new.seat) at ≡ slice_get (heap_words old.seat) at
  pub recorded : to + offset < old.recorded.bound → IsRecordedAt new cell (to + offset) offset
  pub others : (at : ℕ) → at < old.recorded.bound → at ≢ to + offset
      → Contains new.recorded.slots at ↔ Contains old.recorded.slots at
  pub beyond : (at : ℕ) → old.recorded.bound ≤ at → Contains new.recorded.slots at → Contains old.recorded.slots at
