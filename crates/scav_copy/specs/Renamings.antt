-- What a scavenge comes to: all that was reached stands at its home, references to it were renamed, and nothing else
-- changed.
use Rattle.std.specs.Prelude.{◌≡◌, ◌≢◌, ℕ, ◌+◌, ◌<◌, List, Contains, AllPairs, slice_index, Some, ◌↔◌}
use Rattle.tagged_word.specs.declared.word.Class.TheVariants.{Ref}
use Rattle.tagged_word.specs.Words.{bits_of}
use Rattle.tagged_word.specs.Readings.{reference_in}
use Rattle.scav_copy.specs.declared.places.Home.{Home}
use Rattle.scav_copy.specs.Places.{Fixed, size_of, offsets_of, IsInCells, IsInRooms}

-- the word of these is a reference to the cell
abbrev pub RefersToAddress : List ℕ → ℕ → ℕ → Type 0
RefersToAddress words at cell = reference_in (slice_index words at) ≡ Some cell

-- the cell is one of `cells`, and a way of references led to it before: from a slot outside, through slots of such
-- cells
pub data IsReachable (fixed : Fixed) : ℕ → Type 0 where
  by_slot : (slot cell : ℕ) → Contains fixed.slots slot → RefersToAddress fixed.before slot cell
      → Contains fixed.cells cell → IsReachable fixed cell
  by_cell : (host offset cell : ℕ) → IsReachable fixed host → Contains (offsets_of fixed host) offset
      → RefersToAddress fixed.before (host + offset) cell → Contains fixed.cells cell → IsReachable fixed cell

-- the word is the other one, in which a reference to a cell that has a home became that to the home
pub data IsRenamed (homes : List Home) (old new : ℕ) : Type 0 where
  kept : ((home : Home) → Contains homes home → old ≢ bits_of (Ref home.from)) → new ≡ old → IsRenamed homes old new
  renamed : (home : Home) → Contains homes home → old ≡ bits_of (Ref home.from) → new ≡ bits_of (Ref home.to)
      → IsRenamed homes old new

-- no cell has two homes, and no address is the home of two
abbrev pub HasOneHomeEach : List Home → Type 0
HasOneHomeEach homes = AllPairs (λ one other. (one.from ≢ other.from) × (one.to ≢ other.to)) homes

-- Exactly the cells that were reached have homes. A home copy is its cell, with its slots renamed, and the slots
-- outside are renamed.
pub record Renaming (fixed : Fixed) (words : List ℕ) (homes : List Home) : Type 0 where
  pub one_each : HasOneHomeEach homes
  pub survivors : (cell : ℕ) → ((home : Home) × Contains homes home × (home.from ≡ cell)) ↔ IsReachable fixed cell
  pub copied : (home : Home) (offset : ℕ) → Contains homes home → offset < size_of fixed home.from
      → (Contains (offsets_of fixed home.from) offset → ⊥)
      → slice_index words (home.to + offset) ≡ slice_index fixed.before (home.from + offset)
  pub copied_slots : (home : Home) (offset : ℕ) → Contains homes home → Contains (offsets_of fixed home.from) offset
      → IsRenamed homes (slice_index fixed.before (home.from + offset)) (slice_index words (home.to + offset))
  pub slots : (slot : ℕ) → Contains fixed.slots slot
      → IsRenamed homes (slice_index fixed.before slot) (slice_index words slot)

-- every word is as before that is no word of cells, no slot and in no room
abbrev pub Outside : Fixed → List ℕ → Type 0
Outside fixed words =
    (at : ℕ) → (IsInCells fixed at → ⊥) → (Contains fixed.slots at → ⊥) → (IsInRooms fixed at → ⊥)
    → slice_index words at ≡ slice_index fixed.before at
