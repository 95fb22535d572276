-- What holds between two steps of a scavenge.
use Rattle.std.specs.Prelude.{◌≡◌, ◌≢◌, ℕ, ◌+◌, ◌<◌, ◌≤◌, List, [], ◌∷◌, length, Contains}
use Rattle.std.specs.Prelude.{AllPairs, slice_index}
use Rattle.std.specs.Prelude.{nat_lt, if◌then◌else◌}
use Rattle.tagged_word.specs.declared.word.Class.TheVariants.{Ref}
use Rattle.tagged_word.specs.Words.{bits_of}
use Rattle.scav_copy.specs.declared.places.Home.{Home}
use Rattle.scav_copy.specs.declared.places.Room.{Room}
use Rattle.scav_copy.specs.Places.{Fixed, size_of, offsets_of, IsInCopy, StoodAt}
use Rattle.scav_copy.specs.Renamings.{IsReachable, Outside}

-- the homes with one more, in ascending order of the cells
abbrev pub with_home : List Home → Home → List Home
with_home [] new = new ∷ []
with_home (home ∷ homes) new =
    if nat_lt new.from home.from then new ∷ (home ∷ homes) else home ∷ with_home homes new

-- the word is as it was, or was a reference to a cell that has a home and is that to the home
pub data IsKeptOrRenamed (homes : List Home) (old new : ℕ) : Type 0 where
  kept : new ≡ old → IsKeptOrRenamed homes old new
  renamed : (home : Home) → Contains homes home → old ≡ bits_of (Ref home.from) → new ≡ bits_of (Ref home.to)
      → IsKeptOrRenamed homes old new

-- the cell has no home
abbrev pub HasNoHome : List Home → ℕ → Type 0
HasNoHome homes cell = (home : Home) → Contains homes home → home.from ≢ cell

-- the header of the cell is the reference to its home, or where it has none, the word of before
pub data HasHeader (fixed : Fixed) (words : List ℕ) (homes : List Home) (cell : ℕ) : Type 0 where
  forwarded : (home : Home) → Contains homes home → home.from ≡ cell → slice_index words cell ≡ bits_of (Ref home.to)
      → HasHeader fixed words homes cell
  unmoved : HasNoHome homes cell → slice_index words cell ≡ slice_index fixed.before cell
      → HasHeader fixed words homes cell

-- so many words from an address on lie in the room
pub record LiesInRoom (fixed : Fixed) (room : Room) (first many : ℕ) : Type 0 where
  pub among : Contains fixed.rooms room
  pub from : room.from ≤ first
  pub ends : first + many ≤ room.to

-- each home copy lies in one room
abbrev pub AreHoused : Fixed → List Home → Type 0
AreHoused fixed homes =
    (home : Home) → Contains homes home → (room : Room) × LiesInRoom fixed room home.to (size_of fixed home.from)

-- no word is one of two home copies
abbrev pub HomesDisjoint : Fixed → List Home → Type 0
HomesDisjoint fixed homes =
    (one other : Home) (at : ℕ) → Contains homes one → Contains homes other → IsInCopy fixed one at
    → IsInCopy fixed other at → one ≡ other

-- Words in which some cells have homes: each is reached, and its copy has room and words of its own. Cells are as
-- before but for headers that refer to homes. Copies are their cells, and live slots are as before or renamed.
pub record Copying (fixed : Fixed) (words : List ℕ) (homes : List Home) : Type 0 where
  pub long : length words ≡ length fixed.before
  pub ascend : AllPairs (λ one other. one.from < other.from) homes
  pub reached : (home : Home) → Contains homes home → IsReachable fixed home.from
  pub housed : AreHoused fixed homes
  pub apart : HomesDisjoint fixed homes
  pub headers : (cell : ℕ) → Contains fixed.cells cell → HasHeader fixed words homes cell
  pub bodies : (cell offset : ℕ) → Contains fixed.cells cell → 1 ≤ offset → offset < size_of fixed cell
      → slice_index words (cell + offset) ≡ slice_index fixed.before (cell + offset)
  pub copied : (home : Home) (offset : ℕ) → Contains homes home → offset < size_of fixed home.from
      → (Contains (offsets_of fixed home.from) offset → ⊥)
      → slice_index words (home.to + offset) ≡ slice_index fixed.before (home.from + offset)
  pub live : (slot place : ℕ) → StoodAt fixed homes slot place
      → IsKeptOrRenamed homes (slice_index fixed.before place) (slice_index words slot)
  pub outside : Outside fixed words

-- The words of the cell stand as before from an address on, in one room and in no home copy.
pub record IsCopyAt (fixed : Fixed) (words : List ℕ) (homes : List Home) (cell to : ℕ) : Type 0 where
  pub room : Room
  pub lies : LiesInRoom fixed room to (size_of fixed cell)
  pub apart : (home : Home) (at : ℕ) → Contains homes home → IsInCopy fixed home at
      → IsInCopy fixed (record { from = cell; to = to }) at → ⊥
  pub whole : (offset : ℕ) → offset < size_of fixed cell
      → slice_index words (to + offset) ≡ slice_index fixed.before (cell + offset)
