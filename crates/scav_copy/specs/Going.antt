-- A scavenge by one, which goes on from any words and homes that are copying.
use Rattle.std.specs.Prelude.{◌≡◌, ℕ, List, Contains, slice_index, slice_set, Some, None}
use Rattle.tagged_word.specs.declared.word.Class.TheVariants.{Ref}
use Rattle.tagged_word.specs.Words.{bits_of}
use Rattle.tagged_word.specs.Readings.{reference_in, read_cell}
use Rattle.scav_copy.specs.declared.places.Home.{Home}
use Rattle.scav_copy.specs.Places.{Fixed, last_address, cell_before, IsLaidOut, IsInRooms, IsInCopies, StoodAt}
use Rattle.scav_copy.specs.Renamings.{RefersToAddress, IsReachable, Renaming, Outside}
use Rattle.scav_copy.specs.Copies.{with_home, HasNoHome, AreHoused, HomesDisjoint, Copying, IsCopyAt}

-- Steps lead from words and homes to others: a word of a room that is in no home copy is stored; a cell that was
-- reached and has no home gets one, where its words stand; a live slot gets the home of the cell that it referred to.
pub data GoesOn (fixed : Fixed) (words : List ℕ) (homes : List Home) : List ℕ → List Home → Type 0 where
  stays : GoesOn fixed words homes words homes
  fills : (now : List ℕ) (all : List Home) (at word : ℕ) → GoesOn fixed words homes now all → IsInRooms fixed at
      → (IsInCopies fixed all at → ⊥) → GoesOn fixed words homes (slice_set now at word) all
  moves : (now : List ℕ) (all : List Home) (cell to : ℕ) → GoesOn fixed words homes now all → IsReachable fixed cell
      → HasNoHome all cell → IsCopyAt fixed now all cell to
      → GoesOn fixed words homes (slice_set now cell (bits_of (Ref to)))
      (with_home all (record { from = cell; to = to }))
  renames : (now : List ℕ) (all : List Home) (slot place : ℕ) (home : Home) → GoesOn fixed words homes now all
      → StoodAt fixed all slot place → Contains all home → RefersToAddress fixed.before place home.from
      → GoesOn fixed words homes (slice_set now slot (bits_of (Ref home.to))) all

-- The words and homes are copying, and no home of before is lost. Where no live slot refers to one of the cells, all
-- that was reached was copied and renamed, each copy has words of a room to itself, and nothing outside changed.
pub record HasGoneOn (fixed : Fixed) (homes : List Home) (now : List ℕ) (all : List Home) : Type 0 where
  pub copying : Copying fixed now all
  pub kept : (home : Home) → Contains homes home → Contains all home
  pub end : ((slot place cell : ℕ) → StoodAt fixed all slot place → RefersToAddress now slot cell
      → Contains fixed.cells cell
      → ⊥) → Renaming fixed now all × Outside fixed now × AreHoused fixed all × HomesDisjoint fixed all

-- a scavenge may go on from any words and homes that are copying
abbrev pub CopyingGoesOn : Type 0
CopyingGoesOn =
    (fixed : Fixed) (words now : List ℕ) (homes all : List Home) → IsLaidOut fixed → Copying fixed words homes
    → GoesOn fixed words homes now all → HasGoneOn fixed homes now all

-- What is found at a cell that is to be copied, where a live slot refers to it. If it has a home, its header is the
-- reference to that, and the slot may become it. If it has none, it reads as it did before, its header is no reference,
-- and it may get a home.
pub data IsFollowed (fixed : Fixed) (words : List ℕ) (homes : List Home) (place cell : ℕ) : Type 0 where
  has_home : (home : Home) → Contains homes home → reference_in (slice_index words cell) ≡ Some home.to
      → RefersToAddress fixed.before place home.from → IsFollowed fixed words homes place cell
  has_none : HasNoHome homes cell → IsReachable fixed cell → reference_in (slice_index words cell) ≡ None
      → read_cell words fixed.layouts cell last_address ≡ cell_before fixed cell
      → IsFollowed fixed words homes place cell

-- each live slot that refers to a cell that is to be copied may be followed
abbrev pub SlotsAreFollowed : Type 0
SlotsAreFollowed =
    (fixed : Fixed) (words : List ℕ) (homes : List Home) (slot place cell : ℕ) → IsLaidOut fixed
    → Copying fixed words homes → StoodAt fixed homes slot place → RefersToAddress words slot cell
    → Contains fixed.cells cell
    → IsFollowed fixed words homes place cell
