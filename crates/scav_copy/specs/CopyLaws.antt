-- Laws of copying: the start, the three steps, what live slots refer to, and the end.
use Rattle.std.specs.Prelude.{◌≡◌, ℕ, ◌+◌, ◌≤◌, List, [], length, Contains, slice_index, slice_set}
use Rattle.tagged_word.specs.declared.word.Class.TheVariants.{Ref}
use Rattle.tagged_word.specs.Words.{bits_of}
use Rattle.tagged_word.specs.Readings.{read_cell}
use Rattle.scav_copy.specs.declared.places.Home.{Home}
use Rattle.scav_copy.specs.Places.{Fixed, cell_before, size_of, IsLaidOut, IsInRooms, IsInCopies, StoodAt}
use Rattle.scav_copy.specs.Renamings.{RefersToAddress, IsReachable, Renaming, Outside}
use Rattle.scav_copy.specs.Copies.{with_home, HasNoHome, AreHoused, HomesDisjoint, Copying, IsCopyAt}

-- words as before, with no home, are copying
abbrev pub StartIsCopying : Type 0
StartIsCopying = (fixed : Fixed) → Copying fixed fixed.before []

-- a word of a room that is in no home copy may become any
abbrev pub RoomsMayBeFilled : Type 0
RoomsMayBeFilled =
    (fixed : Fixed) (words : List ℕ) (homes : List Home) (at word : ℕ) → IsLaidOut fixed → Copying fixed words homes
    → IsInRooms fixed at → (IsInCopies fixed homes at → ⊥) → Copying fixed (slice_set words at word) homes

-- the header of a cell that was reached and has no home may become the reference to its words, where these stand in a
-- room
abbrev pub CellsMayMove : Type 0
CellsMayMove =
    (fixed : Fixed) (words : List ℕ) (homes : List Home) (cell to : ℕ) → IsLaidOut fixed → Copying fixed words homes
    → IsReachable fixed cell → HasNoHome homes cell → IsCopyAt fixed words homes cell to
    → Copying fixed (slice_set words cell (bits_of (Ref to))) (with_home homes (record { from = cell; to = to }))

-- a live slot that referred to a cell before may become the reference to the cell's home
abbrev pub SlotsMayBeRenamed : Type 0
SlotsMayBeRenamed =
    (fixed : Fixed) (words : List ℕ) (homes : List Home) (slot place : ℕ) (home : Home) → IsLaidOut fixed
    → Copying fixed words homes → StoodAt fixed homes slot place → Contains homes home
    → RefersToAddress fixed.before place home.from → Copying fixed (slice_set words slot (bits_of (Ref home.to))) homes

-- a live slot that refers to one of the cells holds the word that stood at its place before, and the cell is reached
abbrev pub LiveSlotsReferAsBefore : Type 0
LiveSlotsReferAsBefore =
    (fixed : Fixed) (words : List ℕ) (homes : List Home) (slot place cell : ℕ) → IsLaidOut fixed
    → Copying fixed words homes → StoodAt fixed homes slot place → RefersToAddress words slot cell
    → Contains fixed.cells cell
    → (slice_index words slot ≡ slice_index fixed.before place) × IsReachable fixed cell

-- the word of a live slot stood at one place
abbrev pub LiveSlotsHaveOneOrigin : Type 0
LiveSlotsHaveOneOrigin =
    (fixed : Fixed) (words : List ℕ) (homes : List Home) (slot one other : ℕ) → IsLaidOut fixed
    → Copying fixed words homes → StoodAt fixed homes slot one → StoodAt fixed homes slot other → one ≡ other

-- a live slot stays one when a cell gets a home
abbrev pub LiveSlotsStayLive : Type 0
LiveSlotsStayLive =
    (fixed : Fixed) (homes : List Home) (new : Home) (slot place : ℕ) → StoodAt fixed homes slot place
    → StoodAt fixed (with_home homes new) slot place

-- Where no live slot refers to one of the cells, all that was reached was copied and renamed, and nothing outside
-- changed. Each home copy lies in one room and shares no word with another.
abbrev pub EndIsRenaming : Type 0
EndIsRenaming =
    (fixed : Fixed) (words : List ℕ) (homes : List Home) → IsLaidOut fixed → Copying fixed words homes
    → ((slot place cell : ℕ) → StoodAt fixed homes slot place → RefersToAddress words slot cell
    → Contains fixed.cells cell
    → ⊥)
    → Renaming fixed words homes × Outside fixed words × AreHoused fixed homes × HomesDisjoint fixed homes

-- a home copy ends where the words do, or before
abbrev pub CopiesEnd : Type 0
CopiesEnd =
    (fixed : Fixed) (words : List ℕ) (homes : List Home) (home : Home) → IsLaidOut fixed → Copying fixed words homes
    → Contains homes home → home.to + size_of fixed home.from ≤ length words

-- Where a home copy ends at a bound or before, it reads as its cell.
abbrev pub CopiesReadAsCells : Type 0
CopiesReadAsCells =
    (fixed : Fixed) (words : List ℕ) (homes : List Home) (home : Home) (bound : ℕ) → IsLaidOut fixed
    → Copying fixed words homes → Contains homes home → home.to + size_of fixed home.from ≤ bound
    → read_cell words fixed.layouts home.to bound ≡ cell_before fixed home.from
