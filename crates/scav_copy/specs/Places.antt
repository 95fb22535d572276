-- What no step of a scavenge changes, and the places in it: words of cells, of rooms and of home copies, and live
-- slots.
use Rattle.std.specs.Prelude.{◌≡◌, ℕ, ◌+◌, ◌<◌, ◌≤◌, ◌^◌, List, [], length, Contains, Option, None}
use Rattle.std.specs.Prelude.{Some, IsSome}
use Rattle.tagged_word.specs.declared.reading.Reading.{Reading}
use Rattle.tagged_word.specs.Cells.{scavenge_offsets}
use Rattle.tagged_word.specs.Readings.{read_cell}
use Rattle.scav_copy.specs.declared.places.Home.{Home}
use Rattle.scav_copy.specs.declared.places.Room.{Room}

-- what stays as it is: the words before, a layout word for each shape, the cells that are to be copied, the slots
-- outside that may refer to them, and the rooms that copies may fill
pub record Fixed : Type 0 where
  pub before : List ℕ
  pub layouts : List ℕ
  pub cells : List ℕ
  pub slots : List ℕ
  pub rooms : List Room

-- the greatest address, and so the last at which a cell or a room may end
abbrev pub last_address : ℕ
last_address = 4294967295

-- the cell that stood at an address before, if one did
unfoldable pub cell_before : Fixed → ℕ → Option Reading
cell_before fixed at = read_cell fixed.before fixed.layouts at last_address

-- how many words it has; none has 0
abbrev pub words_in : Option Reading → ℕ
words_in None = 0
words_in (Some cell) = cell.size

-- the offsets of the slots in it that a scavenge visits
abbrev pub offsets_in : Option Reading → List ℕ
offsets_in None = []
offsets_in (Some cell) = scavenge_offsets cell.layout cell.length

-- how many words the cell has that stood at an address before
abbrev pub size_of : Fixed → ℕ → ℕ
size_of fixed cell = words_in (cell_before fixed cell)

-- the offsets of its slots
abbrev pub offsets_of : Fixed → ℕ → List ℕ
offsets_of fixed cell = offsets_in (cell_before fixed cell)

-- the address is one of so many words from another on
pub record IsInRange (first many at : ℕ) : Type 0 where
  pub from : first ≤ at
  pub below : at < first + many

-- the address is one of the words of the cell that stood at another
abbrev pub IsOfCell : Fixed → ℕ → ℕ → Type 0
IsOfCell fixed cell at = IsInRange cell (size_of fixed cell) at

-- the address is one of the room's
pub record IsInRoom (room : Room) (at : ℕ) : Type 0 where
  pub from : room.from ≤ at
  pub below : at < room.to

-- the address is one of the copy's words
abbrev pub IsInCopy : Fixed → Home → ℕ → Type 0
IsInCopy fixed home at = IsInRange home.to (size_of fixed home.from) at

-- the address is a word of a cell that is to be copied
abbrev pub IsInCells : Fixed → ℕ → Type 0
IsInCells fixed at = (cell : ℕ) × Contains fixed.cells cell × IsOfCell fixed cell at

-- the address is a word of a room
abbrev pub IsInRooms : Fixed → ℕ → Type 0
IsInRooms fixed at = (room : Room) × Contains fixed.rooms room × IsInRoom room at

-- the address is a word of a home copy
abbrev pub IsInCopies : Fixed → List Home → ℕ → Type 0
IsInCopies fixed homes at = (home : Home) × Contains homes home × IsInCopy fixed home at

-- Each of `cells` is a cell, all that is named is there and has a reference, and no address is named for two things.
pub record IsLaidOut (fixed : Fixed) : Type 0 where
  pub addressed : length fixed.before ≤ 2 ^ 32
  pub cells_are : (cell : ℕ) → Contains fixed.cells cell → IsSome (cell_before fixed cell)
  pub slots_there : (slot : ℕ) → Contains fixed.slots slot → slot < length fixed.before
  pub rooms_there : (at : ℕ) → IsInRooms fixed at → at < length fixed.before
  pub one_cell : (cell other at : ℕ) → Contains fixed.cells cell → Contains fixed.cells other
      → IsOfCell fixed cell at → IsOfCell fixed other at → cell ≡ other
  pub one_room : (room other : Room) (at : ℕ) → Contains fixed.rooms room → Contains fixed.rooms other
      → IsInRoom room at → IsInRoom other at → room ≡ other
  pub slot_in_no_cell : (at : ℕ) → Contains fixed.slots at → IsInCells fixed at → ⊥
  pub slot_in_no_room : (at : ℕ) → Contains fixed.slots at → IsInRooms fixed at → ⊥
  pub cell_in_no_room : (at : ℕ) → IsInCells fixed at → IsInRooms fixed at → ⊥

-- The slot is live, and its word stood at this place before: one of `slots` stood where it is, and a slot of a home
-- copy in the cell.
pub data StoodAt (fixed : Fixed) (homes : List Home) (slot place : ℕ) : Type 0 where
  itself : Contains fixed.slots slot → slot ≡ place → StoodAt fixed homes slot place
  in_cell : (home : Home) (offset : ℕ) → Contains homes home → Contains (offsets_of fixed home.from) offset
      → home.to + offset ≡ slot → home.from + offset ≡ place → StoodAt fixed homes slot place
