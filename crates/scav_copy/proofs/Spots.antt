-- Places of a scavenge: words of cells, of rooms and of home copies, and live slots among them.
use Rattle.std.proofs.Common.{ℕ, ◌<◌, ◌≤◌, ◌+◌, ◌^◌, ◌≡◌, ◌≢◌, List, [], length, set, get_or}
use Rattle.std.proofs.Common.{Option, Some, None, IsSome}
use Rattle.std.proofs.Common.{arith, refl, sym, subst, ◌∙◌}
use Rattle.std.specs.List.{Contains}
use Rattle.std.proofs.lemmas.List.{get_or-set_other}
use Rattle.tagged_word.specs.declared.reading.Reading.{Reading}
use Rattle.tagged_word.specs.declared.word.Class.TheVariants.{Ref}
use Rattle.tagged_word.specs.Words.{bits_of}
use Rattle.tagged_word.specs.Readings.{read_cell, reference_in}
use Rattle.tagged_word.proofs.Cells.{size_bounds, slot_within, some_same}
use Rattle.tagged_word.proofs.CellReadings.{cell_from}
use Rattle.tagged_word.proofs.Readings.{reference_to}
use Rattle.scav_copy.specs.declared.places.Home.{Home}
use Rattle.scav_copy.specs.Places.{Fixed, last_address, cell_before, words_in, offsets_in, size_of, offsets_of}
use Rattle.scav_copy.specs.Places.{IsInRange}
use Rattle.scav_copy.specs.Places.{IsOfCell}
use Rattle.scav_copy.specs.Places.{IsInCopy, IsInCells, IsInRooms, IsLaidOut, StoodAt}
use Rattle.scav_copy.specs.Renamings.{IsReachable}
use Rattle.scav_copy.specs.Copies.{Copying, IsKeptOrRenamed}

-- no element is in an empty list
pub none_in : {X : Type 0} (x : X) → Contains [] x → ⊥
none_in x (k, l, e) = omega arith

-- a cell that is read has a word at least
read_words : (words layouts : List ℕ) (at bound : ℕ) (cell : Option Reading)
    → read_cell words layouts at bound ≡ cell → IsSome cell → 1 ≤ words_in cell
read_words words layouts at bound None e is = cc
read_words words layouts at bound (Some cell) e is =
    (size_bounds cell.layout cell.length cell.size (cell_from words layouts at bound cell e).sized).0

-- each of its slots lies in it, behind the header
read_slots : (words layouts : List ℕ) (at bound : ℕ) (cell : Option Reading) (offset : ℕ)
    → read_cell words layouts at bound ≡ cell → Contains (offsets_in cell) offset
    → (1 ≤ offset) × (offset < words_in cell)
read_slots words layouts at bound None offset e there = absurd (none_in offset there)
read_slots words layouts at bound (Some cell) offset e there =
    let reads = cell_from words layouts at bound cell e in
    slot_within cell.layout cell.length cell.size offset reads.is_layout reads.sized there

-- a cell that stood before has a word at least
words_least : (fixed : Fixed) (cell : ℕ) → IsSome (cell_before fixed cell) → 1 ≤ size_of fixed cell
unfolding cell_before
words_least fixed cell is =
    read_words fixed.before fixed.layouts cell last_address (cell_before fixed cell) refl is

-- a cell that is read is there
read_there : (words layouts : List ℕ) (at bound : ℕ) (cell : Option Reading)
    → read_cell words layouts at bound ≡ cell → IsSome cell → at + words_in cell ≤ length words
read_there words layouts at bound None e is = cc
read_there words layouts at bound (Some cell) e is = (cell_from words layouts at bound cell e).there

-- a cell that stood before ended there
pub cell_ends : (fixed : Fixed) (cell : ℕ) → IsSome (cell_before fixed cell)
    → cell + size_of fixed cell ≤ length fixed.before
unfolding cell_before
cell_ends fixed cell is = read_there fixed.before fixed.layouts cell last_address (cell_before fixed cell) refl is

-- the address of a cell that stood before was there
pub cell_within : (fixed : Fixed) (cell : ℕ) → IsSome (cell_before fixed cell) → cell < length fixed.before
cell_within fixed cell is =
    let some : 1 ≤ size_of fixed cell = words_least fixed cell is in
    let ends : cell + size_of fixed cell ≤ length fixed.before = cell_ends fixed cell is in
    omega (arith, some, ends)

-- a slot of a cell lies in it, behind the header
pub slot_in_cell : (fixed : Fixed) (cell offset : ℕ) → Contains (offsets_of fixed cell) offset
    → (1 ≤ offset) × (offset < size_of fixed cell)
unfolding cell_before
slot_in_cell fixed cell offset there =
    read_slots fixed.before fixed.layouts cell last_address (cell_before fixed cell) offset refl there

-- a cell that is to be copied has a word at least
pub some_words : {fixed : Fixed} (cell : ℕ) → IsLaidOut fixed → Contains fixed.cells cell → 1 ≤ size_of fixed cell
some_words {fixed} cell laid there = words_least fixed cell (laid.cells_are cell there)

-- a cell that was reached is one that is to be copied
pub reached_is : (fixed : Fixed) (cell : ℕ) → IsReachable fixed cell → Contains fixed.cells cell
reached_is fixed _ (IsReachable.by_slot slot cell there refers is) = is
reached_is fixed _ (IsReachable.by_cell host offset cell from there refers is) = is

-- the address of a cell is in it
pub cell_itself : {fixed : Fixed} (cell : ℕ) → IsLaidOut fixed → Contains fixed.cells cell → IsOfCell fixed cell cell
cell_itself {fixed} cell laid there =
    let some : 1 ≤ size_of fixed cell = some_words cell laid there in
    record { from = omega arith; below = omega arith }

-- so many words from an address on have the one behind some of them
pub within_by : (first many offset at : ℕ) → offset < many → first + offset ≡ at → IsInRange first many at
within_by first many offset at less e = record { from = omega arith; below = omega arith }

-- a cell with a home is one that is to be copied
pub from_is : {fixed : Fixed} {words : List ℕ} {homes : List Home} (home : Home) → Copying fixed words homes
    → Contains homes home → Contains fixed.cells home.from
from_is {fixed} home copying there = reached_is fixed home.from (copying.reached home there)

-- the address of a home is in its copy
pub home_itself : {fixed : Fixed} {words : List ℕ} {homes : List Home} (home : Home) → IsLaidOut fixed
    → Copying fixed words homes → Contains homes home → IsInCopy fixed home home.to
home_itself {fixed} home laid copying there =
    let some : 1 ≤ size_of fixed home.from = some_words home.from laid (from_is home copying there) in
    record { from = omega arith; below = omega arith }

-- the words of a copy are words of a room
pub copy_in_room : {fixed : Fixed} {words : List ℕ} {homes : List Home} (home : Home) (at : ℕ)
    → Copying fixed words homes → Contains homes home → IsInCopy fixed home at → IsInRooms fixed at
copy_in_room {fixed} home at copying there has =
    let housed = copying.housed home there in
    let lies = housed.1 in (
      housed.0,
      lies.among,
      record {
        from = omega (arith, has.from, lies.from);
        below = omega (arith, has.below, lies.ends);
      },
    )

-- a live slot is no word of a cell that is to be copied
pub live_in_no_cell : {fixed : Fixed} {words : List ℕ} {homes : List Home} (slot place : ℕ) → IsLaidOut fixed
    → Copying fixed words homes → StoodAt fixed homes slot place → IsInCells fixed slot → ⊥
live_in_no_cell slot place laid copying (StoodAt.itself there same) inside = laid.slot_in_no_cell slot there inside
live_in_no_cell {fixed} slot place laid copying (StoodAt.in_cell home offset there is e f) inside =
    let has = within_by home.to (size_of fixed home.from) offset slot (slot_in_cell fixed home.from offset is).1 e in
    laid.cell_in_no_room slot inside (copy_in_room home slot copying there has)

-- a live slot is there
pub live_is_there : {fixed : Fixed} {words : List ℕ} {homes : List Home} (slot place : ℕ) → IsLaidOut fixed
    → Copying fixed words homes → StoodAt fixed homes slot place → slot < length fixed.before
live_is_there slot place laid copying (StoodAt.itself there same) = laid.slots_there slot there
live_is_there {fixed} slot place laid copying (StoodAt.in_cell home offset there is e f) =
    let has = within_by home.to (size_of fixed home.from) offset slot (slot_in_cell fixed home.from offset is).1 e in
    laid.rooms_there slot (copy_in_room home slot copying there has)

-- a home has an address that a reference may have
pub home_fits : {fixed : Fixed} {words : List ℕ} {homes : List Home} (home : Home) → IsLaidOut fixed
    → Copying fixed words homes → Contains homes home → home.to < 2 ^ 32
home_fits {fixed} home laid copying there =
    let inside : home.to < length fixed.before =
    laid.rooms_there home.to (copy_in_room home home.to copying there (home_itself home laid copying there)) in
    omega (arith, inside, laid.addressed)

-- the reference to a home refers to no cell that is to be copied
pub home_is_no_cell : {fixed : Fixed} {words : List ℕ} {homes : List Home} (home : Home) (word cell : ℕ)
    → IsLaidOut fixed
    → Copying fixed words homes → Contains homes home → word ≡ bits_of (Ref home.to) → reference_in word ≡ Some cell
    → Contains fixed.cells cell → ⊥
home_is_no_cell {fixed} home word cell laid copying there e refers is =
    let same : home.to ≡ cell =
    some_same (reference_to word home.to (home_fits home laid copying there) e) refers in
    laid.cell_in_no_room home.to (cell, is, subst (IsOfCell fixed cell) (sym same) (cell_itself cell laid is))
    (copy_in_room home home.to copying there (home_itself home laid copying there))

-- a word other than the one that is stored stays
pub elsewhere : (words : List ℕ) (at word other : ℕ) → other ≢ at
    → get_or (set words at word) other 0 ≡ get_or words other 0
elsewhere words at word other apart = get_or-set_other words at other word 0 apart

-- what is as it was or renamed is so by an equal word
pub same_word : {homes : List Home} {old new other : ℕ} → other ≡ new → IsKeptOrRenamed homes old new
    → IsKeptOrRenamed homes old other
same_word e (IsKeptOrRenamed.kept is) = IsKeptOrRenamed.kept (e ∙ is)
same_word e (IsKeptOrRenamed.renamed home there was is) = IsKeptOrRenamed.renamed home there was (e ∙ is)
