-- The cells of pages, as the words there read, and what their words refer to.
use Rattle.std.specs.Prelude.{◌≡◌, ℕ, ◌+◌, ◌-◌, ◌*◌, ◌/◌, min, Bool, true, false, not, ◌&&◌, ◌||◌}
use Rattle.std.specs.Prelude.{◌==◌, nat_lt, nat_le, List, [], ◌∷◌, map, slice_index, Option, Some, None, IfSome, IsTrue}
use Rattle.std.specs.Option.{option_and_then}
use Rattle.tagged_word.specs.declared.reading.Reading.{Reading}
use Rattle.tagged_word.specs.Cells.{has_length, length_offset, tagged_offsets}
use Rattle.tagged_word.specs.Readings.{given, reference_in, read_cell}
use Rattle.page_space.specs.Sizes.{page_words}
use Rattle.core_parts.specs.Lists.{is_in}
use Rattle.core_parts.specs.Boards.{joined_by}
use Rattle.mark_world.specs.declared.views.MainView.{MainView}

-- the address behind the page that an address lies in
abbrev pub page_end : ℕ → ℕ
page_end at = page_words * (at / page_words + 1)

-- the cell of a page at an address: it ends in the page that it begins in, and that is one of the pages
abbrev pub cell_at : ℕ → List ℕ → List ℕ → ℕ → Option Reading
cell_at old words layouts at = read_cell words layouts at (min old (page_end at))

-- the offsets of a cell's slots that marking visits: its tagged slots
abbrev pub slots_of : Reading → List ℕ
slots_of cell = tagged_offsets cell.layout cell.length

-- the target of a word: the old address that it refers to
abbrev pub target : ℕ → ℕ → Option ℕ
target old word = option_and_then (λ at. given (nat_lt at old) at) (reference_in word)

-- the word has no target, or this holds of its target
abbrev pub OfTarget : ℕ → ℕ → (ℕ → Type 0) → Type 0
OfTarget old word P = IfSome (target old word) P

-- the list once the targets of words have joined it, one after another
abbrev pub targets_joined : ℕ → List ℕ → List ℕ → List ℕ
targets_joined old list [] = list
targets_joined old list (word ∷ rest) = targets_joined old (joined_by list (target old word)) rest

-- the words of a cell's tagged slots, in order
abbrev pub slot_words : List ℕ → ℕ → Reading → List ℕ
slot_words words start cell = map (λ offset. slice_index words (start + offset)) (slots_of cell)

-- a word's offset in the cell that begins at an address
abbrev pub offset_in : ℕ → ℕ → ℕ
offset_in start at = at - start

-- whether a word lies in the cell that begins at an address; in none where none is read there
abbrev pub is_inside : ℕ → Option Reading → ℕ → Bool
is_inside start None at = false
is_inside start (Some cell) at = nat_le start at && nat_lt at (start + cell.size)

-- whether an offset is that of a cell's header, or of a length that its size is read from
abbrev pub is_head : Reading → ℕ → Bool
is_head cell offset = offset == 0 || (has_length cell.layout.kind && offset == length_offset)

-- whether a word is the header of the cell that begins at an address, or a length that its size is read from
abbrev pub is_head_of : ℕ → Option Reading → ℕ → Bool
is_head_of start None at = false
is_head_of start (Some cell) at = is_inside start (Some cell) at && is_head cell (offset_in start at)

-- whether no helper that reads the cell minds a word of it: it is neither its header, nor a length that its size is
-- read from, nor a tagged slot
abbrev pub is_quiet : Reading → ℕ → Bool
is_quiet cell offset = not (is_head cell offset) && not (is_in (slots_of cell) offset)

-- whether a store into the word leaves the cell that begins at an address alone: the word lies outside, or is a quiet
-- one
abbrev pub leaves_alone : ℕ → Option Reading → ℕ → Bool
leaves_alone start None at = true
leaves_alone start (Some cell) at = not (is_inside start (Some cell) at) || is_quiet cell (offset_in start at)

-- whether an address is a free start: a published cell that the mutator has not made black itself
abbrev pub is_free : MainView → ℕ → Bool
is_free main at = is_in main.starts at && not (is_in main.mine at)

-- this holds of each free start
abbrev pub EachFree : MainView → (ℕ → Type 0) → Type 0
EachFree main P = (start : ℕ) → IsTrue (is_free main start) → P start

-- the word lies in no free start's cell
abbrev pub IsOutside : ℕ → List ℕ → List ℕ → MainView → ℕ → Type 0
IsOutside old words layouts main at =
    EachFree main (λ start. is_inside start (cell_at old words layouts start) at ≡ false)
