-- What a snap names: which slots its cell has, by what was read of it.
use Rattle.std.specs.Prelude.{ℕ, ◌+◌, Bool, false, not, ◌&&◌, nat_le, nat_lt, List, All, Contains, map}
use Rattle.std.specs.Prelude.{Option, Some, None, if◌then◌else◌}
use Rattle.tagged_word.specs.declared.header.Header.{Header}
use Rattle.tagged_word.specs.declared.layout.LayoutWord.{LayoutWord}
use Rattle.tagged_word.specs.Cells.{cell_size, has_length, marks_by_length, tagged_offsets}
use Rattle.tagged_word.specs.Readings.{header_in, layout_in}
use Rattle.tagged_word.specs.Shapes.{shapes_most}
use Rattle.mark_world.specs.declared.snap.Snap.{Snap}
use Rattle.mark_world.specs.Pages.{page_end}

-- What a snap names: not known, since a word that tells it is still unread; no cell; or a cell with tagged slots at
-- offsets.
pub data Named : Type 0 where
  unread : Named
  no_cell : Named
  slots : List ℕ → Named

-- The size of a cell as far as marking asks for it. It does not ask for the lengths of tables and gaps, which have no
-- tagged slots: of them it knows no word.
abbrev pub known_size : LayoutWord → ℕ → Option ℕ
known_size layout long =
    if has_length layout.kind && not (marks_by_length layout.kind) then Some 0 else cell_size layout long

-- whether a cell of a size ends in the page that it begins in; one that has no size does not
abbrev pub is_in_page : ℕ → Option ℕ → Bool
is_in_page start None = false
is_in_page start (Some size) = nat_le (start + size) (page_end start)

-- a cell with a layout and a length, if it is in its page
abbrev pub named_slots : ℕ → LayoutWord → ℕ → Named
named_slots start layout long =
    if is_in_page start (known_size layout long) then slots (tagged_offsets layout long) else no_cell

-- a cell of which marking asks the length, before it is read: even the shortest may pass the page
abbrev pub named_unread : ℕ → LayoutWord → Named
named_unread start layout = if is_in_page start (known_size layout 0) then unread else no_cell

-- a cell with a layout, by the length that was read
abbrev pub named_long : ℕ → LayoutWord → Option ℕ → Named
named_long start layout None = named_unread start layout
named_long start layout (Some long) = named_slots start layout long

-- a cell with a layout, if its word is one's
abbrev pub named_laid : ℕ → Option ℕ → Option LayoutWord → Named
named_laid start long None = no_cell
named_laid start long (Some layout) =
    if marks_by_length layout.kind then named_long start layout long else named_slots start layout 0

-- a cell by the layout word that was read
abbrev pub named_shaped : ℕ → Option ℕ → Option ℕ → Named
named_shaped start long None = unread
named_shaped start long (Some word) = named_laid start long (layout_in word)

-- whether there may be the shape
abbrev pub is_shape : Header → Bool
is_shape header = nat_lt header.shape shapes_most

-- a cell by its header, if its word is one's
abbrev pub named_headed : ℕ → Option ℕ → Option ℕ → Option Header → Named
named_headed start layout long None = no_cell
named_headed start layout long (Some header) = if is_shape header then named_shaped start long layout else no_cell

-- what a snap names
abbrev pub named : Snap → Named
named snap = named_headed snap.cell snap.layout snap.length (header_in snap.header)

-- the offsets of the slots that were read
abbrev pub read_offsets : Snap → List ℕ
read_offsets snap = map (λ slot. slot.offset) snap.slots

-- the words that were read in slots
abbrev pub read_words : Snap → List ℕ
read_words snap = map (λ slot. slot.word) snap.slots

-- the slot is named, and is still to be read
abbrev pub IsToRead : Named → List ℕ → ℕ → Type 0
IsToRead unread read offset = ⊥
IsToRead no_cell read offset = ⊥
IsToRead (slots offsets) read offset = Contains offsets offset × (Contains read offset → ⊥)

-- nothing is left to read: no cell is named, or each slot that is named was read
abbrev pub IsReadOut : Named → List ℕ → Type 0
IsReadOut unread read = ⊥
IsReadOut no_cell read = Unit {0}
IsReadOut (slots offsets) read = All (λ offset. Contains read offset) offsets
