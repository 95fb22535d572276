-- What workers read, and nobody stores into while they run: the words, the slots that are dealt out, and the cells of
-- eden that these lead to.
use Rattle.std.specs.Prelude.{◌≡◌, ℕ, ◌+◌, ◌*◌, ◌%◌, ◌<◌, ◌≤◌, List, [], ◌++◌, map, Contains, slice_get, slice_index}
use Rattle.std.specs.Prelude.{Some}
use Rattle.std.specs.List.{range_with_len}
use Rattle.tagged_word.specs.Readings.{reference_in}
use Rattle.page_space.specs.Extents.{Space, root_words, eden_start, segments_start, roots_start}
use Rattle.shared_table.specs.Owned.{Own}
use Rattle.cell_layout.specs.declared.cell.Cell.{Cell}
use Rattle.cell_layout.specs.Cells.{IsCell, layouts_in}
use Rattle.scav_copy.specs.Places.{Fixed, size_of, offsets_of, IsOfCell}

-- what no step changes: the words, and the layout words among them
abbrev pub ground : Own → Fixed
ground own = record {
  before = own.words;
  layouts = layouts_in own.space own.words;
  cells = [];
  slots = [];
  rooms = [];
}

-- the word at an address
abbrev pub word_at : Own → ℕ → ℕ
word_at own at = slice_index own.words at

-- how many words the cell at an address has
abbrev pub size_in : Own → ℕ → ℕ
size_in own cell = size_of (ground own) cell

-- the offsets of its slots that a scavenge visits
abbrev pub slots_in : Own → ℕ → List ℕ
slots_in own cell = offsets_of (ground own) cell

-- the word refers to this address, which is one of eden's
pub record RefersToEden (own : Own) (word cell : ℕ) : Type 0 where
  pub refers : reference_in word ≡ Some cell
  pub from : eden_start own.space ≤ cell
  pub below : cell < segments_start own.space

-- which slots a worker is dealt: of all that are outside eden, the one of this number, and each so many after it
pub record Deal : Type 0 where
  pub recorded : List ℕ
  pub first : ℕ
  pub every : ℕ

-- with these recorded slots
abbrev pub deal_of : List ℕ → ℕ → ℕ → Deal
deal_of recorded first every = record { recorded = recorded; first = first; every = every }

-- the slots outside eden that may refer to it, in order: the first root word of each variable, and the recorded slots
abbrev pub outer_slots : Space → List ℕ → List ℕ
outer_slots space recorded =
    map (λ variable. roots_start space + root_words * variable) (range_with_len 0 space.variables) ++ recorded

-- the slot is dealt to the worker
pub record IsDealt (own : Own) (deal : Deal) (slot : ℕ) : Type 0 where
  pub number : ℕ
  pub stands : slice_get (outer_slots own.space deal.recorded) number ≡ Some slot
  pub in_turn : number % deal.every ≡ deal.first

-- a way of references leads to the cell of eden, from a slot that is dealt, through slots of cells of eden
pub data IsLed (own : Own) (deal : Deal) : ℕ → Type 0 where
  by_slot : (slot cell : ℕ) → IsDealt own deal slot → RefersToEden own (word_at own slot) cell → IsLed own deal cell
  by_cell : (host offset cell : ℕ) → IsLed own deal host → Contains (slots_in own host) offset
      → RefersToEden own (word_at own (host + offset)) cell → IsLed own deal cell

-- a cell begins at the address, and ends in eden
pub record StandsInEden (own : Own) (at : ℕ) : Type 0 where
  pub cell : Cell
  pub starts : cell.at ≡ at
  pub is_cell : IsCell own.space own.words cell
  pub from : eden_start own.space ≤ at
  pub below : at < segments_start own.space
  pub some : 1 ≤ size_in own at
  pub ends : at + size_in own at ≤ segments_start own.space

-- What a worker may begin with: each address of eden to which a way leads is that of a cell of eden, and no two of
-- these cells share a word.
pub record MayCopy (own : Own) (deal : Deal) : Type 0 where
  pub stand : (cell : ℕ) → IsLed own deal cell → StandsInEden own cell
  pub apart : (one other at : ℕ) → IsLed own deal one → IsLed own deal other → IsOfCell (ground own) one at
      → IsOfCell (ground own) other at → one ≡ other
