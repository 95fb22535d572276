-- Following one slot: what is found where it refers to, what a copy makes of words and free runs, and what is done
-- then.
use Rattle.std.specs.Prelude.{◌≡◌, ◌≢◌, ℕ, ◌+◌, ◌-◌, ◌*◌, ◌<◌, ◌≤◌, ◌⊎◌, List, ◌∷◌, Contains, slice_index, slice_set}
use Rattle.std.specs.Prelude.{None}
use Rattle.std.specs.Prelude.{IsTrue}
use Rattle.tagged_word.specs.Cells.{is_free_kind}
use Rattle.tagged_word.specs.declared.word.Class.TheVariants.{Ref}
use Rattle.tagged_word.specs.Words.{bits_of}
use Rattle.tagged_word.specs.Readings.{reference_in}
use Rattle.page_space.specs.Extents.{Space, eden_start, segments_start, half_segments}
use Rattle.word_store.specs.Copies.{copied}
use Rattle.cell_layout.specs.Cells.{IsCell}
use Rattle.free_runs.specs.FreeRuns.{TakesFront}
use Rattle.heap_model.specs.Types.{Cell, Run}
use Rattle.write_barrier.specs.FreeCells.{with_free_cell}
use Rattle.scav_copy.specs.declared.places.Home.{Home}
use Rattle.scav_copy.specs.Places.{Fixed, size_of, StoodAt}
use Rattle.scav_copy.specs.Renamings.{RefersToAddress}
use Rattle.scav_copy.specs.Copies.{with_home}
use Rattle.scavenger.specs.Starts.{Start, IsBegun, room_start}
use Rattle.scavenger.specs.Filling.{CopiesFillRooms, Front, OthersAreDone}

-- the first address of the segments of a half, and the first one behind them
abbrev pub half_start : Space → ℕ → ℕ
half_start space half = segments_start space + space.sizes.young * (half * half_segments space)

abbrev pub half_end : Space → ℕ → ℕ
half_end space half = half_start space half + space.sizes.young * half_segments space

-- the address is in from-space: in eden, or in the half that is left
abbrev pub IsFromSpace : Space → ℕ → ℕ → Type 0
IsFromSpace space left at =
    ((eden_start space ≤ at) × (at < segments_start space))
    ⊎ ((half_start space left ≤ at) × (at < half_end space left))

-- What stands where a live slot refers to, among the words that are left: a header that is the reference to a home; or
-- the cell as it was, for which the segment has words behind the copies.
pub data IsTarget (space : Space) (fixed : Fixed) (words : List ℕ) (homes : List Home) (end fill at : ℕ) : Type 0 where
  forwarded : (home : Home) → Contains homes home → home.from ≡ at → RefersToAddress words at home.to
      → IsTarget space fixed words homes end fill at
  unmoved : (cell : Cell) → reference_in (slice_index words at) ≡ None → IsCell space words cell → cell.at ≡ at
      → cell.size ≡ size_of fixed at → fill + cell.size ≤ end → ((home : Home) → Contains homes home → home.from ≢ at)
      → IsTarget space fixed words homes end fill at

-- Each live slot that refers to such words has a target there, and it is one of the cells.
abbrev pub SlotsHaveTargets : Type 0
SlotsHaveTargets =
    (start : Start) (left : ℕ) (fixed : Fixed) (words : List ℕ) (rows : List (List Run)) (homes : List Home)
    (fill slot place at : ℕ)
    → IsBegun start fixed → start.half + left ≡ 1 → CopiesFillRooms start fixed words rows homes fill
    → StoodAt fixed homes slot place → RefersToAddress words slot at → IsFromSpace start.heap.space left at
    → Contains fixed.cells at
    × IsTarget start.heap.space fixed words homes
    (room_start start.heap.space start.half + start.heap.space.sizes.young)
    fill at

-- the words of the cell copied to an address, and its header made the reference to the copy
abbrev pub moved_words : List ℕ → Cell → ℕ → List ℕ
moved_words words cell to = slice_set (copied words cell.at to cell.size) cell.at (bits_of (Ref to))

-- a free cell stands at the address
pub record IsFreeAt (space : Space) (words : List ℕ) (free : Cell) (at : ℕ) : Type 0 where
  pub is_cell : IsCell space words free
  pub stands : free.at ≡ at
  pub is_free : IsTrue (is_free_kind free.layout.kind)

-- What a copy of a cell to an address makes of the words and the free runs, and up to where the segment is filled then.
-- It goes behind the other copies of the segment; or to a free run, of which the rest is made one free cell first.
pub data Copies (space : Space) (words : List ℕ) (rows : List (List Run)) (fill : ℕ) (cell : Cell)
    : (now : List ℕ) (left : List (List Run)) (behind to : ℕ) → Type 0 where
  stays : Copies space words rows fill cell (moved_words words cell fill) rows (fill + cell.size) fill
  promotes : (left : List (List Run)) (run : Run) (free : Cell) → TakesFront rows left cell.size run
      → IsFreeAt space words free run.at
      → Copies space words rows fill cell
      (moved_words (with_free_cell words (run.at + cell.size) (free.size - cell.size)) cell run.at) left fill run.at

-- So where a live slot refers to a cell that has no home, a copy of it is its home, and is on the list.
pub record HasCopied (start : Start) (fixed : Fixed) (words now : List ℕ) (left : List (List Run)) (homes : List Home)
    (todo : List ℕ) (front : Front) (behind at to : ℕ) : Type 0 where
  pub all : List Home
  pub are : all ≡ with_home homes (record { from = at; to = to })
  pub filled : CopiesFillRooms start fixed now left all behind
  pub others : OthersAreDone start fixed words homes todo front → OthersAreDone start fixed now all (to ∷ todo) front

abbrev pub CopyingGoesOn : Type 0
CopyingGoesOn =
    (start : Start) (left : ℕ) (fixed : Fixed) (words now : List ℕ) (rows after : List (List Run)) (homes : List Home)
    (todo : List ℕ) (front : Front) (cell : Cell) (fill behind to slot place : ℕ)
    → IsBegun start fixed → start.half + left ≡ 1 → CopiesFillRooms start fixed words rows homes fill
    → StoodAt fixed homes slot place → RefersToAddress words slot cell.at → IsFromSpace start.heap.space left cell.at
    → reference_in (slice_index words cell.at) ≡ None → IsCell start.heap.space words cell
    → Copies start.heap.space words rows fill cell now after behind to
    → HasCopied start fixed words now after homes todo front behind cell.at to

-- A live slot that refers to a cell with a home comes to refer to that, and no other is to do beside those before.
pub record HasRenamed (start : Start) (fixed : Fixed) (words now : List ℕ) (rows : List (List Run)) (homes : List Home)
    (todo : List ℕ) (front : Front) (fill slot : ℕ) : Type 0 where
  pub filled : CopiesFillRooms start fixed now rows homes fill
  pub others : OthersAreDone start fixed words homes todo front
      → (other place cell : ℕ) → StoodAt fixed homes other place → RefersToAddress now other cell
      → Contains fixed.cells cell → (other ≢ slot) × RefersToAddress words other cell

abbrev pub RenamingGoesOn : Type 0
RenamingGoesOn =
    (start : Start) (left : ℕ) (fixed : Fixed) (words : List ℕ) (rows : List (List Run)) (homes : List Home)
    (todo : List ℕ) (front : Front) (home : Home) (fill slot place : ℕ)
    → IsBegun start fixed → start.half + left ≡ 1 → CopiesFillRooms start fixed words rows homes fill
    → StoodAt fixed homes slot place → RefersToAddress words slot home.from
    → IsFromSpace start.heap.space left home.from
    → Contains homes home
    → HasRenamed start fixed words (slice_set words slot (bits_of (Ref home.to))) rows homes todo front fill slot
