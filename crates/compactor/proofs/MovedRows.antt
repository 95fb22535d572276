-- The cells of a page that is packed stand in a row: the kept ones at their places, and a free one after them.
use Rattle.std.proofs.Common.{◌≡◌, ℕ, ◌+◌, ◌≤◌, ◌<◌, inl, inr, Bool, true, false, List, [], ◌∷◌, Some}
use Rattle.std.proofs.Common.{Option, Contains, IsTrue, length, slice_get, refl, sym, ◌∙◌, ap, subst, arith}
use Rattle.tagged_word.specs.Cells.{has_length, length_by}
use Rattle.tagged_word.proofs.Members.{first_in, rest_in, in_cases}
use Rattle.page_space.specs.declared.region.Region.TheVariants.{Page}
use Rattle.page_space.specs.Extents.{Space, CellsEndAt}
use Rattle.page_space.proofs.Standing.{extent_of}
use Rattle.cell_layout.specs.Cells.{IsCell, IsRow, layouts_in, none, next}
use Rattle.cell_layout.proofs.OneCell.{cells_have_words, slots_lie_within}
use Rattle.cell_layout.proofs.Puts.{two_words}
use Rattle.cell_layout.proofs.Rows.{row_ascends, row_begins}
use Rattle.heap_model.specs.Types.{Cell}
use Rattle.heap_model.proofs.BoundHeaps.{none_in}
use Rattle.heap_model.proofs.CellsApart.{cell_extent_stands}
use Rattle.heap_moves.specs.Moved.{moved_to}
use Rattle.write_barrier.proofs.FirstRuns.{page_among}
use Rattle.compactor.specs.Tables.{Table, place_in}
use Rattle.compactor.specs.Copying.{IsCopy, IsSlotAt, StandsCopied}
use Rattle.compactor.specs.Sliding.{ArePlaced, AreCopied, is_kept, kept_words, page_start, slid_end}
use Rattle.compactor.proofs.Placing.{kept_has, free_has, kept_few}

-- the word of no slot is the same
pub same_raw : {table : Table} {cell : Cell} {offset word now : ℕ} → IsCopy table cell offset word now
    → (IsSlotAt cell offset → ⊥) → now ≡ word
same_raw (IsCopy.slot slot moved) raw = absurd (raw slot)
same_raw (IsCopy.raw not_slot same) raw = same

-- so it stands as it stood
pub raw_stands : {were words : List ℕ} {table : Table} {cell : Cell} {to offset : ℕ}
    → StandsCopied were table cell words to offset → (IsSlotAt cell offset → ⊥)
    → slice_get words (to + offset) ≡ slice_get were (cell.at + offset)
raw_stands stands raw = stands.put ∙ ap (λ w. Some w) (same_raw stands.is raw) ∙ sym stands.read

-- a cell may stand at an address of a page up to its end
pub page_cells_end : (space : Space) (page at : ℕ) → page < space.sizes.pages → page_start page ≤ at
    → at < page_start (page + 1) → CellsEndAt space at (page_start (page + 1))
page_cells_end space page at there from below = record {
  extent = extent_of space (Page page);
  stands = cell_extent_stands space (extent_of space (Page page)) (page_among space page there);
  of_cells = refl;
  holds = record { from = from; below = omega (arith, below) };
  ends = omega arith;
}

-- the length of a cell is read as it was
length_alike : (test : Bool) (one other : Option ℕ) → (IsTrue test → other ≡ one)
    → length_by test other ≡ length_by test one
length_alike true one other same = same refl
length_alike false one other same = refl

-- A cell whose words stand moved at another address is the cell there.
pub cell_stands : (space : Space) (were words : List ℕ) (table : Table) (cell : Cell) (to end : ℕ)
    → IsCell space were cell → CellsEndAt space to end → to + cell.size ≤ end → to + cell.size ≤ length words
    → ((shape : ℕ) → slice_get (layouts_in space words) shape ≡ slice_get (layouts_in space were) shape)
    → ((offset : ℕ) → offset < cell.size → StandsCopied were table cell words to offset)
    → IsCell space words (moved_to cell to)
cell_stands space were words table cell to end is_cell stands ends there layouts copied =
    let reads = is_cell.reads in
    let some = (cells_have_words space were cell is_cell).0 in
    let no_header : IsSlotAt cell 0 → ⊥ = λ slot.
    omega (arith, (slots_lie_within space were cell 0 is_cell slot).behind_header) in
    let here : to + 0 ≡ to = omega arith in
    let was : cell.at + 0 ≡ cell.at = omega arith in
    let first : slice_get words to ≡ slice_get were cell.at =
    ap (λ (n : ℕ). slice_get words n) (sym here)
    ∙ raw_stands (copied 0 (omega (arith, some))) no_header
    ∙ ap (λ (n : ℕ). slice_get were n) was in
    let no_length : IsTrue (has_length cell.layout.kind) → IsSlotAt cell 1 → ⊥ = λ has slot.
    omega (arith, (slots_lie_within space were cell 1 is_cell slot).behind_length has) in
    let second : IsTrue (has_length cell.layout.kind) → slice_get words (to + 1) ≡ slice_get were (cell.at + 1) =
    λ has. raw_stands (copied 1 (two_words space were cell is_cell has)) (no_length has) in
    record {
      end = end;
      stands = stands;
      reads = record {
        is_header = reads.is_header;
        first = first ∙ reads.first;
        known = reads.known;
        is_layout = reads.is_layout;
        of_shape = layouts cell.header.shape ∙ reads.of_shape;
        second = length_alike (has_length cell.layout.kind) (slice_get were (cell.at + 1)) (slice_get words (to + 1))
            second ∙ reads.second;
        sized = reads.sized;
        ends = ends;
        there = there;
      };
    }

-- the first of some cells and the others, if it is kept
abbrev pub kept_first : Bool → Cell → List Cell → List Cell
kept_first true cell more = cell ∷ more
kept_first false cell more = more

-- the kept ones of these cells at their places
abbrev pub slid_cells : Table → List Cell → List Cell
slid_cells table [] = []
slid_cells table (cell ∷ more) =
    kept_first (is_kept cell) (moved_to cell (place_in table cell.at)) (slid_cells table more)

-- the parts of a page that are known where its cells come to stand
pub record StandsIn (space : Space) (were words : List ℕ) (table : Table) (page : ℕ) : Type 0 where
  pub there : page < space.sizes.pages
  pub long : length words ≡ length were
  pub all : page_start (page + 1) ≤ length were
  pub layouts : (shape : ℕ)
      → slice_get (layouts_in space words) shape ≡ slice_get (layouts_in space were) shape

-- a kept cell stands before the others, and a free one is left out
slid_step : {space : Space} {were words : List ℕ} {table : Table} {page : ℕ} (test : Bool) (first end : ℕ) (cell : Cell)
    (cells : List Cell) → is_kept cell ≡ test → StandsIn space were words table page → page_start page ≤ first
    → first ≤ cell.at → cell.at + cell.size ≤ page_start (page + 1) → IsCell space were cell
    → ArePlaced table first (cell ∷ cells) → AreCopied were table (cell ∷ cells) words
    → IsRow space words (first + kept_words cell) end (slid_cells table cells)
    → IsRow space words first end (slid_cells table (cell ∷ cells))
slid_step {space} {were} {words} {table} {page} true first end cell cells kept known from early within is_cell placed
    copied rest =
    let place : place_in table cell.at ≡ first = placed.0 kept in
    let some = (cells_have_words space were cell is_cell).0 in
    let moved : Cell = moved_to cell (place_in table cell.at) in
    let stands : IsCell space words moved =
    cell_stands space were words table cell (place_in table cell.at) (page_start (page + 1)) is_cell
    (page_cells_end space page (place_in table cell.at) known.there (omega (arith, place, from))
    (omega (arith, place, early, within, some))) (omega (arith, place, early, within))
    (omega (arith, place, early, within, known.all, known.long)) known.layouts
    (λ offset below. copied cell offset (first_in cell cells) kept below) in
    let From : ℕ → Type 0 = λ at. IsRow space words at end (slid_cells table cells) in
    let behind : first + kept_words cell ≡ moved.at + moved.size = omega (arith, place, kept_has cell kept) in
    let all : IsRow space words moved.at end (moved ∷ slid_cells table cells) =
    next moved end (slid_cells table cells) stands (subst From behind rest) in
    let Row_of : List Cell → Type 0 = λ row. IsRow space words first end row in
    subst Row_of (sym (ap (λ t. kept_first t moved (slid_cells table cells)) kept))
    (subst (λ (at : ℕ). IsRow space words at end (moved ∷ slid_cells table cells)) place all)
slid_step {space} {words = words} {table} false first end cell cells free known from early within is_cell placed copied
    rest =
    let same : first + kept_words cell ≡ first = omega (arith, free_has cell free) in
    let moved : Cell = moved_to cell (place_in table cell.at) in
    let Row_of : List Cell → Type 0 = λ row. IsRow space words first end row in
    subst Row_of (sym (ap (λ t. kept_first t moved (slid_cells table cells)) free))
    (subst (λ (at : ℕ). IsRow space words at end (slid_cells table cells)) same rest)

-- Kept cells stand in a row, one where another ends.
pub slid_stand : {space : Space} {were words : List ℕ} {table : Table} {page : ℕ} (first at end : ℕ)
    (cells : List Cell) → StandsIn space were words table page → page_start page ≤ first → first ≤ at
    → end ≤ page_start (page + 1) → IsRow space were at end cells → ArePlaced table first cells
    → AreCopied were table cells words → IsRow space words first (slid_end first cells) (slid_cells table cells)
slid_stand first at end [] known from before within row placed copied = none first
slid_stand {space} {were} {words} {table} first at end (cell ∷ cells) known from before within row placed copied =
    let begins = row_begins row in
    let early : first ≤ cell.at = omega (arith, before, begins.starts) in
    let ends = row_ascends space were (cell.at + cell.size) end cells begins.rest in
    slid_step (is_kept cell) first (slid_end (first + kept_words cell) cells) cell cells refl known from early
    (omega (arith, ends, within)) begins.is_cell placed copied
    (slid_stand (first + kept_words cell) (cell.at + cell.size) end cells known (omega (arith, from))
    (omega (arith, early, kept_few cell)) within begins.rest placed.1
    (λ one offset among. copied one offset (rest_in cell cells one among)))

-- each kept cell is among those at their places
in_slid_by : (table : Table) (test : Bool) (cell one : Cell) (cells : List Cell) → is_kept cell ≡ test
    → Contains (slid_cells table cells) one → Contains (slid_cells table (cell ∷ cells)) one
in_slid_by table true cell one cells is there =
    let moved : Cell = moved_to cell (place_in table cell.at) in
    subst (λ (all : List Cell). Contains all one) (sym (ap (λ t. kept_first t moved (slid_cells table cells)) is))
    (rest_in moved (slid_cells table cells) one there)
in_slid_by table false cell one cells is there =
    let moved : Cell = moved_to cell (place_in table cell.at) in
    subst (λ (all : List Cell). Contains all one) (sym (ap (λ t. kept_first t moved (slid_cells table cells)) is)) there

-- whatever stands before it
pub in_slid : (table : Table) (cells : List Cell) (cell : Cell) → Contains cells cell → is_kept cell ≡ true
    → Contains (slid_cells table cells) (moved_to cell (place_in table cell.at))
in_slid table [] cell there kept = absurd (none_in cell there)
in_slid table (first ∷ cells) cell there kept = elim (in_cases first cells cell there) [
  | inl same ↦
      let here : Contains (slid_cells table (first ∷ cells)) (moved_to first (place_in table first.at)) =
      let moved : Cell = moved_to first (place_in table first.at) in
      subst (λ (all : List Cell). Contains all moved)
      (sym (ap (λ t. kept_first t moved (slid_cells table cells)) (ap is_kept same ∙ kept)))
      (first_in moved (slid_cells table cells)) in
      subst (λ (one : Cell). Contains (slid_cells table (first ∷ cells))
      (moved_to one (place_in table one.at))) same here
  | inr later ↦
      in_slid_by table (is_kept first) first (moved_to cell (place_in table cell.at)) cells refl
      (in_slid table cells cell later kept)
]

-- a cell of these that is kept and comes to stand as another
pub record ComesFrom (table : Table) (cells : List Cell) (now : Cell) : Type 0 where
  pub cell : Cell
  pub among : Contains cells cell
  pub kept : is_kept cell ≡ true
  pub is : now ≡ moved_to cell (place_in table cell.at)

-- what comes from some of these comes from one more
from_more : {table : Table} {cells : List Cell} {now : Cell} (first : Cell) → ComesFrom table cells now
    → ComesFrom table (first ∷ cells) now
from_more {cells = cells} first from = record {
  cell = from.cell;
  among = rest_in first cells from.cell from.among;
  kept = from.kept;
  is = from.is;
}

-- what stands at its place comes from one of them, by whether the first is kept
slid_from_by : (table : Table) (test : Bool) (first now : Cell) (cells : List Cell) → is_kept first ≡ test
    → (Contains (slid_cells table cells) now → ComesFrom table cells now)
    → Contains (kept_first test (moved_to first (place_in table first.at)) (slid_cells table cells)) now
    → ComesFrom table (first ∷ cells) now
slid_from_by table true first now cells is rest there =
    let moved : Cell = moved_to first (place_in table first.at) in
    elim (in_cases moved (slid_cells table cells) now there) [
      | inl same ↦ record { cell = first; among = first_in first cells; kept = is; is = sym same }
      | inr later ↦ from_more first (rest later)
    ]
slid_from_by table false first now cells is rest there = from_more first (rest there)

-- So each cell at its place comes from one of them.
pub slid_from : (table : Table) (cells : List Cell) (now : Cell) → Contains (slid_cells table cells) now
    → ComesFrom table cells now
slid_from table [] now there = absurd (none_in now there)
slid_from table (first ∷ cells) now there =
    slid_from_by table (is_kept first) first now cells refl (slid_from table cells now) there
