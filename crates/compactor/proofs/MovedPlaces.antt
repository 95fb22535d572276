-- Where the cells of a heap come: a function of their addresses.
use Rattle.std.proofs.Common.{◌≡◌, ℕ, ◌≤◌, ◌<◌, inl, inr, Bool, true, false, List, [], ◌∷◌, Option, Some, None}
use Rattle.std.proofs.Common.{Contains, nat_lt, ◌==◌, if◌then◌else◌, refl, sym, ◌∙◌, ap, subst, arith}
use Rattle.std.specs.List.{flat_map}
use Rattle.std.proofs.lemmas.Bool.{false≢true, lt-ltb, le-ltb}
use Rattle.std.proofs.lemmas.Bool.Decides.{nat_tests}
use Rattle.std.proofs.lemmas.Option.{same_Some, none-some}
use Rattle.tagged_word.proofs.Members.{first_in, rest_in, in_cases}
use Rattle.heap_model.specs.Types.{Cell}
use Rattle.heap_model.specs.Heaps.{Heap, Row, HasCell, words_of_cell}
use Rattle.heap_model.specs.Wholeness.{HasRows}
use Rattle.heap_model.proofs.BoundHeaps.{none_in}
use Rattle.heap_model.proofs.CellsApart.{one_at}
use Rattle.heap_model.proofs.RegionRows.{row_is, row_of}
use Rattle.heap_model.proofs.RowCovers.{from_one, of_one}
use Rattle.heap_model.proofs.RowEnds.{one_used_row}
use Rattle.compactor.specs.Tables.{Table, place_in}
use Rattle.compactor.specs.Sliding.{is_kept}

-- the place of the cell at an address: that of a page by the table, and any other stays
abbrev pub place_of : Table → ℕ → ℕ
place_of table at = if nat_lt at table.bound then place_in table at else at

-- a cell of a page comes to its place
pub place_of_page : (table : Table) (at : ℕ) → at < table.bound → place_of table at ≡ place_in table at
place_of_page table at below = ap (λ test. if test then place_in table at else at) (lt-ltb at table.bound below)

-- and any other stays
pub place_of_young : (table : Table) (at : ℕ) → table.bound ≤ at → place_of table at ≡ at
place_of_young table at past = ap (λ test. if test then place_in table at else at) (le-ltb at table.bound past)

-- where the cell at an address comes, if it is the cell
abbrev pub place_by : Bool → Bool → Table → ℕ → Option ℕ → Option ℕ
place_by true true table at other = Some (place_of table at)
place_by true false table at other = other
place_by false kept table at other = other

-- where what stands at an address comes, if a kept one of these cells stands there
abbrev pub place_among : Table → List Cell → ℕ → Option ℕ
place_among table [] at = None
place_among table (cell ∷ more) at = place_by (cell.at == at) (is_kept cell) table at (place_among table more at)

-- a kept cell of these stands at the address, and comes there
pub record IsPlaced (table : Table) (cells : List Cell) (at now : ℕ) : Type 0 where
  pub cell : Cell
  pub among : Contains cells cell
  pub stands : cell.at ≡ at
  pub kept : is_kept cell ≡ true
  pub comes : now ≡ place_of table at

-- if one of some does, one of one more does
placed_more : {table : Table} {cells : List Cell} {at now : ℕ} (first : Cell) → IsPlaced table cells at now
    → IsPlaced table (first ∷ cells) at now
placed_more {cells = cells} first placed = record {
  cell = placed.cell;
  among = rest_in first cells placed.cell placed.among;
  stands = placed.stands;
  kept = placed.kept;
  comes = placed.comes;
}

-- what comes somewhere is such a cell, by whether the first is
placed_by : (table : Table) (first : Cell) (cells : List Cell) (at now : ℕ) (here kept : Bool)
    → (here ≡ true → first.at ≡ at) → is_kept first ≡ kept
    → (place_among table cells at ≡ Some now → IsPlaced table cells at now)
    → place_by here kept table at (place_among table cells at) ≡ Some now → IsPlaced table (first ∷ cells) at now
placed_by table first cells at now true true stands kept rest is = record {
  cell = first;
  among = first_in first cells;
  stands = stands refl;
  kept = kept;
  comes = sym (same_Some (place_of table at) now is);
}
placed_by table first cells at now true false stands kept rest is = placed_more first (rest is)
placed_by table first cells at now false kept stands is_kept_too rest is = placed_more first (rest is)

-- what comes somewhere is such a cell
pub placed_is : (table : Table) (cells : List Cell) (at now : ℕ) → place_among table cells at ≡ Some now
    → IsPlaced table cells at now
placed_is table [] at now is = absurd (none-some now is)
placed_is table (first ∷ cells) at now is =
    placed_by table first cells at now (first.at == at) (is_kept first) (λ same. grind (arith, nat_tests, same)) refl
    (placed_is table cells at now) is

-- whether the first of some cells is there or not, what comes to a place comes to it
comes_by : (table : Table) (here kept : Bool) (at : ℕ) (other : Option ℕ) → other ≡ Some (place_of table at)
    → place_by here kept table at other ≡ Some (place_of table at)
comes_by table true true at other is = refl
comes_by table true false at other is = is
comes_by table false kept at other is = is

-- and such a cell comes there
pub comes_there : (table : Table) (cells : List Cell) (cell : Cell) → Contains cells cell → is_kept cell ≡ true
    → place_among table cells cell.at ≡ Some (place_of table cell.at)
comes_there table [] cell there kept = absurd (none_in cell there)
comes_there table (first ∷ cells) cell there kept = elim (in_cases first cells cell there) [
  | inl same ↦
      let there_too : first.at ≡ cell.at = ap (λ (one : Cell). one.at) same in
      let here : (first.at == cell.at) ≡ true = grind (arith, nat_tests, there_too) in
      let is : is_kept first ≡ true = ap is_kept same ∙ kept in
      ap (λ test. place_by test (is_kept first) table cell.at (place_among table cells cell.at)) here
      ∙ ap (λ test. place_by true test table cell.at (place_among table cells cell.at)) is
  | inr later ↦
      comes_by table (first.at == cell.at) (is_kept first) cell.at (place_among table cells cell.at)
      (comes_there table cells cell later kept)
]

-- what is no value is none
none_by : (found : Option ℕ) → ((now : ℕ) → found ≡ Some now → ⊥) → found ≡ None
none_by (Some now) never = absurd (never now refl)
none_by None never = refl

-- the cells of rows
abbrev pub cells_of : List Row → List Cell
cells_of rows = flat_map (λ row. row.cells) rows

module _ {heap : Heap} (rows : HasRows heap) where
  -- each cell of the heap is one of its rows
  pub cell_of_rows : (cell : Cell) (words : List ℕ) → HasCell heap cell words → Contains (cells_of rows.rows) cell
  cell_of_rows cell words has =
      let own = row_of has.row.extent rows.are has.in_region in
      let same = one_used_row heap has.row own.row has.used own.is.used (sym own.same) in
      of_one (λ (row : Row). row.cells) rows.rows own.row cell own.there
      (subst (λ (cells : List Cell). Contains cells cell) same.cells has.in_row)

  -- and each of these is one of the heap
  pub rows_have : (cell : Cell) → Contains (cells_of rows.rows) cell → HasCell heap cell (words_of_cell heap cell)
  rows_have cell there =
      let one = from_one (λ (row : Row). row.cells) rows.rows cell there in
      let is = row_is one.one rows.are one.among in
      record { row = one.one; in_region = is.among; used = is.used; in_row = one.has; words_are = refl }

  -- where the cells of the heap come
  abbrev pub to_by : Table → ℕ → Option ℕ
  to_by table at = place_among table (cells_of rows.rows) at

  -- a kept cell comes to its place
  pub kept_comes : (table : Table) (cell : Cell) (words : List ℕ) → HasCell heap cell words → is_kept cell ≡ true
      → to_by table cell.at ≡ Some (place_of table cell.at)
  kept_comes table cell words has kept =
      comes_there table (cells_of rows.rows) cell (cell_of_rows cell words has) kept

  -- a cell that comes somewhere is kept, and comes to its place
  pub comes_is : (table : Table) (cell : Cell) (words : List ℕ) (now : ℕ) → HasCell heap cell words
      → to_by table cell.at ≡ Some now → (is_kept cell ≡ true) × (now ≡ place_of table cell.at)
  comes_is table cell words now has is =
      let placed = placed_is table (cells_of rows.rows) cell.at now is in
      let same = one_at (rows_have placed.cell placed.among) has placed.stands in
      (ap is_kept (sym same) ∙ placed.kept, placed.comes)

  -- so a free cell comes nowhere
  pub free_goes : (table : Table) (cell : Cell) (words : List ℕ) → HasCell heap cell words → is_kept cell ≡ false
      → to_by table cell.at ≡ None
  free_goes table cell words has free =
      none_by (to_by table cell.at)
      (λ now is. false≢true (sym free ∙ (comes_is table cell words now has is).0))
