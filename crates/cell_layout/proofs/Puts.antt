-- Cells and rows where a word is put.
use Rattle.std.proofs.Common.{◌≡◌, ◌≢◌, ℕ, zero, suc, ◌+◌, ◌≤◌, ◌<◌, ◌⊎◌, inl, inr, ⊎_elim}
use Rattle.std.proofs.Common.{List, [], ◌∷◌, set, slice_get, IsTrue, arith, ap, subst, sym, refl, ◌∙◌}
use Rattle.std.specs.List.{All, Contains}
use Rattle.std.proofs.lemmas.Bool.{cases_lt, false≢true}
use Rattle.std.proofs.lemmas.List.{length-set}
use Rattle.std.proofs.lemmas.List.Elements.{All-weaker, All-contains_itself}
use Rattle.tagged_word.specs.Shapes.{shapes_most}
use Rattle.tagged_word.specs.Cells.{has_length, words_of, words_least}
use Rattle.tagged_word.proofs.Cells.{size_is, two_words_of}
use Rattle.page_space.specs.declared.region.Region.TheVariants.{Layout}
use Rattle.page_space.specs.Extents.{Space, IsIn, CellsEndAt, is_cell_region, layouts_start}
use Rattle.page_space.proofs.Addresses.{IsInRegion, is_in}
use Rattle.page_space.proofs.LawsHold.{addresses_are_in_one}
use Rattle.cell_layout.specs.declared.cell.Cell.{Cell}
use Rattle.cell_layout.specs.Cells.{IsCell, IsRow, layouts_in}
use Rattle.cell_layout.specs.CellLaws.{ReadsAlike, IsOfSlot, IsNoLayoutWord, PutsReadAlike, CellsAreApart}
use Rattle.cell_layout.specs.RowLaws.{RowsStayAtPuts, SlotsChange}
use Rattle.cell_layout.proofs.CellsThere.{slice_get-layouts_in, slice_get-layouts_past}
use Rattle.cell_layout.proofs.OneCell.{cells_have_words, cells_stay, slots_lie_within}
use Rattle.cell_layout.proofs.Rows.{row_from, cell_within, rows_join, rows_stay, rows_part_around}

-- the words elsewhere stay where one is put
slice_get-set_other : (words : List ℕ) (a word k : ℕ) → k ≢ a → slice_get (set words a word) k ≡ slice_get words k
slice_get-set_other [] a word k other = refl
slice_get-set_other (first ∷ words) zero word zero other = absurd (other refl)
slice_get-set_other (first ∷ words) zero word (suc k) other = refl
slice_get-set_other (first ∷ words) (suc a) word zero other = refl
slice_get-set_other (first ∷ words) (suc a) word (suc k) other =
    slice_get-set_other words a word k (λ same. other (ap (λ n. suc n) same))

-- the layout words stay where their words do
layout_words_stay : (space : Space) (words other : List ℕ) (shape : ℕ)
    → (shape < shapes_most
    → slice_get other (layouts_start space + shape) ≡ slice_get words (layouts_start space + shape))
    → slice_get (layouts_in space other) shape ≡ slice_get (layouts_in space words) shape
layout_words_stay space words other shape same =
    ⊎_elim
    (λ below. slice_get-layouts_in space other shape below ∙ same below
    ∙ sym (slice_get-layouts_in space words shape below))
    (λ past. slice_get-layouts_past space other shape past ∙ sym (slice_get-layouts_past space words shape past))
    (cases_lt shape shapes_most)

-- words say the same of a cell where one is put that it isn't read by
pub puts_read_alike : PutsReadAlike
puts_read_alike space words a word cell header long apart = record {
  first = slice_get-set_other words a word cell.at (λ same. header (sym same));
  second = λ with. slice_get-set_other words a word (cell.at + 1) (λ same. long with (sym same));
  of_shape = layout_words_stay space words (set words a word) cell.header.shape
      (λ below. slice_get-set_other words a word (layouts_start space + cell.header.shape)
      (λ same. apart cell.header.shape below (sym same)));
}

-- an address where cells may stand is that of no layout word
apart_from_layouts : (space : Space) (a end : ℕ) → CellsEndAt space a end → IsNoLayoutWord space a
apart_from_layouts space a end ends shape below same =
    let inside : IsInRegion space (Layout shape) a =
    record { is_region = below; from = omega arith; below = omega arith } in
    let here : IsIn space a ends.extent.region =
    record { extent = ends.extent; stands = ends.stands; of_region = refl; holds = ends.holds } in
    let region = addresses_are_in_one space a ends.extent.region (Layout shape) here
    (is_in space (Layout shape) a inside) in
    false≢true (sym (ap is_cell_region region) ∙ ends.of_cells)

-- no word of a cell is a layout word
pub cells_are_apart : CellsAreApart
cells_are_apart space words cell offset is_cell within =
    let stands = is_cell.stands in
    let ends : cell.at + cell.size ≤ is_cell.end = is_cell.reads.ends in
    apart_from_layouts space (cell.at + offset) is_cell.end record {
      extent = stands.extent;
      stands = stands.stands;
      of_cells = stands.of_cells;
      holds = record { from = omega (arith, stands.holds.from); below = omega (arith, stands.ends) };
      ends = stands.ends;
    }

-- what is so of each member of a list is so of all
all_of : (P : Cell → Type 0) (cells : List Cell) → ((cell : Cell) → Contains cells cell → P cell) → All P cells
all_of P cells each = All-weaker (Contains cells) P each cells (All-contains_itself cells)

-- a cell whose second word is a length has two words at least
pub two_words : (space : Space) (words : List ℕ) (cell : Cell) → IsCell space words cell
    → IsTrue (has_length cell.layout.kind) → 2 ≤ cell.size
two_words space words cell is_cell with =
    let size = size_is (words_least cell.layout.kind) (words_of cell.layout.kind cell.layout.cap cell.length) cell.size
    is_cell.reads.sized in
    two_words_of cell.layout.kind cell.layout.cap cell.length cell.size with size.0 (omega (arith, size.0, size.1))

-- a word outside a stretch is none of those that its cells are read by
outside_cell : (space : Space) (words : List ℕ) (from to a word : ℕ) (cell : Cell) → IsCell space words cell
    → (from ≤ cell.at) × (cell.at + cell.size ≤ to) → (a < from) ⊎ (to ≤ a) → IsNoLayoutWord space a
    → ReadsAlike space words (set words a word) cell
outside_cell space words from to a word cell is_cell bounds (inl before) apart =
    puts_read_alike space words a word cell (λ same. omega (arith, same, bounds.0))
    (λ with same. omega (arith, same, bounds.0)) apart
outside_cell space words from to a word cell is_cell bounds (inr behind) apart =
    puts_read_alike space words a word cell
    (λ same. omega (arith, same, bounds.1, (cells_have_words space words cell is_cell).0))
    (λ with same. omega (arith, same, bounds.1, two_words space words cell is_cell with)) apart

-- a row stays where a word is put outside it that is no layout word
pub rows_stay_at_puts : RowsStayAtPuts
rows_stay_at_puts space words from to a word cells row outside apart =
    rows_stay space words (set words a word) from to cells row (length-set words a word)
    (all_of (ReadsAlike space words (set words a word)) cells
    (λ cell has.
    outside_cell space words from to a word cell (rows_part_around space words from to cells cell row has).is_cell
    (cell_within space words from to cells cell row has) outside apart))

-- a cell stays where a word is put in one of its slots
slot_changes : (space : Space) (words : List ℕ) (cell : Cell) (offset word : ℕ) → IsCell space words cell
    → IsOfSlot cell offset → IsCell space (set words (cell.at + offset) word) cell
slot_changes space words cell offset word is_cell slot =
    let a : ℕ = cell.at + offset in
    cells_stay space words (set words a word) cell is_cell (length-set words a word)
    (puts_read_alike space words a word cell
    (λ same. omega (arith, same, slot.behind_header))
    (λ with same. omega (arith, same, slot.behind_length with))
    (cells_are_apart space words cell offset is_cell slot.within))

-- a row stays where a word is put in a slot of one of its cells
pub slots_change : SlotsChange
slots_change space words from to offset word cells cell row has visited =
    let a : ℕ = cell.at + offset in
    let parts = rows_part_around space words from to cells cell row has in
    let slot = slots_lie_within space words cell offset parts.is_cell visited in
    let apart = cells_are_apart space words cell offset parts.is_cell slot.within in
    let before = rows_stay_at_puts space words from cell.at a word parts.before parts.first (inr (omega arith)) apart in
    let end : ℕ = cell.at + cell.size in
    let behind =
    rows_stay_at_puts space words end to a word parts.behind parts.rest (inl (omega (arith, slot.within))) apart in
    let here = slot_changes space words cell offset word parts.is_cell slot in
    let all = rows_join space (set words a word) from cell.at to parts.before (cell ∷ parts.behind) before
    (row_from record { starts = refl; is_cell = here; rest = behind }) in
    subst (λ (both : List Cell). IsRow space (set words a word) from to both) (sym parts.joined) all
