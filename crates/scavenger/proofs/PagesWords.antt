-- Words that are written: which others stay, and the cells and rows that stand where theirs did.
use Rattle.std.proofs.Common.{◌≡◌, ◌≢◌, ℕ, ◌+◌, ◌*◌, ◌/◌, ◌<◌, ◌≤◌, ◌⊎◌, inl, inr}
use Rattle.std.proofs.Common.{List, length, Contains, Some, slice_get}
use Rattle.std.proofs.Common.{get_or, refl, sym, ◌∙◌, ap, arith, length-set}
use Rattle.std.proofs.lemmas.Option.{slice_get-get_or}
use Rattle.std.proofs.lemmas.List.Elements.{All-weaker, All-contains_itself}
use Rattle.std.specs.List.{All}
use Rattle.tagged_word.specs.declared.word.Class.TheVariants.{Ref}
use Rattle.tagged_word.specs.Words.{bits_of}
use Rattle.tagged_word.specs.Shapes.{shapes_most}
use Rattle.page_space.specs.declared.region.Region.TheVariants.{Page}
use Rattle.page_space.specs.Sizes.{page_words}
use Rattle.page_space.specs.Extents.{Space, eden_start, layouts_start}
use Rattle.page_space.proofs.CellAddresses.{in_page, cells_end}
use Rattle.page_space.proofs.CellEnds.{end_once}
use Rattle.word_store.specs.Copies.{copied}
use Rattle.word_store.proofs.CopiedWords.{length-copied, get_or-copied_before, get_or-copied, get_or-copied_behind}
use Rattle.object_graph.proofs.Lists.{slice_get-set_other}
use Rattle.cell_layout.specs.Cells.{IsCell, IsRow, layouts_in}
use Rattle.cell_layout.specs.CellLaws.{ReadsAlike}
use Rattle.cell_layout.proofs.CellsThere.{slice_get-layouts_in}
use Rattle.cell_layout.proofs.OneCell.{cells_have_words, cells_stay}
use Rattle.cell_layout.proofs.Puts.{two_words}
use Rattle.cell_layout.proofs.Rows.{rows_stay, rows_part_around, cell_within}
use Rattle.heap_model.specs.Types.{Cell}
use Rattle.scavenger.specs.Filling.{IsInPage}
use Rattle.scavenger.specs.Following.{moved_words}

-- As many words are there, and those from an address to another, and the layout words, are as they were.
pub record StaysIn (space : Space) (words now : List ℕ) (from to : ℕ) : Type 0 where
  pub long : length now ≡ length words
  pub within : (at : ℕ) → from ≤ at → at < to → slice_get now at ≡ slice_get words at
  pub layouts : (shape : ℕ) → shape < shapes_most
      → slice_get now (layouts_start space + shape) ≡ slice_get words (layouts_start space + shape)

-- so the layout words are, by their numbers
pub layout_stays : {space : Space} {words now : List ℕ} {from to : ℕ} (shape : ℕ) → StaysIn space words now from to
    → shape < shapes_most → slice_get (layouts_in space now) shape ≡ slice_get (layouts_in space words) shape
layout_stays {space} {words} {now} shape stays known =
    slice_get-layouts_in space now shape known ∙ stays.layouts shape known
    ∙ sym (slice_get-layouts_in space words shape known)

-- a cell there is read off the same words
cell_alike : {space : Space} {words now : List ℕ} {from to : ℕ} (cell : Cell) → StaysIn space words now from to
    → IsCell space words cell → from ≤ cell.at → cell.at + cell.size ≤ to → ReadsAlike space words now cell
cell_alike {space} {words} cell stays is_cell low high =
    let some = (cells_have_words space words cell is_cell).0 in
    record {
      first = stays.within cell.at low (omega (arith, some, high));
      second = λ has. stays.within (cell.at + 1) (omega (arith, low))
          (omega (arith, high, two_words space words cell is_cell has));
      of_shape = layout_stays cell.header.shape stays is_cell.reads.known;
    }

-- so it stands
pub cell_stays : {space : Space} {words now : List ℕ} {from to : ℕ} (cell : Cell) → StaysIn space words now from to
    → IsCell space words cell → from ≤ cell.at → cell.at + cell.size ≤ to → IsCell space now cell
cell_stays {space} {words} {now} cell stays is_cell low high =
    cells_stay space words now cell is_cell stays.long (cell_alike cell stays is_cell low high)

-- the cells of a row are read off the same words
pub row_alike : {space : Space} {words now : List ℕ} {from to : ℕ} (start end : ℕ) (cells : List Cell)
    → StaysIn space words now from to → IsRow space words start end cells → from ≤ start → end ≤ to
    → All (ReadsAlike space words now) cells
row_alike {space} {words} {now} start end cells stays row low high =
    let each = λ (cell : Cell) (there : Contains cells cell).
    let within = cell_within space words start end cells cell row there in
    cell_alike cell stays (rows_part_around space words start end cells cell row there).is_cell
    (omega (arith, within.0, low)) (omega (arith, within.1, high)) in
    All-weaker (Contains cells) (ReadsAlike space words now) each cells (All-contains_itself cells)

-- so the row stands
pub row_stays : {space : Space} {words now : List ℕ} {from to : ℕ} (start end : ℕ) (cells : List Cell)
    → StaysIn space words now from to → IsRow space words start end cells → from ≤ start → end ≤ to
    → IsRow space now start end cells
row_stays {space} {words} {now} start end cells stays row low high =
    rows_stay space words now start end cells row stays.long (row_alike start end cells stays row low high)

-- a cell of a page ends where the page of its address does, or before
pub cell_in_page : (space : Space) (words : List ℕ) (cell : Cell) → IsCell space words cell
    → cell.at < eden_start space
    → cell.at + cell.size ≤ page_words * (cell.at / page_words) + page_words
cell_in_page space words cell is_cell below =
    let page : ℕ = cell.at / page_words in
    let in_one = in_page space cell.at below in
    let end : ℕ = page_words * page + page_words in
    let same : is_cell.end ≡ end = end_once space cell.at is_cell.end end is_cell.stands
    (cells_end space (Page page) cell.at end refl in_one refl) in
    omega (arith, is_cell.reads.ends, same)

-- an address of a page is in the page of its number
pub page_of : (at : ℕ) → IsInPage (at / page_words) at
page_of at = record { from = omega arith; below = omega arith }

-- and in no other
pub one_page : (page other at : ℕ) → IsInPage page at → IsInPage other at → page ≡ other
one_page page other at is is_other = omega (arith, is.from, is.below, is_other.from, is_other.below)

-- a cell that begins in a page ends in it
pub ends_in : (space : Space) (words : List ℕ) (cell : Cell) (page : ℕ) → IsCell space words cell
    → cell.at < eden_start space → IsInPage page cell.at → cell.at + cell.size ≤ page_words * page + page_words
ends_in space words cell page is_cell below is =
    let same : page ≡ cell.at / page_words = one_page page (cell.at / page_words) cell.at is (page_of cell.at) in
    omega (arith, cell_in_page space words cell is_cell below, same)

module _ (words : List ℕ) (cell : Cell) (to : ℕ) (there : cell.at + cell.size ≤ length words)
    (room : to + cell.size ≤ length words) where
  -- a copy of a cell leaves as many words
  pub length-moved : length (moved_words words cell to) ≡ length words
  length-moved =
      length-set (copied words cell.at to cell.size) cell.at (bits_of (Ref to))
      ∙ length-copied words cell.at to cell.size there room

  -- a word that is as it was in a copy is found as it was
  same_found : (at place : ℕ) → at < length words → place < length words
      → get_or (copied words cell.at to cell.size) at 0 ≡ get_or words place 0
      → slice_get (copied words cell.at to cell.size) at ≡ slice_get words place
  same_found at place inside inside_too same =
      slice_get-get_or (copied words cell.at to cell.size) at 0
      (omega (arith, inside, length-copied words cell.at to cell.size there room))
      ∙ ap (λ (word : ℕ). Some word) same ∙ sym (slice_get-get_or words place 0 inside_too)

  -- a word that is neither the cell's header nor one of the copy stays
  pub moved_elsewhere : (at : ℕ) → at < length words → at ≢ cell.at → (at < to) ⊎ (to + cell.size ≤ at)
      → slice_get (moved_words words cell to) at ≡ slice_get words at
  moved_elsewhere at inside apart out =
      slice_get-set_other (copied words cell.at to cell.size) cell.at at (bits_of (Ref to)) apart
      ∙ same_found at at inside inside (elim out [
        | inl before ↦ get_or-copied_before words cell.at to cell.size at 0 there room before
        | inr behind ↦ get_or-copied_behind words cell.at to cell.size at 0 there room behind
      ])

  -- the copy has the words of the cell
  pub moved_copy : (offset : ℕ) → offset < cell.size → to + offset ≢ cell.at
      → slice_get (moved_words words cell to) (to + offset) ≡ slice_get words (cell.at + offset)
  moved_copy offset less apart =
      slice_get-set_other (copied words cell.at to cell.size) cell.at (to + offset) (bits_of (Ref to)) apart
      ∙ same_found (to + offset) (cell.at + offset) (omega (arith, room, less)) (omega (arith, there, less))
      (get_or-copied words cell.at to cell.size offset 0 there room less)
