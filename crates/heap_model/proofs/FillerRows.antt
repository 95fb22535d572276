-- Fillers one behind another are a part of their page's row.
use Rattle.std.proofs.Common.{◌≡◌, ℕ, zero, suc, ◌+◌, ◌≤◌, ◌<◌, inl, inr, List, [], ◌∷◌, ◌++◌, Some, Contains}
use Rattle.std.proofs.Common.{sym, ◌∙◌, ap, subst, append_assoc, append-nil, arith, ◌-◌}
use Rattle.std.proofs.lemmas.Bool.{cases_lt}
use Rattle.std.proofs.lemmas.Option.{same_Some}
use Rattle.std.proofs.lemmas.List.Elements.{Contains-append_cases}
use Rattle.tagged_word.specs.declared.layout.Kind.{Kind}
use Rattle.tagged_word.specs.declared.layout.Kind.TheVariants as kind
use Rattle.tagged_word.specs.Cells.{words_of, words_least, size_within}
use Rattle.tagged_word.proofs.Members.{in_cases}
use Rattle.page_space.specs.Extents.{Space, Extent, ContainsAddress}
use Rattle.page_space.proofs.Covering.{disjoint}
use Rattle.cell_layout.specs.Cells.{IsCell, IsRow, none}
use Rattle.cell_layout.proofs.OneCell.{one_cell, cell_is_sized}
use Rattle.cell_layout.proofs.Rows.{BeginsWith, row_begins, row_from, row_of_none, row_push}
use Rattle.cell_layout.proofs.Rows.{rows_part_around, cell_within}
use Rattle.heap_model.specs.Types.{Cell}
use Rattle.heap_model.specs.Heaps.{Heap, Row, IsUsedRow, cell_extents}
use Rattle.heap_model.specs.Wholeness.{HasRows}
use Rattle.heap_model.specs.Changes.{IsFillerAt, AreFillers}
use Rattle.heap_model.proofs.CellsApart.{cell_extent_stands, first_of_cell}
use Rattle.heap_model.proofs.RowEnds.{one_used_row}
use Rattle.heap_model.proofs.RegionRows.{row_of}
use Rattle.heap_model.proofs.BoundHeaps.{none_in}
use Rattle.heap_model.proofs.Patches.{row_holds}

-- a cell of the kind of fillers has one word
one_word_of : (k : Kind) (cap long size : ℕ) → k ≡ kind.Filler
    → size_within (words_least k) (words_of k cap long) ≡ Some size → size ≡ 1
one_word_of k cap long size is sized =
    let P : Kind → Type 0 = λ one. size_within (words_least one) (words_of one cap long) ≡ Some size in
    sym (same_Some 1 size (subst P is sized))

-- a filler has one word
one_word : {space : Space} {words : List ℕ} (cell : Cell) → IsCell space words cell → cell.layout.kind ≡ kind.Filler
    → cell.size ≡ 1
one_word {space} {words} cell is_cell is =
    one_word_of cell.layout.kind cell.layout.cap cell.length cell.size is (cell_is_sized space words cell is_cell).sized

-- the cell of a row at an address, which is a filler
pub record FillerIn (row : Row) (at : ℕ) : Type 0 where
  pub cell : Cell
  pub among : Contains row.cells cell
  pub stands : cell.at ≡ at
  pub filler : cell.layout.kind ≡ kind.Filler

-- fillers of a row up to an address, with what is before and behind them
pub record FillerPart (heap : Heap) (row : Row) (from to : ℕ) : Type 0 where
  pub front : List Cell
  pub cells : List Cell
  pub back : List Cell
  pub joined : row.cells ≡ front ++ cells ++ back
  pub stood : IsRow heap.space heap.words from to cells
  pub rest : IsRow heap.space heap.words to row.end back
  pub fillers : (cell : Cell) → Contains cells cell → cell.layout.kind ≡ kind.Filler

-- a filler at an address of a region is one of the region's row
filler_in : {heap : Heap} (row : Row) (at : ℕ) → HasRows heap → Contains (cell_extents heap.space) row.extent
    → IsUsedRow heap row → ContainsAddress row.extent at → IsFillerAt heap at → FillerIn row at
filler_in {heap} row at rows there used holds is =
    let has = is.has in
    let holds_too : ContainsAddress has.row.extent at =
    subst (ContainsAddress has.row.extent) is.stands
    (row_holds rows has.in_region has.used has.in_row (first_of_cell has)) in
    let same : has.row.extent ≡ row.extent =
    disjoint heap.space has.row.extent row.extent at (cell_extent_stands heap.space has.row.extent has.in_region)
    (cell_extent_stands heap.space row.extent there) holds_too holds in
    let one = one_used_row heap has.row row has.used used same in
    record {
      cell = is.cell;
      among = subst (λ (all : List Cell). Contains all is.cell) one.cells has.in_row;
      stands = is.stands;
      filler = is.filler;
    }

-- where no filler was passed, the rest of the row begins with the first
no_fillers : {heap : Heap} (row : Row) (from : ℕ) → IsUsedRow heap row → FillerIn row from
    → FillerPart heap row from from
no_fillers {heap} row from used first =
    let parts =
    rows_part_around heap.space heap.words row.extent.start row.end row.cells first.cell used.stands first.among in
    let begins : BeginsWith heap.space heap.words from row.end first.cell parts.behind =
    record { starts = first.stands; is_cell = parts.is_cell; rest = parts.rest } in
    record {
      front = parts.before;
      cells = [];
      back = first.cell ∷ parts.behind;
      joined = parts.joined ∙ ap (λ before. before ++ (first.cell ∷ parts.behind)) (sym (append-nil parts.before));
      stood = none from;
      rest = row_from begins;
      fillers = λ cell there. absurd (none_in cell there);
    }

-- a row that begins with this cell
record Begins (heap : Heap) (to : ℕ) (cell : Cell) (cells : List Cell) : Type 0 where
  pub others : List Cell
  pub same : cells ≡ cell ∷ others
  pub rest : IsRow heap.space heap.words (cell.at + cell.size) to others

-- a row with words begins with the cell that stands at its first address
begins_with : (heap : Heap) (from to : ℕ) (cell : Cell) (cells : List Cell) → from < to → cell.at ≡ from
    → IsCell heap.space heap.words cell → IsRow heap.space heap.words from to cells → Begins heap to cell cells
begins_with heap from to cell [] some stands is_cell row = absurd (omega (arith, row_of_none row))
begins_with heap from to cell (first ∷ cells) some stands is_cell row =
    let begins = row_begins row in
    let same : first ≡ cell =
    one_cell heap.space heap.words first cell begins.is_cell is_cell (begins.starts ∙ sym stands) in
    let P : Cell → Type 0 = λ one. IsRow heap.space heap.words (one.at + one.size) to cells in
    record { others = cells; same = ap (λ one. one ∷ cells) same; rest = subst P same begins.rest }

-- one filler more
next_filler : {heap : Heap} (row : Row) (from at : ℕ) → IsUsedRow heap row → FillerPart heap row from at
    → FillerIn row at → FillerPart heap row from (at + 1)
next_filler {heap} row from at used part one =
    let cell : Cell = one.cell in
    let start : ℕ = row.extent.start in
    let parts = rows_part_around heap.space heap.words start row.end row.cells cell used.stands one.among in
    let within = cell_within heap.space heap.words start row.end row.cells cell used.stands one.among in
    let size : cell.size ≡ 1 = one_word cell parts.is_cell one.filler in
    let some : at < row.end = omega (arith, within.1, one.stands, size) in
    let begins = begins_with heap at row.end cell part.back some one.stands parts.is_cell part.rest in
    let ends : cell.at + cell.size ≡ at + 1 = omega (arith, one.stands, size) in
    let here : IsRow heap.space heap.words from cell.at part.cells =
    subst (λ (end : ℕ). IsRow heap.space heap.words from end part.cells) (sym one.stands) part.stood in
    record {
      front = part.front;
      cells = part.cells ++ (cell ∷ []);
      back = begins.others;
      joined = part.joined ∙ ap (λ more. (part.front ++ part.cells) ++ more) begins.same
          ∙ sym (append_assoc (part.front ++ part.cells) (cell ∷ []) begins.others)
          ∙ ap (λ more. more ++ begins.others) (append_assoc part.front part.cells (cell ∷ []));
      stood = subst (λ (end : ℕ). IsRow heap.space heap.words from end (part.cells ++ (cell ∷ []))) ends
          (row_push heap.space heap.words from part.cells cell here parts.is_cell);
      rest = subst (λ (end : ℕ). IsRow heap.space heap.words end row.end begins.others) ends begins.rest;
      fillers = λ other there. elim (Contains-append_cases part.cells (cell ∷ []) other there) [
        | inl before ↦ part.fillers other before
        | inr last ↦ elim (in_cases cell [] other last) [
          | inl same ↦ subst (λ (c : Cell). c.layout.kind ≡ kind.Filler) same one.filler
          | inr later ↦ absurd (none_in other later)
        ]
      ];
    }

-- so many fillers one behind another
fillers_from : {heap : Heap} (row : Row) (from many : ℕ) → IsUsedRow heap row → FillerPart heap row from from
    → ((at : ℕ) → from ≤ at → at < from + many → FillerIn row at) → FillerPart heap row from (from + many)
fillers_from {heap} row from zero used first each =
    let same : from ≡ from + zero = omega arith in
    subst (FillerPart heap row from) same first
fillers_from {heap} row from (suc many) used first each =
    let earlier = fillers_from row from many used first (λ at above below. each at above (omega (arith, below))) in
    let last = each (from + many) (omega arith) (omega arith) in
    let same : from + many + 1 ≡ from + suc many = omega arith in
    subst (FillerPart heap row from) same (next_filler row from (from + many) used earlier last)

-- fillers from an address up to another are a part of a used row
pub record FillerRun (heap : Heap) (from to : ℕ) : Type 0 where
  pub row : Row
  pub in_region : Contains (cell_extents heap.space) row.extent
  pub used : IsUsedRow heap row
  pub front : List Cell
  pub cells : List Cell
  pub back : List Cell
  pub part : row.cells ≡ front ++ cells ++ back
  pub stood : IsRow heap.space heap.words from to cells
  pub fillers : (cell : Cell) → Contains cells cell → cell.layout.kind ≡ kind.Filler

-- where no word lies between the addresses, they are no cells
no_run : {heap : Heap} (from to : ℕ) (row : Row) → Contains (cell_extents heap.space) row.extent → IsUsedRow heap row
    → from ≡ to → FillerRun heap from to
no_run {heap} from to row there used same = record {
  row = row;
  in_region = there;
  used = used;
  front = row.cells;
  cells = [];
  back = [];
  part = sym (append-nil row.cells) ∙ sym (append-nil (row.cells ++ []));
  stood = subst (λ (end : ℕ). IsRow heap.space heap.words from end []) same (none from);
  fillers = λ cell there. absurd (none_in cell there);
}

-- else each is a cell of the row
some_run : {heap : Heap} (from to : ℕ) (row : Row) → HasRows heap → Contains (cell_extents heap.space) row.extent
    → IsUsedRow heap row → (fillers : AreFillers heap from to) → row.extent ≡ fillers.extent → from < to
    → FillerRun heap from to
some_run {heap} from to row rows there used fillers same some =
    let start : row.extent.start ≡ fillers.extent.start = ap (λ (extent : Extent). extent.start) same in
    let long : row.extent.words ≡ fillers.extent.words = ap (λ (extent : Extent). extent.words) same in
    let many : ℕ = to - from in
    let end : from + many ≡ to = omega (arith, some) in
    let each : (at : ℕ) → from ≤ at → at < from + many → FillerIn row at = λ at above below.
    let holds : ContainsAddress row.extent at = record {
      from = omega (arith, above, start, fillers.begins);
      below = omega (arith, below, end, start, long, fillers.ends);
    } in
    filler_in row at rows there used holds (fillers.each at above (omega (arith, below, end))) in
    let first = no_fillers row from used (each from (omega arith) (omega (arith, end, some))) in
    let passed = fillers_from row from many used first each in
    let all : FillerPart heap row from to = subst (FillerPart heap row from) end passed in
    record {
      row = row;
      in_region = there;
      used = used;
      front = all.front;
      cells = all.cells;
      back = all.back;
      part = all.joined;
      stood = all.stood;
      fillers = all.fillers;
    }

-- fillers of a page are a part of the page's row
pub filler_run : {heap : Heap} (from to : ℕ) → HasRows heap → from ≤ to → AreFillers heap from to
    → FillerRun heap from to
filler_run {heap} from to rows forward fillers =
    let own = row_of fillers.extent rows.are fillers.among in
    elim (cases_lt from to) [
      | inl some ↦ some_run from to own.row rows own.is.among own.is.used fillers own.same some
      | inr no_words ↦ no_run from to own.row own.is.among own.is.used (omega (arith, forward, no_words))
    ]
