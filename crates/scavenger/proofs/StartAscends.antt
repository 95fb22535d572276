-- The addresses of young cells ascend, along a row and from row to row.
use Rattle.std.proofs.Common.{◌≡◌, ℕ, ◌+◌, ◌≤◌, ◌<◌, List, [], ◌∷◌, ◌++◌, map, sym, ap, subst, arith}
use Rattle.std.specs.List.{All, AllPairs}
use Rattle.std.proofs.lemmas.List.{map-append}
use Rattle.std.proofs.lemmas.List.Elements.{All-nil, All-cons, All-head, All-tail, All-weaker}
use Rattle.std.proofs.lemmas.List.Kept.{AllPairs-cons}
use Rattle.page_space.specs.declared.region.Region.TheVariants.{Eden, Segment}
use Rattle.page_space.specs.Extents.{Space, Stretch, Extent, words_in, extents_from}
use Rattle.page_space.proofs.Stretches.{words_in-cons}
use Rattle.cell_layout.specs.Cells.{IsRow}
use Rattle.cell_layout.proofs.OneCell.{cells_have_words}
use Rattle.cell_layout.proofs.Rows.{row_of_none, row_begins}
use Rattle.heap_model.specs.Types.{Region, Cell}
use Rattle.heap_model.specs.Heaps.{Heap, Row}
use Rattle.scavenger.proofs.StartRows.{if_young, young_of, young_cells}

-- the numbers ascend, from one on, and each is below another
abbrev pub Climbs : ℕ → ℕ → List ℕ → Type 0
Climbs from to [] = from ≤ to
Climbs from to (at ∷ ats) = (from ≤ at) × Climbs (at + 1) to ats

-- so they do from a lower number on
pub climbs_lower : (low from to : ℕ) (ats : List ℕ) → low ≤ from → Climbs from to ats → Climbs low to ats
climbs_lower low from to [] less climbs = omega arith
climbs_lower low from to (at ∷ ats) less climbs = (omega (arith, climbs.0), climbs.1)

-- and below a higher one
climbs_higher : (from to high : ℕ) (ats : List ℕ) → to ≤ high → Climbs from to ats → Climbs from high ats
climbs_higher from to high [] less climbs = omega arith
climbs_higher from to high (at ∷ ats) less climbs = (climbs.0, climbs_higher (at + 1) to high ats less climbs.1)

-- none is below the first, and that is not above the other
climbs_ordered : (from to : ℕ) (ats : List ℕ) → Climbs from to ats → from ≤ to
climbs_ordered from to [] climbs = climbs
climbs_ordered from to (at ∷ ats) climbs = omega (arith, climbs.0, climbs_ordered (at + 1) to ats climbs.1)

-- numbers that ascend and then others that do from there on
climbs_join : (from between to : ℕ) (ats more : List ℕ) → Climbs from between ats → Climbs between to more
    → Climbs from to (ats ++ more)
climbs_join from between to [] more climbs rest = climbs_lower from between to more climbs rest
climbs_join from between to (at ∷ ats) more climbs rest =
    (climbs.0, climbs_join (at + 1) between to ats more climbs.1 rest)

-- each of them is not below the first
climbs_above : (from to : ℕ) (ats : List ℕ) → Climbs from to ats → All (λ at. from ≤ at) ats
climbs_above from to [] climbs = All-nil (λ at. from ≤ at)
climbs_above from to (at ∷ ats) climbs =
    let rest = climbs_above (at + 1) to ats climbs.1 in
    let first : from ≤ at = climbs.0 in
    let more : (one : ℕ) → at + 1 ≤ one → from ≤ one = λ one above. omega arith in
    All-cons (λ one. from ≤ one) at ats first (All-weaker (λ one. at + 1 ≤ one) (λ one. from ≤ one) more ats rest)

-- each number is below all that follow
pub climbs_pairs : (from to : ℕ) (ats : List ℕ) → Climbs from to ats → AllPairs (λ one other. one < other) ats
climbs_pairs from to [] climbs = λ i j d less within. absurd (omega arith)
climbs_pairs from to (at ∷ ats) climbs =
    let more : (one : ℕ) → at + 1 ≤ one → at < one = λ one above. omega arith in
    AllPairs-cons (λ one other. one < other) at ats
    (All-weaker (λ one. at + 1 ≤ one) (λ one. at < one) more ats (climbs_above (at + 1) to ats climbs.1))
    (climbs_pairs (at + 1) to ats climbs.1)

-- the addresses of cells
abbrev pub addresses : List Cell → List ℕ
addresses cells = map (λ (cell : Cell). cell.at) cells

-- the addresses of a row's cells ascend
row_climbs : (space : Space) (words : List ℕ) (from to : ℕ) (cells : List Cell) → IsRow space words from to cells
    → Climbs from to (addresses cells)
row_climbs space words from to [] row = omega (arith, row_of_none row)
row_climbs space words from to (cell ∷ cells) row =
    let begins = row_begins row in
    let some : 1 ≤ cell.size = (cells_have_words space words cell begins.is_cell).0 in
    let rest = row_climbs space words (cell.at + cell.size) to cells begins.rest in
    let starts : cell.at ≡ from = begins.starts in
    (omega arith, climbs_lower (cell.at + 1) (cell.at + cell.size) to (addresses cells) (omega arith) rest)

-- so do those of them that are young, kind by kind
if_young_climbs : (from to : ℕ) (cells : List Cell) (region : Region) → Climbs from to (addresses cells)
    → Climbs from to (addresses (if_young cells region))
if_young_climbs from to cells Eden climbs = climbs
if_young_climbs from to cells (Segment half worker) climbs = climbs
if_young_climbs from to cells _ climbs = climbs_ordered from to (addresses cells) climbs

-- the cells stand one behind another in the row's region
pub record StandsIn (heap : Heap) (row : Row) : Type 0 where
  pub stands : IsRow heap.space heap.words row.extent.start row.end row.cells
  pub within : row.end ≤ row.extent.start + row.extent.words

-- the addresses of the young cells of rows ascend, where the rows stand in stretches one after another
pub rows_climb : (heap : Heap) (start : ℕ) (xs : List Stretch) (rows : List Row)
    → map (λ (row : Row). row.extent) rows ≡ extents_from start xs → All (StandsIn heap) rows
    → Climbs start (start + words_in xs) (addresses (young_cells rows))
rows_climb heap start [] [] same all = omega arith
rows_climb heap start [] (row ∷ rows) same all = absurd (cc)
rows_climb heap start (x ∷ xs) [] same all = absurd (cc)
rows_climb heap start (x ∷ xs) (row ∷ rows) same all =
    let extent : Extent = record { region = x.region; start = start; words = x.words } in
    let first : row.extent ≡ extent = cc in
    let later : map (λ (one : Row). one.extent) rows ≡ extents_from (start + x.words) xs = cc in
    let in_row = All-head (StandsIn heap) row rows all in
    let climbs = row_climbs heap.space heap.words row.extent.start row.end row.cells in_row.stands in
    let here = if_young_climbs row.extent.start row.end row.cells row.extent.region climbs in
    let starts : row.extent.start ≡ start = ap (λ (one : Extent). one.start) first in
    let long : row.extent.words ≡ x.words = ap (λ (one : Extent). one.words) first in
    let end : ℕ = start + x.words in
    let young : List ℕ = addresses (young_of row) in
    let front : Climbs start end young =
    climbs_lower start row.extent.start end young (omega arith)
    (climbs_higher row.extent.start row.end end young (omega (arith, in_row.within)) here) in
    let rest = rows_climb heap end xs rows later (All-tail (StandsIn heap) row rows all) in
    let P : List ℕ → Type 0 = Climbs start (start + words_in (x ∷ xs)) in
    let to : ℕ = end + words_in xs in
    let both = climbs_join start end to young (addresses (young_cells rows)) front rest in
    let wide = climbs_higher start to (start + words_in (x ∷ xs)) (young ++ addresses (young_cells rows))
    (omega (arith, words_in-cons x xs)) both in
    subst P (sym (map-append (λ (cell : Cell). cell.at) (young_of row) (young_cells rows))) wide
