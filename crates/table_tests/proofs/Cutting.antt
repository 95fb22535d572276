-- A cycle begins with the cells that pages are cut into.
use Rattle.std.proofs.Common.{◌≡◌, ◌∙◌, ◌<◌, ◌*◌, ◌%◌, ◌==◌, ℕ, List, [], All, Contains, IsTrue, true, Some, length}
use Rattle.std.proofs.Common.{slice_index, slice_get, refl, ap, sym, subst, arith, eqb-true}
use Rattle.std.specs.List.{range_with_len}
use Rattle.std.proofs.lemmas.List.{get_or_default}
use Rattle.std.proofs.lemmas.List.Elements.{All-contains, Contains-get_or}
use Rattle.std.proofs.lemmas.Option.{slice_get-get_or}
use Rattle.tagged_word.specs.Shapes.{shapes_most}
use Rattle.core_parts.proofs.Joining.{found_in}
use Rattle.mark_laws.proofs.Stores.{free_is, free_made}
use Rattle.mark_world.specs.Cycles.{Cycle}
use Rattle.shared_table.specs.declared.overview.Overview.{Overview}
use Rattle.shared_table.specs.Changes.{opened}
use Rattle.table_tests.specs.CellPages.{are_cells, these_cells}
use Rattle.table_tests.specs.Grids.{AreCutPages, IsCut, IsWholeGrid, PageLists, are_cut, is_plain_head}
use Rattle.table_tests.specs.OneCell.{IsBare}
use Rattle.table_tests.proofs.BareCells.{in_range, passes}

-- the address of each cell of a list
start_is : (starts : List ℕ) (count cell : ℕ) → are_cut starts count ≡ true → cell < count
    → slice_index starts cell ≡ 4 * cell
start_is starts count cell cut within =
    eqb-true (slice_index starts cell) (4 * cell)
    (passes (λ (one : ℕ). slice_index starts one == 4 * one) (range_with_len 0 count) cell cut
    (in_range count cell within))

-- each of the cells is in the list
start_in : (starts : List ℕ) (count cell : ℕ) → length starts ≡ count → are_cut starts count ≡ true → cell < count
    → Contains starts (4 * cell)
start_in starts count cell counted cut within =
    subst (Contains starts) (start_is starts count cell cut within)
    (Contains-get_or starts cell 0 (omega (arith, counted, within)))

-- each address of the list is a multiple of 4
all_aligned : (starts : List ℕ) (count : ℕ) → length starts ≡ count → are_cut starts count ≡ true
    → All (λ (at : ℕ). at % 4 ≡ 0) starts
all_aligned starts count counted cut k d l =
    let is = get_or_default starts k d 0 l ∙ start_is starts count k cut (omega (arith, counted, l)) in
    omega (arith, is)

-- starts that were checked are those of cells that were cut
pub cells_cut : (starts : List ℕ) (count : ℕ) → length starts ≡ count → are_cut starts count ≡ true
    → IsCut count (these_cells starts)
cells_cut starts count counted cut = record {
  aligned = λ at there. All-contains (λ (at : ℕ). at % 4 ≡ 0) starts at (all_aligned starts count counted cut) there;
  published = λ cell within. start_in starts count cell counted cut within;
  born = λ cell within. start_in starts count cell counted cut within;
  mine = refl;
}

-- what the main seat knows once the words of the pages are put
abbrev pub filled : Overview → PageLists → Overview
filled main pages = record main { words = pages.words; layouts = pages.layouts }

-- it is bare still
pub filled_bare : (main : Overview) (pages : PageLists) (count : ℕ) → IsBare main → AreCutPages pages main.old count
    → IsBare (filled main pages)
filled_bare main pages count bare cut = record {
  phase = bare.phase;
  home = bare.home;
  pages = bare.pages;
  addresses = bare.addresses;
  words = cut.words;
  layouts = cut.layouts;
  colours = bare.colours;
  board = bare.board;
  out = bare.out;
}

-- and its cells are those that were checked
pub filled_cells : (main : Overview) (pages : PageLists) (count : ℕ) → AreCutPages pages main.old count
    → are_cells main.old pages.words pages.layouts pages.starts ≡ true
filled_cells main pages count cut = cut.cells

-- no address is in a list that is empty
none_in : (list : List ℕ) (at : ℕ) → list ≡ [] → Contains list at → ⊥
none_in list at none there = omega (arith, (subst (λ (all : List ℕ). Contains all at) none there).1)

-- a cycle that begins with the cells of pages that are cut into equal ones
module _ (main : Overview) (cycle : Cycle) (pages : PageLists) (count : ℕ) (cut : AreCutPages pages main.old count)
    (is : IsCut count cycle) (words : main.words ≡ pages.words) (layouts : main.layouts ≡ pages.layouts) where
  abbrev begun : Overview
  begun = opened main cycle

  -- a layout word of the pages is in place
  layout_at : (shape word : ℕ) → shape < shapes_most → slice_index pages.layouts shape ≡ word
      → slice_get main.layouts shape ≡ Some word
  layout_at shape word within at =
      ap (λ (all : List ℕ). slice_get all shape) layouts
      ∙ slice_get-get_or pages.layouts shape 0 (omega (arith, cut.layouts, within))
      ∙ ap Some at

  pub begun_whole : IsWholeGrid (opened main cycle) count 0
  begun_whole = record {
    grid = record {
      phase = refl;
      room = cut.room;
      born = λ cell within. found_in cycle.born (4 * cell) (is.born cell within);
    };
    few = omega arith;
    one_raw = layout_at 8 4369 (omega arith) cut.one_raw;
    none_raw = layout_at 9 273 (omega arith) cut.none_raw;
    aligned = λ start free. (is.aligned start (free_is begun.view start free).0, omega arith);
    free = λ cell later within.
        free_made begun.view (4 * cell) (is.published cell within) (none_in cycle.mine (4 * cell) is.mine);
    heads = λ cell later within.
        subst (λ (all : List ℕ). IsTrue (is_plain_head (slice_index all (4 * cell)))) (sym words)
        (passes (λ (one : ℕ). is_plain_head (slice_index pages.words (4 * one))) (range_with_len 0 count) cell
        cut.heads (in_range count cell within));
  }
