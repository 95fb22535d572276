-- The free runs of a heap that was just opened: each page is one gap, and one run.
use Rattle.std.proofs.Common.{◌≡◌, ℕ, ◌*◌, ◌<◌, List, [], Contains, refl, sym, ap, subst, arith}
use Rattle.std.specs.List.{range_with_len}
use Rattle.tagged_word.proofs.Members.{first_in, map_from, range_bounds}
use Rattle.page_space.specs.declared.region.Region.TheVariants.{Page}
use Rattle.page_space.specs.declared.run.Run.{Run}
use Rattle.page_space.specs.Sizes.{page_words}
use Rattle.page_space.specs.Extents.{Space, Extent, half_of}
use Rattle.page_space.proofs.Lists.{contains_only}
use Rattle.page_space.proofs.Stretches.{stands_first, stands_each}
use Rattle.page_space.proofs.Standing.{extent_of, pages, eden, to_eden, to_half}
use Rattle.free_runs.specs.FreeRuns.{whole_row}
use Rattle.heap_model.specs.Heaps.{HasCell, cell_extents, words_of_cell}
use Rattle.heap_model.specs.Collectable.{AreFreeRuns}
use Rattle.write_barrier.specs.MutatorState.{Mutator, heap_of}
use Rattle.write_barrier.specs.Opening.{IsStarted}
use Rattle.write_barrier.proofs.FirstCells.{page_gap, first_row, first_row_stands}

-- a page is a region of cells
pub page_among : (space : Space) (page : ℕ) → page < space.sizes.pages
    → Contains (cell_extents space) (extent_of space (Page page))
page_among space page below =
    let one : Extent = extent_of space (Page page) in
    stands_first 0 (to_half space) (half_of space 1) one
    (stands_first 0 (to_eden space) (half_of space 0) one
    (stands_first 0 (pages space) (eden space) one
    (stands_each (λ n. Page n) page_words space.sizes.pages 0 page (page_words * page) below (omega arith))))

-- the gap of a page is a cell of the heap
page_has_gap : (main : Mutator) (page : ℕ) → IsStarted main → page < main.seat.space.sizes.pages
    → HasCell (heap_of main) (page_gap (page_words * page))
    (words_of_cell (heap_of main) (page_gap (page_words * page)))
page_has_gap main page is below =
    let extent : Extent = extent_of main.seat.space (Page page) in
    let among = page_among main.seat.space page below in
    record {
      row = first_row extent;
      in_region = among;
      used = first_row_stands main extent is among;
      in_row = first_in (page_gap (page_words * page)) [];
      words_are = refl;
    }

-- each free run is the gap of a page
pub first_are_free : (main : Mutator) → IsStarted main → AreFreeRuns (heap_of main) main.free
first_are_free main is row run in_rows in_row =
    let count = main.seat.space.sizes.pages in
    let found = map_from whole_row (range_with_len 0 count) row
    (subst (λ (rows : List (List Run)). Contains rows row) is.free in_rows) in
    let page : ℕ = found.0 in
    let whole : Run = record { at = page_words * page; words = page_words } in
    let below : page < count = omega (arith, (range_bounds 0 count page found.1).1) in
    let same : whole ≡ run =
    contains_only whole run (subst (λ (one : List Run). Contains one run) (sym found.2) in_row) in
    record {
      cell = page_gap (page_words * page);
      words = words_of_cell (heap_of main) (page_gap (page_words * page));
      has = page_has_gap main page is below;
      stands = ap (λ (one : Run). one.at) same;
      size = ap (λ (one : Run). one.words) same;
      of_page = omega (arith, below);
      free = refl;
    }
