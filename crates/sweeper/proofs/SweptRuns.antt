-- The free runs of a swept heap: each is one free cell, and they have the words of pages that no marked cell has.
use Rattle.std.proofs.Common.{◌≡◌, ℕ, ◌+◌, ◌*◌, ◌≤◌, ◌<◌, ◌↔◌, inl, inr, List, [], Contains, length, refl, sym, ◌∙◌}
use Rattle.std.proofs.Common.{ap, subst, arith}
use Rattle.std.proofs.lemmas.List.{get_or_default}
use Rattle.page_space.specs.declared.region.Region.TheVariants.{Page}
use Rattle.page_space.specs.Sizes.{page_words}
use Rattle.page_space.specs.Extents.{Extent, eden_start}
use Rattle.page_space.proofs.Standing.{extent_of}
use Rattle.free_runs.specs.FreeRuns.{row_of}
use Rattle.free_runs.specs.Laws.{IsFreeWord}
use Rattle.heap_model.specs.Types.{Cell, Run}
use Rattle.heap_model.specs.Heaps.{Heap, Row, EndsUsed, HasCell, words_of_cell}
use Rattle.heap_model.specs.Collectable.{IsFreeCell, AreFreeRuns}
use Rattle.heap_model.specs.Changes.{Patch}
use Rattle.heap_model.proofs.CellsApart.{IsOfCell}
use Rattle.heap_model.proofs.RegionRows.{row_of as row_for}
use Rattle.heap_model.proofs.RowCovers.{covered}
use Rattle.write_barrier.proofs.FirstRuns.{page_among}
use Rattle.sweeper.specs.Swept.{IsOfMarked}
use Rattle.sweeper.specs.Sweeping.{AreRunsOf, IsInGap, page_of, run_between}
use Rattle.sweeper.proofs.SweptHeap.{Swept, after, gap_is, marked_is_no_gap, marked_or_dead, dead_is_in_gap}
use Rattle.sweeper.proofs.SweptHeap.{free_fills, free_stands}

-- a cell of the heap has the address
record IsOfSome (heap : Heap) (at : ℕ) : Type 0 where
  cell : Cell
  words : List ℕ
  has : HasCell heap cell words
  of_cell : IsOfCell cell at

module _ {heap : Heap} {words marked : List ℕ} {gaps : List Patch} {rows : List (List Run)}
    (all : Swept heap words marked gaps) (runs : AreRunsOf gaps heap.space.sizes.pages rows) where
  -- a run of a page is one free cell
  run_is_free : (page : ℕ) (run : Run) → page < length rows → Contains (row_of rows page) run
      → IsFreeCell (after all) run
  run_is_free page run below there =
      let of_gap = runs.of_gap page run there in
      let free = free_fills all of_gap.gap of_gap.among in
      let some = (gap_is all of_gap.gap of_gap.among).some in
      let of_page : page_of of_gap.gap.from ≡ page = of_gap.in_page in
      record {
        cell = (gap_is all of_gap.gap of_gap.among).free;
        words = words_of_cell (after all) (gap_is all of_gap.gap of_gap.among).free;
        has = free_stands all of_gap.gap of_gap.among;
        stands = free.begins ∙ ap (λ (one : Run). one.at) (sym of_gap.is);
        size = omega (arith, free.begins, free.ends, some, ap (λ (one : Run). one.words) of_gap.is);
        of_page = omega (arith, free.begins, of_page, below, runs.count);
        free = free.is_free;
      }

  -- each run is
  pub runs_are_free : AreFreeRuns (after all) rows
  runs_are_free row run of_rows among =
      let page : ℕ = of_rows.0 in
      let below : page < length rows = of_rows.1 in
      let same : row_of rows page ≡ row = get_or_default rows page [] row below ∙ of_rows.2 in
      run_is_free page run below (subst (λ (one : List Run). Contains one run) (sym same) among)

  -- each address of a page is of a cell
  in_some : (at : ℕ) → at < eden_start heap.space → IsOfSome heap at
  in_some at below =
      let page : ℕ = page_of at in
      let known : page < heap.space.sizes.pages = omega arith in
      let extent : Extent = extent_of heap.space (Page page) in
      let own = row_for extent all.whole.rows.are (page_among heap.space page known) in
      let row : Row = own.row in
      let ends : row.end ≡ page_words * page + page_words =
      subst (λ (e : Extent). EndsUsed heap e row.end e.region) own.same own.is.used.ends in
      let one = covered heap.space heap.words row.extent.start row.end row.cells at own.is.used.stands
      (omega (arith, own.is.starts)) (omega (arith, ends)) in
      record {
        cell = one.cell;
        words = words_of_cell heap one.cell;
        has = record {
          row = row;
          in_region = own.is.among;
          used = own.is.used;
          in_row = one.among;
          words_are = refl;
        };
        of_cell = one.of_cell;
      }

  -- a word of a run is in a gap
  free_word_in_gap : (at : ℕ) → IsFreeWord rows at → IsInGap gaps at
  free_word_in_gap at free =
      let run : Run = free.free.run in
      let of_gap = runs.of_gap free.page run free.free.among in
      let some = (gap_is all of_gap.gap of_gap.among).some in
      record {
        gap = of_gap.gap;
        among = of_gap.among;
        patched = record {
          from = omega (arith, free.free.of_run.from, ap (λ (one : Run). one.at) of_gap.is);
          below = omega (
            arith,
            free.free.of_run.below,
            some,
            ap (λ (one : Run). one.at) of_gap.is,
            ap (λ (one : Run). one.words) of_gap.is,
          );
        };
      }

  -- a word of a page that is in a gap is one of a run
  gap_word_is_free : (at : ℕ) → at < eden_start heap.space → IsInGap gaps at → IsFreeWord rows at
  gap_word_is_free at below inside =
      let gap : Patch = inside.gap in
      let from : gap.from ≤ at = inside.patched.from in
      let before : at < gap.to = inside.patched.below in
      record {
        page = page_of gap.from;
        free = record {
          run = run_between gap.from gap.to;
          among = runs.each gap inside.among (omega arith);
          of_run = record { from = from; below = omega arith };
        };
      }

  -- no marked cell has a word of a run
  free_is_unmarked : (at : ℕ) → IsFreeWord rows at → IsOfMarked heap marked at → ⊥
  free_is_unmarked at free of_marked =
      marked_is_no_gap all of_marked.has of_marked.among
      (record { from = of_marked.from; below = of_marked.below }) (free_word_in_gap at free)

  -- and what no marked cell has is a run's
  unmarked_is_free : (at : ℕ) → at < eden_start heap.space → (IsOfMarked heap marked at → ⊥) → IsFreeWord rows at
  unmarked_is_free at below unmarked =
      let some = in_some at below in
      elim (marked_or_dead all some.has) [
        | inl kept ↦ absurd (unmarked (record {
          cell = some.cell;
          words = some.words;
          has = some.has;
          among = kept;
          from = some.of_cell.from;
          below = some.of_cell.below;
        }))
        | inr dead ↦ gap_word_is_free at below (dead_is_in_gap all dead.0 dead.1 dead.2 some.of_cell)
      ]

  -- so runs have the words of pages that no marked cell has
  pub runs_fill : (at : ℕ) → at < eden_start heap.space → IsFreeWord rows at ↔ (IsOfMarked heap marked at → ⊥)
  runs_fill at below = (free_is_unmarked at, unmarked_is_free at below)
