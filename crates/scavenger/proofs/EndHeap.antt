-- The heap at the end of a scavenge: its rows and sizes are right, and which cells stand in it.
use Rattle.std.proofs.Common.{◌≡◌, ℕ, ◌+◌, ◌<◌, ◌≤◌, inl, inr, false, IsTrue, List, [], ◌∷◌, map, All, Contains, sum_by}
use Rattle.std.proofs.Common.{refl, sym, ◌∙◌, ap, subst, arith}
use Rattle.std.proofs.lemmas.List.Elements.{All-nil, All-cons}
use Rattle.std.proofs.lemmas.List.Sums.{sum_by-cons}
use Rattle.tagged_word.proofs.Members.{first_in, rest_in}
use Rattle.tagged_word.specs.Cells.{is_free_kind}
use Rattle.page_space.specs.Extents.{Extent, ContainsAddress, eden_start}
use Rattle.cell_layout.proofs.OneCell.{one_cell}
use Rattle.free_runs.specs.Laws.{IsFreeWord}
use Rattle.heap_model.specs.Types.{Cell, Run}
use Rattle.heap_model.specs.Heaps.{Heap, Row, IsUsedRow, HasCell, cell_extents, words_of_cell, survivors_in}
use Rattle.heap_model.specs.Heaps.{survivors_of}
use Rattle.heap_model.specs.Wholeness.{HasSizes, HasRows}
use Rattle.heap_model.specs.Collectable.{IsFreeCell, AreFreeRuns}
use Rattle.heap_model.specs.RegionRows.{IsRowFrom}
use Rattle.heap_model.proofs.CellsApart.{has_is_cell, first_of_cell}
use Rattle.heap_model.proofs.Patches.{row_holds}
use Rattle.heap_model.proofs.RegionRows.{row_is, row_of}
use Rattle.heap_model.proofs.RowEnds.{one_used_row}
use Rattle.heap_moves.specs.Moved.{moved_to}
use Rattle.scav_copy.specs.declared.places.Home.{Home}
use Rattle.scav_copy.specs.Places.{Fixed}
use Rattle.scav_copy.proofs.Spots.{home_itself}
use Rattle.scavenger.specs.Starts.{Start, SegmentCopies, IsYoungCell, IsFreeRun}
use Rattle.scavenger.specs.Filling.{words_of_segments}
use Rattle.scavenger.specs.Scavenged.{begins_free}
use Rattle.scavenger.proofs.FilledSegments.{segment_known, few_in_segments}
use Rattle.scavenger.proofs.EndRanges.{segment_extent, segment_starts, segment_among}
use Rattle.scavenger.proofs.PagesRuns.{HasRun, first_of_run, one_run_at}
use Rattle.scavenger.proofs.PagesFree.{was_free, free_began, no_home}
use Rattle.scavenger.proofs.EndRuns.{run_cell, run_of_cell, no_run_there}
use Rattle.scavenger.proofs.EndWords.{Ending, end_segments, long, home_place}
use Rattle.scavenger.proofs.EndCopies.{layout_same, copy_cell}
use Rattle.scavenger.proofs.EndSums.{adds_all, all_cells_add}
use Rattle.scavenger.proofs.EndRows.{CameFrom, EndRow, ended_heap, row_after}

-- the rows of some regions at the end
record EndRows (start : Start) (fixed : Fixed) (segments : List SegmentCopies) (now : List ℕ) (rows : List Row)
    : Type 0 where
  others : List Row
  everywhere : map (λ row. row.extent) others ≡ map (λ row. row.extent) rows
  each : All (IsUsedRow (ended_heap start.heap fixed segments now)) others
  survivors : survivors_of others
      ≡ sum_by (adds_all start.heap.space start.half fixed segments) (map (λ row. row.extent) rows)

-- a region of cells that has the address
record IsOfExtent (start : Start) (at : ℕ) : Type 0 where
  extent : Extent
  among : Contains (cell_extents start.heap.space) extent
  holds : ContainsAddress extent at

module _ {start : Start} {left : ℕ} {fixed : Fixed} {homes : List Home} {rows : List (List Run)} {words now : List ℕ}
    {fill : ℕ} (ending : Ending start left fixed homes rows words now fill) where
  -- the heap at the end
  abbrev pub end_heap : Heap
  end_heap = ended_heap start.heap fixed (end_segments ending) now

  -- the row of a region
  abbrev RowAt : Extent → Type 0
  RowAt extent = EndRow start fixed (end_segments ending) homes rows now extent extent.region

  -- it is used
  row_used : {extent : Extent} (one : RowAt extent)
      → IsUsedRow end_heap (record { extent = extent; end = one.end; cells = one.cells })
  row_used one = record { ends = one.ends; stands = one.stands }

  -- each row has one
  all_rows : (some : List Row) → ((row : Row) → Contains some row → IsRowFrom start.heap row.extent.start row)
      → EndRows start fixed (end_segments ending) now some
  all_rows [] are = record {
    others = [];
    everywhere = refl;
    each = All-nil (IsUsedRow end_heap);
    survivors = refl;
  }
  all_rows (row ∷ some) are =
      let is = are row (first_in row some) in
      let one = row_after ending row is.among is.used in
      let new : Row = record { extent = row.extent; end = one.end; cells = one.cells } in
      let later = all_rows some (λ other there. are other (rest_in row some other there)) in
      let adds : Extent → ℕ = adds_all start.heap.space start.half fixed (end_segments ending) in
      let count : Row → ℕ = λ any. survivors_in any any.extent.region in
      record {
        others = new ∷ later.others;
        everywhere = ap (λ more. row.extent ∷ more) later.everywhere;
        each = All-cons (IsUsedRow end_heap) new later.others (row_used one) later.each;
        survivors = sum_by-cons count new later.others
            ∙ ap (λ n. n + survivors_of later.others) one.survivors
            ∙ ap (λ n. adds row.extent + n) later.survivors
            ∙ sym (sum_by-cons adds row.extent (map (λ any. any.extent) some));
      }

  -- a region of cells has a row at the end
  record RegionRow (extent : Extent) : Type 0 where
    row : Row
    is : IsRowFrom start.heap extent.start row
    one : RowAt row.extent
    same : row.extent ≡ extent

  -- each has
  region_row : (extent : Extent) → Contains (cell_extents start.heap.space) extent → RegionRow extent
  region_row extent among =
      let own = row_of extent ending.begun.whole.rows.are among in
      record { row = own.row; is = own.is; one = row_after ending own.row own.is.among own.is.used; same = own.same }

  -- the copies that stayed young have no more words than survivors and eden's used words together
  pub few_stayed : words_of_segments fixed (end_segments ending) ≤ start.heap.survivors + start.heap.used
  few_stayed = few_in_segments ending.begun ending.filled

  -- the heap at the end has rows
  pub has_rows : HasRows end_heap
  has_rows =
      let own = ending.begun.whole.rows in
      let space = start.heap.space in
      let all = all_rows own.rows (λ row. row_is row own.are) in
      record {
        rows = all.others;
        are = record { everywhere = all.everywhere ∙ own.are.everywhere; each = all.each };
        counted = all.survivors
            ∙ ap (sum_by (adds_all space start.half fixed (end_segments ending))) own.are.everywhere
            ∙ all_cells_add space start.half fixed (end_segments ending) ending.limits ending.begun.is_half
            (segment_known ending.begun ending.filled);
        few = omega (arith, few_stayed, own.few);
      }

  -- its sizes are right
  pub has_sizes : HasSizes end_heap
  has_sizes =
      let sized = ending.begun.whole.sized in
      record {
        words = long ending ∙ sized.words;
        shapes = sized.shapes;
        layouts = λ shape below. layout_same ending shape below ∙ sized.layouts shape below;
      }

  -- what stands in the row of a region stands in the heap
  row_has : {extent : Extent} (one : RowAt extent) (cell : Cell) → Contains (cell_extents start.heap.space) extent
      → Contains one.cells cell → HasCell end_heap cell (words_of_cell end_heap cell)
  row_has {extent} one cell among there = record {
    row = record { extent = extent; end = one.end; cells = one.cells };
    in_region = among;
    used = row_used one;
    in_row = there;
    words_are = refl;
  }

  -- where each cell of the heap is from
  pub came_from : {cell : Cell} {body : List ℕ} → HasCell end_heap cell body → CameFrom start homes rows cell
  came_from {cell} has =
      let region = region_row has.row.extent has.in_region in
      let row : Row = record { extent = region.row.extent; end = region.one.end; cells = region.one.cells } in
      let same = one_used_row end_heap has.row row has.used (row_used region.one) (sym region.same) in
      region.one.from cell (subst (λ (all : List Cell). Contains all cell) same.cells has.in_row)

  -- a cell of a page that was no free run stays
  pub page_stays : {cell : Cell} {body : List ℕ} → HasCell start.heap cell body → cell.at < eden_start start.heap.space
      → begins_free start.rows cell.at ≡ false → HasCell end_heap cell (words_of_cell end_heap cell)
  page_stays {cell} {body} has below none =
      let one = row_after ending has.row has.in_region has.used in
      let holds = row_holds ending.begun.whole.rows has.in_region has.used has.in_row (first_of_cell has) in
      row_has one cell has.in_region (one.pages cell body has holds below none)

  -- the region in which a word of a free run stood
  run_extent : (at : ℕ) → HasRun start.rows at → IsOfExtent start at
  run_extent at inside =
      let has = (run_cell ending.begun inside.is).has in
      record {
        extent = has.row.extent;
        among = has.in_region;
        holds = row_holds ending.begun.whole.rows has.in_region has.used has.in_row
            (run_of_cell ending.begun inside.is inside.of_run);
      }

  -- the region in which a home copy stands
  home_extent : (home : Home) → Contains homes home → IsOfExtent start home.to
  home_extent home there =
      let space = start.heap.space in
      let first = home_itself home ending.begun.laid ending.filled.copying there in
      elim (home_place ending home there) [
        | inl stays ↦
            let worker : ℕ = stays.stays.segment.worker in
            let starts = segment_starts space start.half worker in
            record {
              extent = segment_extent space start.half worker;
              among = segment_among space start.half worker ending.begun.is_half stays.known;
              holds = record {
                from = omega (arith, starts, stays.from);
                below = omega (arith, starts, stays.ends, first.below, stays.fits);
              };
            }
        | inr promoted ↦
            run_extent home.to record {
              run = promoted.run;
              is = promoted.is;
              of_run = record { from = promoted.from; below = omega (arith, promoted.ends, first.below) };
            }
      ]

  -- a home copy stands in the heap
  pub copy_stands : (home : Home) (there : Contains homes home) (is : IsYoungCell start.heap home.from)
      → HasCell end_heap (moved_to is.cell home.to) (words_of_cell end_heap (moved_to is.cell home.to))
  copy_stands home there is =
      let of_extent = home_extent home there in
      let region = region_row of_extent.extent of_extent.among in
      let holds = subst (λ (one : Extent). ContainsAddress one home.to) (sym region.same) of_extent.holds in
      let found = region.one.copies home there holds in
      let has = row_has region.one found.cell region.is.among found.among in
      let same : found.cell ≡ moved_to is.cell home.to =
      one_cell start.heap.space now found.cell (moved_to is.cell home.to) (has_is_cell has)
      (copy_cell ending home there is) found.stands in
      subst (λ (one : Cell). HasCell end_heap one (words_of_cell end_heap one)) same has

  -- the cell that stands where a free run begins is that run
  run_came : (run : Run) (cell : Cell) → IsFreeRun rows run → cell.at ≡ run.at → CameFrom start homes rows cell
      → (cell.size ≡ run.words) × (cell.at < eden_start start.heap.space) × IsTrue (is_free_kind cell.layout.kind)
  run_came run cell is stands (CameFrom.of_page body had below none) =
      let first = first_of_run rows run ending.filled.free is in
      let began = free_began ending.begun ending.filled cell body had (subst (IsFreeWord rows) (sym stands) first) in
      absurd (no_run_there start.rows cell.at none began.0 began.1 began.2)
  run_came run cell is stands (CameFrom.of_copy home there same) =
      let first = first_of_run rows run ending.filled.free is in
      absurd (no_home ending.begun ending.filled home there
      (subst (IsFreeWord rows) (sym stands ∙ sym same) first))
  run_came run cell is stands (CameFrom.of_free other is_other same size below free no_number) =
      let one = one_run_at rows run other ending.filled.free is is_other (sym stands ∙ sym same) in
      (sym size ∙ ap (λ (each : Run). each.words) (sym one), below, free)

  -- each free run is one free cell
  pub run_stands : (run : Run) → IsFreeRun rows run → IsFreeCell end_heap run
  run_stands run is =
      let first = first_of_run rows run ending.filled.free is in
      let of_extent = run_extent run.at (was_free ending.begun ending.filled run.at first) in
      let region = region_row of_extent.extent of_extent.among in
      let holds = subst (λ (one : Extent). ContainsAddress one run.at) (sym region.same) of_extent.holds in
      let found = region.one.runs run is holds in
      let has = row_has region.one found.cell region.is.among found.among in
      let came = run_came run found.cell is found.stands (came_from has) in
      record {
        cell = found.cell;
        words = words_of_cell end_heap found.cell;
        has = has;
        stands = found.stands;
        size = came.0;
        of_page = came.1;
        free = came.2;
      }

  -- so the free runs are free cells
  pub runs_are_free : AreFreeRuns end_heap rows
  runs_are_free row run there among = run_stands run (record { row = row; of_rows = there; among = among })
