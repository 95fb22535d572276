-- The row of each region at the end of a scavenge.
use Rattle.std.proofs.Common.{◌≡◌, ℕ, ◌+◌, ◌*◌, ◌<◌, ◌≤◌, ◌⊎◌, inl, inr, false, IsTrue, List, [], Contains}
use Rattle.std.proofs.Common.{refl, sym, ◌∙◌, ap, subst, arith}
use Rattle.std.proofs.lemmas.Bool.{cases_eq}
use Rattle.tagged_word.specs.Cells.{is_free_kind}
use Rattle.tagged_word.proofs.Members.{in_map, map_from}
use Rattle.heap_model.specs.Types.{Region, Cell, Run}
use Rattle.page_space.specs.declared.region.Region.TheVariants.{Page, Eden, Segment}
use Rattle.page_space.specs.Sizes.{page_words}
use Rattle.page_space.specs.Extents.{Extent, ContainsAddress, eden_start}
use Rattle.page_space.proofs.Placed.{placed}
use Rattle.page_space.proofs.Standing.{start_of, length_of}
use Rattle.cell_layout.specs.Cells.{IsRow}
use Rattle.heap_model.specs.Heaps.{Heap, Row, EndsUsed, IsUsedRow, HasCell, cell_extents, survivors_in}
use Rattle.heap_model.specs.Kinds.{HasNoNumber}
use Rattle.heap_model.proofs.CellsApart.{cell_extent_stands}
use Rattle.heap_model.proofs.BoundHeaps.{none_in}
use Rattle.scav_copy.specs.declared.places.Home.{Home}
use Rattle.scav_copy.specs.Places.{Fixed}
use Rattle.scavenger.specs.Starts.{Start, SegmentCopies, IsFreeRun, segment_from}
use Rattle.scavenger.specs.Filling.{IsOfPage, StandsIn, segment_filled, words_of_segments}
use Rattle.scavenger.specs.Following.{half_start, half_end}
use Rattle.scavenger.specs.Scavenged.{begins_free}
use Rattle.scavenger.proofs.SegmentRooms.{segment_in_half}
use Rattle.scavenger.proofs.PagesRuns.{first_of_run}
use Rattle.scavenger.proofs.PagesFree.{free_below}
use Rattle.scavenger.proofs.FilledSegments.{segment_of_worker, segment_fits, they_climb}
use Rattle.scavenger.proofs.EndRuns.{no_run_begins, no_run_there}
use Rattle.scavenger.proofs.EndWords.{Ending, end_segments, the_halves, stays_in_half, home_place, stayed_is}
use Rattle.scavenger.proofs.EndSums.{adds_all, adds_all_there, adds_all_nothing}
use Rattle.scavenger.proofs.EndPages.{page_extent, in_this_page, page_stands, page_cell_below}
use Rattle.scavenger.proofs.EndSegments.{segment_copies, copy_to, no_segment_starts, starts_there, copy_of_segment}
use Rattle.scavenger.proofs.EndSegments.{ends_with_0, not_in_left, begins_empty}

-- the heap at the end: eden is empty, and the survivors are the home copies in these segments
abbrev pub ended_heap : Heap → Fixed → List SegmentCopies → List ℕ → Heap
ended_heap heap fixed segments words =
    record heap { used = 0; survivors = words_of_segments fixed segments; words = words }

-- Where a cell of the heap at the end is from: it stood in a page and was no free run, or it is a home copy, or a free
-- run.
pub data CameFrom (start : Start) (homes : List Home) (rows : List (List Run)) (cell : Cell) : Type 0 where
  of_page : (words : List ℕ) → HasCell start.heap cell words → cell.at < eden_start start.heap.space
      → begins_free start.rows cell.at ≡ false → CameFrom start homes rows cell
  of_copy : (home : Home) → Contains homes home → home.to ≡ cell.at → CameFrom start homes rows cell
  of_free : (run : Run) → IsFreeRun rows run → run.at ≡ cell.at → run.words ≡ cell.size
      → cell.at < eden_start start.heap.space → IsTrue (is_free_kind cell.layout.kind) → HasNoNumber cell
      → CameFrom start homes rows cell

-- The row of a region at the end: where its cells are from, that cells of pages stay which were no free runs, and that
-- home copies and free runs stand in it.
pub record EndRow (start : Start) (fixed : Fixed) (segments : List SegmentCopies) (homes : List Home)
    (rows : List (List Run)) (now : List ℕ) (extent : Extent) (region : Region) : Type 0 where
  pub end : ℕ
  pub cells : List Cell
  pub ends : EndsUsed (ended_heap start.heap fixed segments now) extent end region
  pub stands : IsRow start.heap.space now extent.start end cells
  pub survivors : survivors_in (record { extent = extent; end = end; cells = cells }) region
      ≡ adds_all start.heap.space start.half fixed segments extent
  pub from : (cell : Cell) → Contains cells cell → CameFrom start homes rows cell
  pub pages : (cell : Cell) (words : List ℕ) → HasCell start.heap cell words → ContainsAddress extent cell.at
      → cell.at < eden_start start.heap.space → begins_free start.rows cell.at ≡ false → Contains cells cell
  pub copies : (home : Home) → Contains homes home → ContainsAddress extent home.to → StandsIn cells home.to
  pub runs : (run : Run) → IsFreeRun rows run → ContainsAddress extent run.at → StandsIn cells run.at

-- a cell of a page came from there
came_to_page : {start : Start} {homes : List Home} {rows : List (List Run)} {cell : Cell}
    → IsOfPage start rows homes cell → cell.at < eden_start start.heap.space → CameFrom start homes rows cell
came_to_page {start} {cell = cell} (IsOfPage.stays words has none) below =
    CameFrom.of_page words has below (no_run_begins start.rows cell.at none)
came_to_page (IsOfPage.copy home there same) below = CameFrom.of_copy home there same
came_to_page (IsOfPage.free run is same size free no_number) below =
    CameFrom.of_free run is same size below free no_number

module _ {start : Start} {left : ℕ} {fixed : Fixed} {homes : List Home} {rows : List (List Run)} {words now : List ℕ}
    {fill : ℕ} (ending : Ending start left fixed homes rows words now fill) where
  -- each of the cells is a home copy
  copy_from : (segment : SegmentCopies) (there : Contains (end_segments ending) segment) (cell : Cell)
      → Contains (segment_copies ending segment there).cells cell → CameFrom start homes rows cell
  copy_from segment there cell has =
      let row = segment_copies ending segment there in
      let at_home = subst (λ all. Contains all cell.at) row.stand
      (in_map (λ (one : Cell). one.at) row.cells cell has) in
      let found = map_from (λ (home : Home). home.to) segment.homes cell.at at_home in
      CameFrom.of_copy found.0
      (stayed_is ending found.0 (record { segment = segment; of_all = there; among = found.1 })).0 found.2

  -- no row that begins behind the pages has a cell of a page
  no_page_cell : (extent : Extent) (cells : List Cell) → eden_start start.heap.space ≤ extent.start
      → (cell : Cell) → ContainsAddress extent cell.at → cell.at < eden_start start.heap.space → Contains cells cell
  no_page_cell extent cells behind cell holds below = absurd (omega (arith, behind, holds.from, below))

  -- nor has it a free run
  no_page_run : (extent : Extent) (cells : List Cell) → eden_start start.heap.space ≤ extent.start
      → (run : Run) → IsFreeRun rows run → ContainsAddress extent run.at → StandsIn cells run.at
  no_page_run extent cells behind run is holds =
      let first = first_of_run rows run ending.filled.free is in
      let below = free_below ending.begun ending.filled run.at first in
      absurd (omega (arith, behind, holds.from, below))

  -- the row of a page
  page_row : (extent : Extent) (page : ℕ) → Contains (cell_extents start.heap.space) extent
      → extent.region ≡ Page page → EndRow start fixed (end_segments ending) homes rows now extent (Page page)
  page_row extent page among is =
      let halves = the_halves ending in
      let e = page_extent start extent page among is in
      let stands = ending.filled.pages page e.is_page in
      let to : ℕ = page_words * page + page_words in
      let before : extent.start < half_start start.heap.space start.half =
      omega (arith, e.starts, e.ends, halves.from, ending.limits.young_is_least) in
      record {
        end = to;
        cells = stands.cells;
        ends = omega (arith, e.starts, e.long);
        stands = subst (λ from. IsRow start.heap.space now from to stands.cells) (sym e.starts)
            (page_stands ending page e.ends stands);
        survivors = sym (adds_all_nothing start.heap.space start.half fixed (end_segments ending) extent
            (no_segment_starts ending extent.start (inl before)));
        from = λ cell there. came_to_page (stands.each cell there) (page_cell_below page cell e.ends stands there);
        pages = λ cell were has holds below none.
            stands.stay cell were has (in_this_page e holds) (no_run_there start.rows cell.at none);
        copies = λ home there holds. stands.copies home there (in_this_page e holds);
        runs = λ run there holds. stands.runs run there (in_this_page e holds);
      }

  -- eden is empty
  eden_row : (extent : Extent) → Contains (cell_extents start.heap.space) extent → extent.region ≡ Eden
      → EndRow start fixed (end_segments ending) homes rows now extent Eden
  eden_row extent among is =
      let space = start.heap.space in
      let place = placed space extent (cell_extent_stands space extent among) in
      let starts : extent.start ≡ eden_start space =
      ap (λ (one : Extent). one.start) place.place ∙ ap (start_of space) is in
      let long : extent.words ≡ space.sizes.young =
      ap (λ (one : Extent). one.words) place.place ∙ ap (length_of space) is in
      let halves = the_halves ending in
      let before : extent.start < half_start space start.half =
      omega (arith, starts, halves.from, ending.limits.young_is_least) in
      record {
        end = extent.start;
        cells = [];
        ends = omega arith;
        stands = IsRow.none extent.start;
        survivors = sym (adds_all_nothing space start.half fixed (end_segments ending) extent
            (no_segment_starts ending extent.start (inl before)));
        from = λ cell there. absurd (none_in cell there);
        pages = λ cell were has holds below none. no_page_cell extent [] (omega (arith, starts)) cell holds below;
        copies = λ home there holds.
            elim (home_place ending home there) [
              | inl stays ↦
                  absurd (omega (arith, (stays_in_half ending home stays).0, halves.from, holds.below, starts, long))
              | inr promoted ↦ absurd (omega (arith, promoted.below, holds.from, starts))
            ];
        runs = no_page_run extent [] (omega (arith, starts));
      }

  -- a segment of the half with the copies has those that are its
  filled_row : (extent : Extent) (worker : ℕ) → Contains (cell_extents start.heap.space) extent
      → extent.region ≡ Segment start.half worker
      → EndRow start fixed (end_segments ending) homes rows now extent (Segment start.half worker)
  filled_row extent worker among is =
      let space = start.heap.space in
      let place = starts_there ending extent start.half worker among is in
      let of_worker = segment_of_worker ending.begun ending.filled worker place.3 in
      let segment = of_worker.0 in
      let there = of_worker.1 in
      let from : segment_from space start.half segment.worker ≡ extent.start =
      ap (segment_from space start.half) of_worker.2 ∙ sym place.0 in
      let row = segment_copies ending segment there in
      let fits = segment_fits ending.begun ending.filled segment there in
      let behind : eden_start space ≤ extent.start = omega (arith, from) in
      record {
        end = segment_filled space start.half fixed segment;
        cells = row.cells;
        ends = (omega (arith, from, fits, place.1), ends_with_0 ending segment there extent from place.1);
        stands = subst (λ (at : ℕ). IsRow space now at (segment_filled space start.half fixed segment) row.cells) from
            row.row;
        survivors = omega (
          arith,
          from,
          adds_all_there space start.half 0 fixed (end_segments ending) extent segment
              (omega (arith, ending.limits.young_is_least)) (they_climb ending.begun ending.filled) there (sym from),
        );
        from = copy_from segment there;
        pages = λ cell were has holds below none. no_page_cell extent row.cells behind cell holds below;
        copies = λ home is_home holds.
            elim (home_place ending home is_home) [
              | inl stays ↦
                  copy_to ending segment there home (copy_of_segment ending segment home there
                  (record { from = omega (arith, holds.from, from); below = omega (arith, holds.below, place.1, from) })
                  stays is_home)
              | inr promoted ↦ absurd (omega (arith, promoted.below, holds.from, behind))
            ];
        runs = no_page_run extent row.cells behind;
      }

  -- a segment of the half that was left is empty
  left_row : (extent : Extent) (worker : ℕ) → Contains (cell_extents start.heap.space) extent
      → extent.region ≡ Segment left worker
      → EndRow start fixed (end_segments ending) homes rows now extent (Segment left worker)
  left_row extent worker among is =
      let space = start.heap.space in
      let place = starts_there ending extent left worker among is in
      let within = segment_in_half space left worker place.3 in
      let some = ending.limits.young_is_least in
      let outside : (extent.start < half_start space start.half) ⊎ (half_end space start.half ≤ extent.start) =
      elim (the_halves ending).apart [
        | inl before ↦ inr (omega (arith, before, within.0, place.0))
        | inr behind ↦ inl (omega (arith, behind, within.1, place.0, some))
      ] in
      let behind : eden_start space ≤ extent.start = omega (arith, within.0, place.0) in
      record {
        end = extent.start;
        cells = [];
        ends = (omega arith, inr (begins_empty ending extent worker among is));
        stands = IsRow.none extent.start;
        survivors = omega (
          arith,
          adds_all_nothing space start.half fixed (end_segments ending) extent
              (no_segment_starts ending extent.start outside),
        );
        from = λ cell there. absurd (none_in cell there);
        pages = λ cell were has holds below none. no_page_cell extent [] behind cell holds below;
        copies = λ home there holds.
            elim (home_place ending home there) [
              | inl stays ↦ absurd (not_in_left ending home there stays extent place.0 place.1 place.3 holds)
              | inr promoted ↦ absurd (omega (arith, promoted.below, holds.from, behind))
            ];
        runs = no_page_run extent [] behind;
      }

  -- the row of a segment of either half
  segment_row : (extent : Extent) (of worker : ℕ) → Contains (cell_extents start.heap.space) extent
      → extent.region ≡ Segment of worker
      → EndRow start fixed (end_segments ending) homes rows now extent (Segment of worker)
  segment_row extent of worker among is =
      let halves = ending.halves in
      let two = (starts_there ending extent of worker among is).2 in
      let Row : ℕ → Type 0 =
      λ half. EndRow start fixed (end_segments ending) homes rows now extent (Segment half worker) in
      elim (cases_eq of left) [
        | inl same ↦ subst Row (sym same) (left_row extent worker among (is ∙ ap (λ n. Segment n worker) same))
        | inr other ↦
            let same : of ≡ start.half = omega (arith, other, two, halves) in
            subst Row (sym same) (filled_row extent worker among (is ∙ ap (λ n. Segment n worker) same))
      ]

  -- the row of a region, kind by kind
  row_of_kind : (row : Row) (region : Region) → Contains (cell_extents start.heap.space) row.extent
      → IsUsedRow start.heap row → row.extent.region ≡ region → EndsUsed start.heap row.extent row.end region
      → EndRow start fixed (end_segments ending) homes rows now row.extent region
  row_of_kind row (Page page) among used is ends = page_row row.extent page among is
  row_of_kind row Eden among used is ends = eden_row row.extent among is
  row_of_kind row (Segment of worker) among used is ends = segment_row row.extent of worker among is
  row_of_kind row _ among used is ends = absurd ends

  -- the row of the region of a row
  pub row_after : (row : Row) → Contains (cell_extents start.heap.space) row.extent → IsUsedRow start.heap row
      → EndRow start fixed (end_segments ending) homes rows now row.extent row.extent.region
  row_after row among used = row_of_kind row row.extent.region among used refl used.ends
