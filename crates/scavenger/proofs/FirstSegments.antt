-- The segments of the half that copies go to, before anything is copied: each is empty, and begins with a 0.
use Rattle.std.proofs.Common.{◌≡◌, ℕ, ◌+◌, ◌<◌, ◌≤◌, inl, inr, List, [], ◌∷◌, map, Contains, Some, slice_get}
use Rattle.std.proofs.Common.{get_or, refl, sym, ◌∙◌, ap, subst, arith}
use Rattle.std.proofs.lemmas.Option.{get_or_from_slice_get}
use Rattle.std.proofs.lemmas.List.Sums.{sum_by-cons}
use Rattle.tagged_word.proofs.Members.{first_in, map_from, range_bounds}
use Rattle.page_space.specs.declared.region.Region.TheVariants.{Segment}
use Rattle.page_space.specs.Extents.{Space, Extent}
use Rattle.cell_layout.specs.Cells.{IsRow}
use Rattle.cell_layout.proofs.Rows.{row_of_none}
use Rattle.heap_model.specs.Types.{Cell}
use Rattle.heap_model.specs.Heaps.{Row, EndsUsed, IsUsedRow, HasCell, cell_extents, words_of_cell}
use Rattle.heap_model.proofs.CellsApart.{first_of_cell}
use Rattle.heap_model.proofs.Patches.{row_holds}
use Rattle.heap_model.proofs.RegionRows.{row_of}
use Rattle.scav_copy.specs.Places.{Fixed}
use Rattle.scavenger.specs.Starts.{Start, SegmentCopies, IsBegun, helping_workers, nothing_of, nothing_handed}
use Rattle.scavenger.specs.Starts.{segment_from}
use Rattle.scavenger.specs.Filling.{Tiles, FillsSegment, EndsSegment, homes_in, words_of_homes, words_of_segments}
use Rattle.scavenger.proofs.EndRanges.{segment_extent, segment_starts, segment_among}

-- a row with no cell ends where it begins
none_end : {space : Space} {words : List ℕ} {from to : ℕ} (cells : List Cell) → IsRow space words from to cells
    → ((cell : Cell) → Contains cells cell → ⊥) → from ≡ to
none_end [] row none = row_of_none row
none_end (cell ∷ cells) row none = absurd (none cell (first_in cell cells))

module _ {start : Start} {fixed : Fixed} (begun : IsBegun start fixed) where
  -- no cell stands in a segment of the half to which copies go
  none_in_row : (row : Row) (worker : ℕ) → Contains (cell_extents start.heap.space) row.extent
      → IsUsedRow start.heap row → row.extent.region ≡ Segment start.half worker
      → (cell : Cell) → Contains row.cells cell → ⊥
  none_in_row row worker among used is cell there =
      let has : HasCell start.heap cell (words_of_cell start.heap cell) =
      record { row = row; in_region = among; used = used; in_row = there; words_are = refl } in
      begun.collectable.empty cell (words_of_cell start.heap cell) has record {
        extent = row.extent;
        among = among;
        worker = worker;
        segment = is;
        holds = row_holds begun.whole.rows among used there (first_of_cell has);
      }

  -- so such a segment, if it has a word, begins with a 0
  row_begins_empty : (row : Row) (worker : ℕ) → Contains (cell_extents start.heap.space) row.extent
      → IsUsedRow start.heap row → row.extent.region ≡ Segment start.half worker
      → EndsUsed start.heap row.extent row.end (Segment start.half worker) → 1 ≤ row.extent.words
      → slice_get start.heap.words row.extent.start ≡ Some 0
  row_begins_empty row worker among used is ends some =
      let end : row.extent.start ≡ row.end = none_end row.cells used.stands (none_in_row row worker among used is) in
      elim ends.1 [
        | inl whole ↦ absurd (omega (arith, whole, end, some))
        | inr none ↦ ap (slice_get start.heap.words) end ∙ none
      ]

  -- so it is of each worker's
  segment_begins_empty : (worker : ℕ) → worker < start.heap.space.sizes.helpers
      → 1 ≤ start.heap.space.sizes.young
      → get_or start.heap.words (segment_from start.heap.space start.half worker) 0 ≡ 0
  segment_begins_empty worker known some =
      let space = start.heap.space in
      let extent : Extent = segment_extent space start.half worker in
      let among = segment_among space start.half worker begun.is_half (omega (arith, known)) in
      let own = row_of extent begun.whole.rows.are among in
      let is : own.row.extent.region ≡ Segment start.half worker = ap (λ (one : Extent). one.region) own.same in
      let ends = subst (EndsUsed start.heap own.row.extent own.row.end) is own.is.used.ends in
      let long : 1 ≤ own.row.extent.words = omega (arith, some, ap (λ (one : Extent). one.words) own.same) in
      let starts : own.row.extent.start ≡ segment_from space start.half worker =
      ap (λ (one : Extent). one.start) own.same ∙ segment_starts space start.half worker in
      get_or_from_slice_get start.heap.words (segment_from space start.half worker) 0 0
      (ap (slice_get start.heap.words) (sym starts)
      ∙ row_begins_empty own.row worker own.is.among own.is.used is ends long)

-- the workers of segments with no copy are these
workers_of_nothing : (workers : List ℕ)
    → map (λ (segment : SegmentCopies). segment.worker) (map nothing_of workers) ≡ workers
workers_of_nothing [] = refl
workers_of_nothing (worker ∷ workers) = ap (λ (more : List ℕ). worker ∷ more) (workers_of_nothing workers)

-- they have no copies
homes_of_nothing : (workers : List ℕ) → homes_in (map nothing_of workers) ≡ []
homes_of_nothing [] = refl
homes_of_nothing (worker ∷ workers) = homes_of_nothing workers

-- and so no words
words_of_nothing : (fixed : Fixed) (workers : List ℕ) → words_of_segments fixed (map nothing_of workers) ≡ 0
words_of_nothing fixed [] = refl
words_of_nothing fixed (worker ∷ workers) =
    omega (
      arith,
      sum_by-cons (λ (segment : SegmentCopies). words_of_homes fixed segment.homes) (nothing_of worker)
          (map nothing_of workers),
      words_of_nothing fixed workers,
    )

-- What is known where helpers handed nothing over.
pub record HandsNothing (start : Start) (fixed : Fixed) : Type 0 where
  pub by : map (λ segment. segment.worker) start.handed ≡ helping_workers start.heap.space
  pub fills : (segment : SegmentCopies) → Contains start.handed segment
      → FillsSegment start.heap.space start.half fixed segment
  pub ends : (segment : SegmentCopies) → Contains start.handed segment
      → EndsSegment start.heap.space start.half fixed start.heap.words segment
  pub homes : homes_in start.handed ≡ []
  pub none : words_of_segments fixed start.handed ≡ 0

-- no copies fill a segment up to where it begins
empty_fills : (space : Space) (half : ℕ) (fixed : Fixed) (worker : ℕ)
    → FillsSegment space half fixed (nothing_of worker)
empty_fills space half fixed worker =
    let from : ℕ = segment_from space half worker in
    let end : from ≡ from + words_of_homes fixed [] = omega arith in
    subst (λ (to : ℕ). Tiles fixed from to []) end (Tiles.none from)

-- a segment of those is one with no copy, of a helper
nothing_is : (space : Space) (segment : SegmentCopies) → Contains (nothing_handed space) segment
    → (worker : ℕ) × (worker < space.sizes.helpers) × (nothing_of worker ≡ segment)
nothing_is space segment there =
    let found = map_from nothing_of (helping_workers space) segment there in
    (found.0, omega (arith, (range_bounds 0 space.sizes.helpers found.0 found.1).1), found.2)

-- so it is where they are segments with no copy
pub hands_nothing : (start : Start) (fixed : Fixed) → IsBegun start fixed
    → start.handed ≡ nothing_handed start.heap.space → HandsNothing start fixed
hands_nothing start fixed begun alone =
    let space = start.heap.space in
    let workers : List ℕ = helping_workers space in
    record {
      by = ap (map (λ (segment : SegmentCopies). segment.worker)) alone ∙ workers_of_nothing workers;
      fills = λ segment there.
          let is = nothing_is space segment (subst (λ (all : List SegmentCopies). Contains all segment) alone there) in
          subst (FillsSegment space start.half fixed) is.2
          (empty_fills space start.half fixed is.0);
      ends = λ segment there.
          let is = nothing_is space segment (subst (λ (all : List SegmentCopies). Contains all segment) alone there) in
          subst (EndsSegment space start.half fixed start.heap.words) is.2
          (λ below. ap (λ (at : ℕ). get_or start.heap.words at 0) (omega arith)
          ∙ segment_begins_empty begun is.0 is.1 (omega (arith, below)));
      homes = ap homes_in alone ∙ homes_of_nothing workers;
      none = ap (words_of_segments fixed) alone ∙ words_of_nothing fixed workers;
    }
