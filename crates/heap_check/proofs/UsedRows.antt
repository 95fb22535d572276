-- The used row of a region as a walk within a bound.
use Rattle.std.proofs.Common.{◌≡◌, ℕ, ◌+◌, ◌-◌, ◌≤◌, inl, inr, Contains, false}
use Rattle.std.proofs.Common.{refl, sym, ◌∙◌, ap, subst, arith, IsTrue}
use Rattle.std.proofs.lemmas.Bool.{false≢true}
use Rattle.heap_model.specs.Types.{Region}
use Rattle.page_space.specs.declared.region.Region.TheVariants.{Page, Eden, Segment}
use Rattle.page_space.specs.Extents.{Space, Extent, IsIn, is_cell_region}
use Rattle.page_space.specs.RegionLaws.{IsSpace}
use Rattle.page_space.proofs.CellAddresses.{cells_are}
use Rattle.page_space.proofs.Placed.{placed}
use Rattle.page_space.proofs.Standing.{length_of}
use Rattle.page_space.proofs.Starts.{layouts_start_is, marks_start_is, board_start_is, words_count_is}
use Rattle.page_space.proofs.Limits.{words_count_most}
use Rattle.cell_layout.specs.Cells.{IsRow}
use Rattle.heap_model.specs.Heaps.{Heap, Row, EndsUsed, cell_extents, survivors_in}
use Rattle.heap_model.proofs.CellsApart.{cell_extent_stands}
use Rattle.heap_model.proofs.WordsAlike.{extent_below_roots}
use Rattle.heap_model.proofs.RegionStarts.{region_at_start, holds_first}
use Rattle.heap_model.proofs.RegionRows.{LiesBetween, of_region, region_is, lies_between}
use Rattle.heap_model.specs.RegionRows.{StandsBetween, IsRowFrom}
use Rattle.heap_check.specs.declared.region_rows.Bound.{Bound}
use Rattle.heap_check.specs.Walks.{Stops, IsWalk}
use Rattle.heap_check.specs.RegionRows.{IsFew, BoundsFrom, IsBoundOf, UsedRowEndsAt, CountsRowAt}
use Rattle.heap_check.specs.RegionRows.{bound_in, survivors_by}

-- a walk within a limit that may end nowhere else ends there
ends_at_limit : (heap : Heap) (bound : Bound) (end : ℕ) → bound.blank ≡ false
    → Stops heap bound end → end ≡ bound.limit
ends_at_limit heap bound end full (inl at_limit) = at_limit
ends_at_limit heap bound end full (inr blank) = absurd (false≢true (sym full ∙ blank.0))

-- where the used row of a region ends, a walk may end, kind by kind
bound_of_kind : (heap : Heap) (extent : Extent) (end : ℕ) (region : Region) → IsFew heap
    → extent.start + extent.words ≡ end → extent.words ≡ length_of heap.space region → (at : ℕ)
    → EndsUsed heap extent at region
    → (at ≤ (bound_in region extent.start end heap.used).limit)
    × Stops heap (bound_in region extent.start end heap.used) at
bound_of_kind heap extent end (Page page) few ends long at is = (omega (arith, is, ends), inl (is ∙ ends))
bound_of_kind heap extent end Eden few ends long at is = (omega (arith, is), inl is)
bound_of_kind heap extent end (Segment half worker) few ends long at is =
    (omega (arith, is.0, ends), elim is.1 [ inl last ↦ inl (last ∙ ends) | inr zero ↦ inr (refl, zero) ])
bound_of_kind heap extent end _ few ends long at is = absurd is

-- where a walk may end, the used row of the region does, kind by kind
used_of_kind : (heap : Heap) (extent : Extent) (end : ℕ) (region : Region) → IsTrue (is_cell_region region)
    → extent.start + extent.words ≡ end → (at : ℕ) → at ≤ (bound_in region extent.start end heap.used).limit
    → Stops heap (bound_in region extent.start end heap.used) at → EndsUsed heap extent at region
used_of_kind heap extent end (Page page) cells ends at within stops =
    ends_at_limit heap (record { limit = end; blank = false }) at refl stops ∙ sym ends
used_of_kind heap extent end Eden cells ends at within stops =
    ends_at_limit heap (record { limit = extent.start + heap.used; blank = false }) at refl stops
used_of_kind heap extent end (Segment half worker) cells ends at within stops =
    (omega (arith, within, ends), elim stops [ inl last ↦ inl (last ∙ sym ends) | inr zero ↦ inr zero.1 ])
used_of_kind heap extent end _ cells ends at within stops = absurd (false≢true cells)

-- the limit of a bound lies in the region, kind by kind
limit_of_kind : (heap : Heap) (extent : Extent) (end : ℕ) (region : Region) → IsFew heap
    → extent.start + extent.words ≡ end → extent.words ≡ length_of heap.space region
    → (extent.start ≤ (bound_in region extent.start end heap.used).limit)
    × ((bound_in region extent.start end heap.used).limit ≤ end)
limit_of_kind heap extent end Eden few ends long = (omega arith, omega (arith, few, ends, long))
limit_of_kind heap extent end _ few ends long = (omega arith, omega arith)

-- the regions of cells are pages, eden and segments
cells_only : (space : Space) (extent : Extent) → IsSpace space → Contains (cell_extents space) extent
    → IsTrue (is_cell_region extent.region)
cells_only space extent limits among =
    let found = (cells_are space extent.start limits).0
    (omega (arith, extent_below_roots space extent among, (holds_first space extent limits among).below)) in
    subst (λ (r : Region). IsTrue (is_cell_region r))
    (region_at_start space extent found.region limits among found.is_in) found.of_kind

-- the bound of a region is that of its kind
bounds_of : (heap : Heap) (extent : Extent) (end : ℕ) → IsSpace heap.space → IsFew heap
    → Contains (cell_extents heap.space) extent → extent.start + extent.words ≡ end
    → IsBoundOf heap extent (bound_in extent.region extent.start end heap.used)
bounds_of heap extent end within few there ends =
    let place = (placed heap.space extent (cell_extent_stands heap.space extent there)).place in
    let long = ap (λ (e : Extent). e.words) place in
    let limit = limit_of_kind heap extent end extent.region few ends long in
    let cells = cells_only heap.space extent within there in
    record {
      from = limit.0;
      within = rw ends limit.1;
      ends = λ at. (
        bound_of_kind heap extent end extent.region few ends long at,
        λ may. used_of_kind heap extent end extent.region cells ends at may.0 may.1,
      );
    }

-- the bound of the region that stands there, by the region that its first address is in
pub bounds_from : (heap : Heap) (start end : ℕ) (region : Region) → IsSpace heap.space → IsFew heap
    → StandsBetween heap.space start end → IsIn heap.space start region
    → BoundsFrom heap start end (bound_in region start end heap.used)
bounds_from heap start end region within few stands inside =
    let extent = stands.extent in
    let here : IsIn heap.space extent.start region =
    subst (λ (a : ℕ). IsIn heap.space a region) (sym stands.starts) inside in
    let same : region ≡ extent.region = region_at_start heap.space extent region within stands.among here in
    let B : Bound → Type 0 = λ bound. IsBoundOf heap extent bound in
    let bound : bound_in extent.region extent.start end heap.used ≡ bound_in region start end heap.used =
    ap (λ (r : Region). bound_in r extent.start end heap.used) (sym same)
    ∙ ap (λ (a : ℕ). bound_in region a end heap.used) stands.starts in
    record {
      limits = within;
      stands = stands;
      by_kind = ap (λ (r : Region). bound_in r start end heap.used) same;
      bounds = subst B bound (bounds_of heap extent end within few stands.among stands.ends);
    }

-- no used word of eden is past 32 bits, as none of a heap is
pub used_within : (heap : Heap) (start end : ℕ) → IsSpace heap.space → IsFew heap → StandsBetween heap.space start end
    → start + heap.used ≤ 4294967295
used_within heap start end within few stands =
    let extent = stands.extent in
    omega (
      arith,
      extent_below_roots heap.space extent stands.among,
      stands.starts,
      few,
      within.young,
      layouts_start_is heap.space,
      marks_start_is heap.space,
      board_start_is heap.space,
      words_count_is heap.space,
      words_count_most heap.space within,
    )

-- the used row of the region is a walk within the bound
pub row_walks : (heap : Heap) (start end : ℕ) (bound : Bound) (row : Row) → BoundsFrom heap start end bound
    → IsRowFrom heap start row → IsWalk heap bound start row.end row.cells
row_walks heap start end bound row bounds is =
    let same = of_region bounds.limits bounds.stands is in
    let Ends : Extent → Type 0 = λ extent. EndsUsed heap extent row.end extent.region in
    let ends = (bounds.bounds.ends row.end).0 (subst Ends same is.used.ends) in
    record {
      row = subst (λ (from : ℕ). IsRow heap.space heap.words from row.end row.cells) is.starts is.used.stands;
      within = ends.0;
      stops = ends.1;
    }

-- the words of survivors of a row, by its region
pub counts_by : (row : Row) (region : Region)
    → survivors_in row region ≡ survivors_by region (row.end - row.extent.start)
counts_by row (Segment half worker) = refl
counts_by row _ = refl

-- they are no more than its words
pub few_survivors : (region : Region) (words : ℕ) → survivors_by region words ≤ words
few_survivors (Segment half worker) words = omega arith
few_survivors _ words = omega arith

-- a row's survivors, by the region that its first address is in
pub counts_row : (heap : Heap) (start end : ℕ) (region : Region) → IsSpace heap.space
    → UsedRowEndsAt heap start end → IsIn heap.space start region
    → CountsRowAt heap start (survivors_by region (end - start))
counts_row heap start end region within ends inside =
    let row = ends.row in
    let same = region_is region within inside ends.is in
    record {
      row = row;
      is = ends.is;
      counts =
          counts_by row row.extent.region
          ∙ ap (λ (r : Region). survivors_by r (row.end - row.extent.start)) (sym same)
          ∙ ap (λ (n : ℕ). survivors_by region (n - row.extent.start)) ends.ends
          ∙ ap (λ (n : ℕ). survivors_by region (end - n)) ends.is.starts;
    }

-- it lies in its region
pub row_within : {heap : Heap} {start end at : ℕ} → IsSpace heap.space → IsFew heap → StandsBetween heap.space start end
    → UsedRowEndsAt heap start at → LiesBetween start at end
row_within {start = start} {end} limits few stands ends =
    subst (λ at. LiesBetween start at end) ends.ends (lies_between limits few stands ends.is)
