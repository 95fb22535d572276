-- The used row of a region of cells: there is one where the rows are whole, and no other.
use Rattle.std.proofs.Common.{◌≡◌, ℕ, ◌+◌, ◌≤◌, ◌<◌, List, Contains, refl, sym, ◌∙◌, ap, subst, arith}
use Rattle.std.proofs.lemmas.List.Elements.{All-contains}
use Rattle.tagged_word.proofs.Members.{in_map, map_from}
use Rattle.page_space.specs.Extents.{Space, Extent, IsIn, words_count}
use Rattle.page_space.specs.RegionLaws.{IsSpace}
use Rattle.page_space.proofs.Covering.{ends_within as words_end}
use Rattle.cell_layout.proofs.Rows.{row_ascends}
use Rattle.heap_model.specs.Types.{Region}
use Rattle.heap_model.specs.Heaps.{Heap, Row, IsUsedRow, AreRows, cell_extents}
use Rattle.heap_model.specs.RegionRows.{StandsBetween, IsRowFrom}
use Rattle.heap_model.proofs.CellsApart.{ends_within}
use Rattle.heap_model.proofs.RegionStarts.{start_is_in, one_extent, region_at_start}
use Rattle.heap_model.proofs.RowEnds.{AreOneRow, one_used_row}

-- a region of cells begins at a word of the heap
pub start_inside : (space : Space) (start end : ℕ) → IsSpace space → StandsBetween space start end
    → start < words_count space
start_inside space start end limits stands =
    let inside = start_is_in space stands.extent limits stands.among in
    omega (arith, inside.holds.below, words_end space inside.extent inside.stands, stands.starts)

-- each of the rows of a heap is the used row of its region
pub row_is : {heap : Heap} {rows : List Row} (row : Row) → AreRows heap rows → Contains rows row
    → IsRowFrom heap row.extent.start row
row_is {heap} {rows} row are there = record {
  among = subst (λ all. Contains all row.extent) are.everywhere (in_map (λ (one : Row). one.extent) rows row there);
  starts = refl;
  used = All-contains (IsUsedRow heap) rows row are.each there;
}

-- the row of a region, as one of the rows of a heap
pub record RowOf (heap : Heap) (rows : List Row) (extent : Extent) : Type 0 where
  pub row : Row
  pub there : Contains rows row
  pub is : IsRowFrom heap extent.start row
  pub same : row.extent ≡ extent

-- each region of cells has one
pub row_of : {heap : Heap} {rows : List Row} (extent : Extent) → AreRows heap rows
    → Contains (cell_extents heap.space) extent → RowOf heap rows extent
row_of {heap} {rows} extent are among =
    let Has : List Extent → Type 0 = λ all. Contains all extent in
    let found = map_from (λ (row : Row). row.extent) rows extent (subst Has (sym are.everywhere) among) in
    let At : ℕ → Type 0 = λ at. IsRowFrom heap at found.0 in
    record {
      row = found.0;
      there = found.1;
      is = subst At (ap (λ (e : Extent). e.start) found.2) (row_is found.0 are found.1);
      same = found.2;
    }

-- it stands between two addresses
pub record RowBetween (heap : Heap) (rows : List Row) (start end : ℕ) : Type 0 where
  pub row : Row
  pub there : Contains rows row
  pub is : IsRowFrom heap start row
  pub ends : row.extent.start + row.extent.words ≡ end

-- each region of cells has one
pub row_between : {heap : Heap} {start end : ℕ} {rows : List Row} → AreRows heap rows
    → StandsBetween heap.space start end → RowBetween heap rows start end
row_between {heap} are stands =
    let own = row_of stands.extent are stands.among in
    record {
      row = own.row;
      there = own.there;
      is = subst (λ (at : ℕ). IsRowFrom heap at own.row) stands.starts own.is;
      ends = ap (λ (e : Extent). e.start + e.words) own.same ∙ stands.ends;
    }

-- the used row of a region is one
pub one_row_from : {heap : Heap} {start : ℕ} {row other : Row} → IsSpace heap.space → IsRowFrom heap start row
    → IsRowFrom heap start other → AreOneRow row other
one_row_from {heap} {start} {row} {other} limits is is_too =
    one_used_row heap row other is.used is_too.used
    (one_extent heap.space row.extent other.extent limits is.among is_too.among (is.starts ∙ sym is_too.starts))

-- it is of the region that stands there
pub of_region : {heap : Heap} {start end : ℕ} {row : Row} → IsSpace heap.space
    → (stands : StandsBetween heap.space start end)
    → IsRowFrom heap start row → row.extent ≡ stands.extent
of_region {heap} {row = row} limits stands is =
    one_extent heap.space row.extent stands.extent limits is.among stands.among (is.starts ∙ sym stands.starts)

-- so its region ends there
pub region_ends : {heap : Heap} {start end : ℕ} {row : Row} → IsSpace heap.space → StandsBetween heap.space start end
    → IsRowFrom heap start row → row.extent.start + row.extent.words ≡ end
region_ends limits stands is = ap (λ (e : Extent). e.start + e.words) (of_region limits stands is) ∙ stands.ends

-- it is of the region that its first address is in
pub region_is : {heap : Heap} {start : ℕ} {row : Row} (region : Region) → IsSpace heap.space
    → IsIn heap.space start region → IsRowFrom heap start row → region ≡ row.extent.region
region_is {heap} {row = row} region limits inside is =
    let In : ℕ → Type 0 = λ at. IsIn heap.space at region in
    region_at_start heap.space row.extent region limits is.among (subst In (sym is.starts) inside)

-- where a used row may end
pub record LiesBetween (start row_end end : ℕ) : Type 0 where
  pub from : start ≤ row_end
  pub within : row_end ≤ end

-- it ends in its region
pub lies_between : {heap : Heap} {start end : ℕ} {row : Row} → IsSpace heap.space → heap.used ≤ heap.space.sizes.young
    → StandsBetween heap.space start end → IsRowFrom heap start row → LiesBetween start row.end end
lies_between {heap} {row = row} limits few stands is =
    let ends = region_ends limits stands is in
    record {
      from = omega (
        arith,
        row_ascends heap.space heap.words row.extent.start row.end row.cells is.used.stands,
        is.starts,
      );
      within = omega (arith, ends_within heap row few is.among is.used, ends);
    }
