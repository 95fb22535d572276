-- The end of the page, eden or segment that an address is in.
use Rattle.std.proofs.Common.{◌≡◌, ℕ, ◌+◌, ◌<◌, ◌≤◌, IsTrue, sym, ◌∙◌, ap, arith}
use Rattle.std.proofs.lemmas.Bool.{false≢true}
use Rattle.page_space.specs.declared.region.Region.{Region}
use Rattle.page_space.specs.declared.region.Region.TheVariants.{Page, Eden, Segment, Root, Layout, Mark, Board, Outside}
use Rattle.page_space.specs.Extents.{Space, Extent, IsRegion, CellsEndAt, is_cell_region, roots_start}
use Rattle.page_space.proofs.Starts.{roots_start_is}
use Rattle.page_space.proofs.Standing.{start_of, length_of}
use Rattle.page_space.proofs.Covering.{disjoint}
use Rattle.page_space.proofs.Placed.{IsPlaced, placed}
use Rattle.page_space.proofs.CellAddresses.{page_ends, segment_ends}

-- the address is before the end
pub before_end : (space : Space) (a end : ℕ) → CellsEndAt space a end → a < end
before_end space a end is = omega (arith, is.holds.below, is.ends)

-- a region in which cells stand ends before the roots
ends_before_roots : (space : Space) (region : Region) → IsTrue (is_cell_region region) → IsRegion space region →
    start_of space region + length_of space region ≤ roots_start space
ends_before_roots space (Page page) is_cell is_one = omega (arith, page_ends space page is_one, roots_start_is space)
ends_before_roots space Eden is_cell is_one = omega (arith, roots_start_is space)
ends_before_roots space (Segment half worker) is_cell is_one = segment_ends space half worker is_one
ends_before_roots space (Root variable) is_cell is_one = absurd (false≢true is_cell)
ends_before_roots space (Layout shape) is_cell is_one = absurd (false≢true is_cell)
ends_before_roots space (Mark mark) is_cell is_one = absurd (false≢true is_cell)
ends_before_roots space (Board place) is_cell is_one = absurd (false≢true is_cell)
ends_before_roots space Outside is_cell is_one = absurd is_one

-- so the end is not behind the first address of the roots
pub end_before_roots : (space : Space) (a end : ℕ) → CellsEndAt space a end → end ≤ roots_start space
end_before_roots space a end is =
    let place : IsPlaced space is.extent = placed space is.extent is.stands in
    omega (
      arith,
      ends_before_roots space is.extent.region is.of_cells place.is_region,
      is.ends,
      ap (λ (e : Extent). e.start) place.place,
      ap (λ (e : Extent). e.words) place.place,
    )

-- an address has one end
pub end_once : (space : Space) (a end other : ℕ) → CellsEndAt space a end → CellsEndAt space a other → end ≡ other
end_once space a end other is is_too =
    sym is.ends
    ∙ ap (λ (e : Extent). e.start + e.words)
    (disjoint space is.extent is_too.extent a is.stands is_too.stands is.holds is_too.holds)
    ∙ is_too.ends

-- the addresses from one to the end of its region have that end too
pub same_end : (space : Space) (a b end : ℕ) → CellsEndAt space a end → a ≤ b → b < end → CellsEndAt space b end
same_end space a b end is from below = record {
  extent = is.extent;
  stands = is.stands;
  of_cells = is.of_cells;
  holds = record { from = omega (arith, is.holds.from); below = omega (arith, is.ends) };
  ends = is.ends;
}
