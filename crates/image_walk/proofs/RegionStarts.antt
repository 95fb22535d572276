-- Where the region of cells begins that an address is in.
use Rattle.std.proofs.Common.{◌≡◌, ℕ, ◌≤◌, sym, ◌∙◌, ap, arith}
use Rattle.heap_model.specs.Types.{Region}
use Rattle.page_space.specs.Extents.{Space, Extent, IsIn, StartsAt, CellsEndAt}
use Rattle.page_space.proofs.Covering.{disjoint}
use Rattle.page_space.proofs.CellEnds.{before_end, end_before_roots}
use Rattle.heap_model.specs.RegionRows.{StandsBetween}
use Rattle.image_walk.proofs.Boundaries.{starts_once, among_cells}

-- the region that the address is in begins where that of its cells does
begins_at : (space : Space) (a start end : ℕ) (region : Region) → IsIn space a region → StartsAt space region start
    → (cells : CellsEndAt space a end) → cells.extent.start ≡ start
begins_at space a start end region inside starts cells =
    let same : inside.extent ≡ cells.extent =
    disjoint space inside.extent cells.extent a inside.stands cells.stands inside.holds cells.holds in
    starts_once space region start cells.extent starts cells.stands
    (ap (λ (e : Extent). e.region) (sym same) ∙ inside.of_region)

-- it stands from there to where the cells end
pub stands_from : (space : Space) (a start end : ℕ) (region : Region) → IsIn space a region
    → StartsAt space region start
    → CellsEndAt space a end → StandsBetween space start end
stands_from space a start end region inside starts cells = record {
  extent = cells.extent;
  among = among_cells space cells.extent cells.stands
      (omega (arith, cells.holds.from, before_end space a end cells, end_before_roots space a end cells));
  starts = begins_at space a start end region inside starts cells;
  ends = cells.ends;
}

-- and the address is not before it
pub starts_before : (space : Space) (a start end : ℕ) (region : Region) → IsIn space a region
    → StartsAt space region start → CellsEndAt space a end → start ≤ a
starts_before space a start end region inside starts cells =
    omega (arith, cells.holds.from, begins_at space a start end region inside starts cells)
