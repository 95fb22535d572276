-- The regions of cells by the addresses at which they begin.
use Rattle.std.proofs.Common.{◌≡◌, ℕ, Contains, refl, sym, subst}
use Rattle.heap_model.specs.Types.{Region}
use Rattle.page_space.specs.Extents.{Space, Extent, ContainsAddress, IsIn}
use Rattle.page_space.specs.RegionLaws.{IsSpace}
use Rattle.page_space.proofs.LawsHold.{addresses_are_in_one, regions_stand_once, starts_are_inside}
use Rattle.heap_model.specs.Heaps.{cell_extents}
use Rattle.heap_model.proofs.CellsApart.{cell_extent_stands}

-- a region has the address at which it begins
pub start_is_in : (space : Space) (extent : Extent) → IsSpace space → Contains (cell_extents space) extent
    → IsIn space extent.start extent.region
start_is_in space extent limits among =
    starts_are_inside space extent.region extent.start limits record {
      extent = extent;
      stands = cell_extent_stands space extent among;
      of_region = refl;
      starts = refl;
    }

-- a region has its first address
pub holds_first : (space : Space) (extent : Extent) → IsSpace space → Contains (cell_extents space) extent
    → ContainsAddress extent extent.start
holds_first space extent limits among =
    let inside = start_is_in space extent limits among in
    subst (λ (one : Extent). ContainsAddress one extent.start)
    (regions_stand_once space inside.extent extent inside.stands (cell_extent_stands space extent among)
    inside.of_region) inside.holds

-- the region of the address at which a region of cells begins is that one
pub region_at_start : (space : Space) (extent : Extent) (region : Region) → IsSpace space
    → Contains (cell_extents space) extent → IsIn space extent.start region → region ≡ extent.region
region_at_start space extent region limits among inside =
    addresses_are_in_one space extent.start region extent.region inside (start_is_in space extent limits among)

-- two regions of cells that begin at one address are one
pub one_extent : (space : Space) (one other : Extent) → IsSpace space → Contains (cell_extents space) one
    → Contains (cell_extents space) other → one.start ≡ other.start → one ≡ other
one_extent space one other limits among among_too same =
    let In : ℕ → Type 0 = λ at. IsIn space at other.region in
    let inside : In one.start = subst In (sym same) (start_is_in space other limits among_too) in
    regions_stand_once space one other (cell_extent_stands space one among) (cell_extent_stands space other among_too)
    (sym (region_at_start space one other.region limits among inside))
