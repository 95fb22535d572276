-- The laws of regions.
use Rattle.std.proofs.Common.{◌≡◌, ℕ, ◌<◌, refl, sym, ◌∙◌, ap, subst, arith}
use Rattle.page_space.specs.declared.region.Region.{Region}
use Rattle.page_space.specs.declared.region.Region.TheVariants.{Page, Eden, Segment, Root, Layout, Mark, Board, Outside}
use Rattle.page_space.specs.Extents.{Space, Extent, IsRegion, StartsAt, extents}
use Rattle.page_space.specs.RegionLaws.{ExtentsCover, RegionsStand, RegionsStandOnce, ExtentsAreOfRegions}
use Rattle.page_space.specs.RegionLaws.{AddressesAreInOne, StartsAreInside, RegionsStandByNumber, KindsStandByNumber}
use Rattle.page_space.specs.RegionLaws.{IsSpace}
use Rattle.page_space.proofs.Starts.{roots_start_is, layouts_start_is, marks_start_is, board_start_is, words_count_is}
use Rattle.page_space.proofs.Standing.{start_of, length_of, extent_of}
use Rattle.page_space.proofs.Covering.{IsHeld, held, disjoint}
use Rattle.page_space.proofs.Placed.{placed}
use Rattle.page_space.proofs.Addresses.{starts_at, is_in, start_of_is}

-- each word is in a region
pub extents_cover : ExtentsCover
extents_cover space a below =
    let is : IsHeld (extents space) a = held space a below in
    (is.extent.region, record { extent = is.extent; stands = is.stands; of_region = refl; holds = is.holds })

-- each region of the heap stands
pub regions_stand : RegionsStand
regions_stand space region is_one = (start_of space region, starts_at space region (start_of space region) is_one refl)

-- it stands once
pub regions_stand_once : RegionsStandOnce
regions_stand_once space one other there too same =
    (placed space one there).place ∙ ap (extent_of space) same ∙ sym (placed space other too).place

-- what stands is a region of the heap
pub extents_are_of_regions : ExtentsAreOfRegions
extents_are_of_regions space extent there = (placed space extent there).is_region

-- no address is in two regions
pub addresses_are_in_one : AddressesAreInOne
addresses_are_in_one space a one other is is_too =
    sym is.of_region
    ∙ ap (λ (e : Extent). e.region)
    (disjoint space is.extent is_too.extent a is.stands is_too.stands is.holds is_too.holds)
    ∙ is_too.of_region

-- no region of the heap is empty
some_words : (space : Space) (region : Region) → IsSpace space → IsRegion space region → 0 < length_of space region
some_words space (Page page) limits is_one = omega arith
some_words space Eden limits is_one = omega (arith, limits.young_is_least)
some_words space (Segment half worker) limits is_one = omega (arith, limits.young_is_least)
some_words space (Root variable) limits is_one = omega arith
some_words space (Layout shape) limits is_one = omega arith
some_words space (Mark mark) limits is_one = omega arith
some_words space (Board place) limits is_one = omega arith
some_words space Outside limits is_one = absurd is_one

-- what begins somewhere is a region of the heap
region_of_start : (space : Space) (region : Region) (a : ℕ) → StartsAt space region a → IsRegion space region
region_of_start space region a starts =
    subst (IsRegion space) starts.of_region (placed space starts.extent starts.stands).is_region

-- a region holds the address that it begins at
pub starts_are_inside : StartsAreInside
starts_are_inside space region a limits starts =
    let begins : start_of space region ≡ a = start_of_is space region a starts in
    let is_one : IsRegion space region = region_of_start space region a starts in
    is_in space region a (record {
      is_region = is_one;
      from = omega (arith, begins);
      below = omega (arith, begins, some_words space region limits is_one);
    })

-- each region begins at the number that its kind and its numbers give
pub stand_by_number : RegionsStandByNumber
stand_by_number space = record {
  pages = λ page below. starts_at space (Page page) _ below refl;
  eden = starts_at space Eden _ tt refl;
  segments = λ half worker one below. starts_at space (Segment half worker) _ (one, below) (omega arith);
  roots = λ variable below. starts_at space (Root variable) _ below refl;
  layouts = λ shape below. starts_at space (Layout shape) _ below refl;
  marks = λ mark below. starts_at space (Mark mark) _ below refl;
  board = λ place below. starts_at space (Board place) _ below refl;
}

-- and so does each kind
pub kinds_by_number : KindsStandByNumber
kinds_by_number space = record {
  roots = roots_start_is space;
  layouts = layouts_start_is space;
  marks = marks_start_is space;
  board = board_start_is space;
  count = words_count_is space;
}
