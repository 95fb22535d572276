-- Which addresses are in a page, in the young generation, and where cells stand.
use Rattle.std.proofs.Common.{◌≡◌, ℕ, ◌+◌, ◌-◌, ◌*◌, ◌/◌, ◌%◌, ◌<◌, ◌≤◌, ◌↔◌, IsTrue}
use Rattle.std.proofs.Common.{refl, ⊎_elim, arith}
use Rattle.std.proofs.Math.Nat.{mul-le-mul_left, mul-le-mul_right}
use Rattle.std.proofs.lemmas.Bool.{cases_lt, false≢true}
use Rattle.page_space.specs.declared.region.Region.{Region}
use Rattle.page_space.specs.declared.region.Region.TheVariants.{Page, Eden, Segment, Root, Layout, Mark, Board, Outside}
use Rattle.page_space.specs.Sizes.{page_words, AreWithin}
use Rattle.page_space.specs.Extents.{Space, IsInOne, IsRegion, IsNumberOf, CellsEndAt, is_page_region, is_young_region}
use Rattle.page_space.specs.Extents.{is_cell_region, eden_start, segments_start, half_segments, roots_start}
use Rattle.page_space.proofs.Starts.{half_words, roots_start_is}
use Rattle.page_space.proofs.Standing.{start_of, length_of, extent_of, stands}
use Rattle.page_space.proofs.Addresses.{IsInRegion, is_in, within}
use Rattle.page_space.proofs.Segments.{segment_is, start_of-segment, number_of}

-- an address before eden is in the page of its number
pub in_page : (space : Space) (a : ℕ) → a < eden_start space → IsInRegion space (Page (a / page_words)) a
in_page space a below = record { is_region = omega arith; from = omega arith; below = omega arith }

-- an address from eden to the segments is in eden
pub in_eden : (space : Space) (a : ℕ) → eden_start space ≤ a → a < segments_start space → IsInRegion space Eden a
in_eden space a from below = record { is_region = tt; from = from; below = below }

-- the address of a segment's number is in that segment
pub in_segment : (space : Space) (a number : ℕ) → IsNumberOf space a number →
    IsInRegion space (Segment (number / half_segments space) (number % half_segments space)) a
in_segment space a number is = record {
  is_region = segment_is space number is.among;
  from = omega (arith, is.from, start_of-segment space number);
  below = omega (arith, is.below, start_of-segment space number);
}

-- a page ends before eden
pub page_ends : (space : Space) (page : ℕ) → page < space.sizes.pages
    → page_words * page + page_words ≤ eden_start space
page_ends space page below = omega arith

-- a segment ends before the roots
pub segment_ends : (space : Space) (half worker : ℕ) → IsRegion space (Segment half worker) →
    start_of space (Segment half worker) + space.sizes.young ≤ roots_start space
segment_ends space half worker is_one =
    let halves : half * half_words space ≤ 1 * half_words space =
    mul-le-mul_right (half_words space) (omega (arith, is_one.0)) in
    let workers : space.sizes.young * (worker + 1) ≤ space.sizes.young * half_segments space =
    mul-le-mul_left space.sizes.young (omega (arith, is_one.1)) in
    omega (arith, roots_start_is space)

-- an address of a page is before eden
of_page : (space : Space) (region : Region) (a : ℕ) → IsTrue (is_page_region region) → IsInRegion space region a →
    a < eden_start space
of_page space (Page page) a is_page is = omega (arith, page_ends space page is.is_region, is.below)
of_page space Eden a is_page is = absurd (false≢true is_page)
of_page space (Segment half worker) a is_page is = absurd (false≢true is_page)
of_page space (Root variable) a is_page is = absurd (false≢true is_page)
of_page space (Layout shape) a is_page is = absurd (false≢true is_page)
of_page space (Mark mark) a is_page is = absurd (false≢true is_page)
of_page space (Board place) a is_page is = absurd (false≢true is_page)
of_page space Outside a is_page is = absurd (false≢true is_page)

-- the addresses from one to another, without it
pub record IsFrom (start end a : ℕ) : Type 0 where
  pub from : start ≤ a
  pub below : a < end

-- an address of the young generation is from eden on and before the roots
of_young : (space : Space) (region : Region) (a : ℕ) → IsTrue (is_young_region region) → IsInRegion space region a →
    IsFrom (eden_start space) (roots_start space) a
of_young space (Page page) a is_young is = absurd (false≢true is_young)
of_young space Eden a is_young is = record { from = is.from; below = omega (arith, is.below, roots_start_is space) }
of_young space (Segment half worker) a is_young is = record {
  from = omega (arith, is.from);
  below = omega (arith, is.below, segment_ends space half worker is.is_region);
}
of_young space (Root variable) a is_young is = absurd (false≢true is_young)
of_young space (Layout shape) a is_young is = absurd (false≢true is_young)
of_young space (Mark mark) a is_young is = absurd (false≢true is_young)
of_young space (Board place) a is_young is = absurd (false≢true is_young)
of_young space Outside a is_young is = absurd (false≢true is_young)

-- an address where cells stand is before the roots
of_cells : (space : Space) (region : Region) (a : ℕ) → IsTrue (is_cell_region region) → IsInRegion space region a →
    a < roots_start space
of_cells space (Page page) a is_cell is = omega (arith, of_page space (Page page) a refl is, roots_start_is space)
of_cells space Eden a is_cell is = (of_young space Eden a refl is).below
of_cells space (Segment half worker) a is_cell is = (of_young space (Segment half worker) a refl is).below
of_cells space (Root variable) a is_cell is = absurd (false≢true is_cell)
of_cells space (Layout shape) a is_cell is = absurd (false≢true is_cell)
of_cells space (Mark mark) a is_cell is = absurd (false≢true is_cell)
of_cells space (Board place) a is_cell is = absurd (false≢true is_cell)
of_cells space Outside a is_cell is = absurd (false≢true is_cell)

-- the addresses before eden are those of pages
pub pages_are : (space : Space) (a : ℕ) → (a < eden_start space) ↔ IsInOne space is_page_region a
pages_are space a = (
  λ below. record {
    region = Page (a / page_words);
    is_in = is_in space (Page (a / page_words)) a (in_page space a below);
    of_kind = refl;
  },
  λ is. of_page space is.region a is.of_kind (within space is.region a is.is_in),
)

-- an address from the segments to the roots is in a segment
young_segment : (space : Space) (a : ℕ) → AreWithin space.sizes space.variables → segments_start space ≤ a →
    a < roots_start space → IsInOne space is_young_region a
young_segment space a limits from below =
    let number = (a - segments_start space) / space.sizes.young in
    let found : IsNumberOf space a number = number_of space a (omega (arith, limits.young_is_least)) from below in
    let segment = Segment (number / half_segments space) (number % half_segments space) in
    record { region = segment; is_in = is_in space segment a (in_segment space a number found); of_kind = refl }

-- the addresses from eden to the roots are those of the young generation
pub young_are : (space : Space) (a : ℕ) → AreWithin space.sizes space.variables →
    IsFrom (eden_start space) (roots_start space) a ↔ IsInOne space is_young_region a
young_are space a limits = (
  λ is. ⊎_elim
      (λ before. record { region = Eden; is_in = is_in space Eden a (in_eden space a is.from before); of_kind = refl })
      (λ behind. young_segment space a limits behind is.below)
      (cases_lt a (segments_start space)),
  λ is. of_young space is.region a is.of_kind (within space is.region a is.is_in),
)

-- what is in a page is where cells stand
cell_from_page : (region : Region) → IsTrue (is_page_region region) → IsTrue (is_cell_region region)
cell_from_page (Page page) is = refl
cell_from_page Eden is = refl
cell_from_page (Segment half worker) is = refl
cell_from_page (Root variable) is = absurd (false≢true is)
cell_from_page (Layout shape) is = absurd (false≢true is)
cell_from_page (Mark mark) is = absurd (false≢true is)
cell_from_page (Board place) is = absurd (false≢true is)
cell_from_page Outside is = absurd (false≢true is)

-- and what is in the young generation is too
cell_from_young : (region : Region) → IsTrue (is_young_region region) → IsTrue (is_cell_region region)
cell_from_young (Page page) is = refl
cell_from_young Eden is = refl
cell_from_young (Segment half worker) is = refl
cell_from_young (Root variable) is = absurd (false≢true is)
cell_from_young (Layout shape) is = absurd (false≢true is)
cell_from_young (Mark mark) is = absurd (false≢true is)
cell_from_young (Board place) is = absurd (false≢true is)
cell_from_young Outside is = absurd (false≢true is)

-- the addresses before the roots are those where cells stand
pub cells_are : (space : Space) (a : ℕ) → AreWithin space.sizes space.variables →
    (a < roots_start space) ↔ IsInOne space is_cell_region a
cells_are space a limits = (
  λ below. ⊎_elim
      (λ before. let found : IsInOne space is_page_region a = (pages_are space a).0 before in
      record { region = found.region; is_in = found.is_in; of_kind = cell_from_page found.region found.of_kind })
      (λ behind. let found : IsInOne space is_young_region a =
      (young_are space a limits).0 (record { from = behind; below = below }) in
      record { region = found.region; is_in = found.is_in; of_kind = cell_from_young found.region found.of_kind })
      (cases_lt a (eden_start space)),
  λ is. of_cells space is.region a is.of_kind (within space is.region a is.is_in),
)

-- the cells of a region end where the region does
pub cells_end : (space : Space) (region : Region) (a end : ℕ) → IsTrue (is_cell_region region) →
    IsInRegion space region a → start_of space region + length_of space region ≡ end → CellsEndAt space a end
cells_end space region a end is_cell is ends = record {
  extent = extent_of space region;
  stands = stands space region is.is_region;
  of_cells = is_cell;
  holds = record { from = is.from; below = is.below };
  ends = ends;
}
