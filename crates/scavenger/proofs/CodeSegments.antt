-- Where eden, the halves and their segments begin and end, as the code computes it.
use Rattle.std.proofs.Common.{◌≡◌, ℕ, ◌+◌, ◌-◌, ◌*◌, ◌<◌, ◌≤◌, Bool, inl, inr, refl, sym, ◌∙◌, subst, arith}
use Rattle.std.proofs.lemmas.Bool.{cases_lt}
use Rattle.page_space.specs.declared.sizes.Sizes.{Sizes}
use Rattle.page_space.specs.declared.region.Region.{Region}
use Rattle.page_space.specs.declared.region.Region.TheVariants.{Eden, Segment}
use Rattle.page_space.specs.Extents.{Space, StartsAt, IsRegion, eden_start, segments_start}
use Rattle.page_space.specs.Extents.{half_segments, marks_start}
use Rattle.page_space.specs.RegionLaws.{IsSpace}
use Rattle.page_space.proofs.Addresses.{start_of_is}
use Rattle.page_space.proofs.CellAddresses.{young_are}
use Rattle.page_space.proofs.LawsHold.{stand_by_number, starts_are_inside, extents_are_of_regions, kinds_by_number}
use Rattle.nursery.specs.Young.{other_half}
use Rattle.scavenger.specs.Starts.{room_start}
use Rattle.scavenger.specs.Following.{half_start, half_end}
use Rattle.scavenger.specs.Walking.{AreSpaces, room_end}
use Rattle.scavenger.proofs.TargetNumbers.{room_below_roots}

-- a region begins at one address
pub one_start : (space : Space) (region : Region) (one other : ℕ) → StartsAt space region one
    → StartsAt space region other → one ≡ other
one_start space region one other is is_too =
    sym (start_of_is space region one is) ∙ start_of_is space region other is_too

-- what begins somewhere is a region of the heap
pub begins_region : (space : Space) (region : Region) (at : ℕ) → StartsAt space region at → IsRegion space region
begins_region space region at is =
    subst (IsRegion space) is.of_region (extents_are_of_regions space is.extent is.stands)

-- a segment begins before the marks
pub segment_before_marks : (space : Space) (half worker at : ℕ) → IsSpace space
    → StartsAt space (Segment half worker) at → at < marks_start space
segment_before_marks space half worker at limits is =
    let kinds = kinds_by_number space in
    let below = ((young_are space at limits).1 (record {
      region = Segment half worker;
      is_in = starts_are_inside space (Segment half worker) at limits is;
      of_kind = refl;
    })).below in
    omega (arith, below, kinds.layouts, kinds.marks)

-- and not in a page
pub segment_is_young : (space : Space) (half worker at : ℕ) → IsSpace space
    → StartsAt space (Segment half worker) at → eden_start space ≤ at
segment_is_young space half worker at limits is =
    ((young_are space at limits).1 (record {
      region = Segment half worker;
      is_in = starts_are_inside space (Segment half worker) at limits is;
      of_kind = refl;
    })).from

-- the segments of either half end where those of both do, or before
half_ends : (young helpers half : ℕ) → half ≤ 1
    → young * (half * (helpers + 1)) + young * (helpers + 1) ≤ 2 * ((helpers + 1) * young)
half_ends young helpers half two = elim (cases_lt half 1) [
  | inl less ↦
      let is : half ≡ 0 = omega arith in
      subst (λ (n : ℕ). young * (n * (helpers + 1)) + young * (helpers + 1) ≤ 2 * ((helpers + 1) * young)) (sym is)
      (omega arith)
  | inr more ↦
      let is : half ≡ 1 = omega arith in
      subst (λ (n : ℕ). young * (n * (helpers + 1)) + young * (helpers + 1) ≤ 2 * ((helpers + 1) * young)) (sym is)
      (omega arith)
]

-- so they end before the marks
pub half_before_marks : (space : Space) (half : ℕ) → half ≤ 1 → half_end space half ≤ marks_start space
half_before_marks space half two =
    let kinds = kinds_by_number space in
    let ends = half_ends space.sizes.young space.sizes.helpers half two in
    omega (arith, ends, kinds.roots, kinds.layouts, kinds.marks)

-- the room ends before the marks
pub room_before_marks : (space : Space) (left : ℕ) → room_end space (other_half left) ≤ marks_start space
room_before_marks space left =
    let kinds = kinds_by_number space in
    let two : other_half left ≤ 1 = omega arith in
    omega (arith, room_below_roots space (other_half left) two, kinds.layouts, kinds.marks)

-- the numbers that the code computes are those of the spaces
spaces_by : (space : Space) (half eden left room : ℕ) (all : Bool) → half ≤ 1 → StartsAt space Eden eden
    → StartsAt space (Segment half 0) left → StartsAt space (Segment (1 - half) space.sizes.helpers) room
    → AreSpaces space half all (record {
      eden = eden;
      eden_end = eden + space.sizes.young;
      half = half;
      left = left;
      left_end = left + space.sizes.young * (space.sizes.helpers + 1);
      room = room;
      room_end = room + space.sizes.young;
      promote_all = all;
    })
spaces_by space half eden left room all two of_eden of_left of_room =
    let by_number = stand_by_number space in
    let eden_is : eden ≡ eden_start space = one_start space Eden eden (eden_start space) of_eden by_number.eden in
    let first = by_number.segments half 0 (omega arith) (omega arith) in
    let left_at : left ≡ segments_start space + space.sizes.young * (half * half_segments space + 0) =
    one_start space (Segment half 0) left _ of_left first in
    let left_is : left ≡ half_start space half = omega (arith, left_at) in
    let last = by_number.segments (1 - half) space.sizes.helpers (omega arith) (omega arith) in
    let room_is : room ≡ room_start space (other_half half) =
    one_start space (Segment (1 - half) space.sizes.helpers) room _ of_room last in
    record {
      eden = eden_is;
      eden_end = omega (arith, eden_is);
      half = refl;
      left = left_is;
      left_end = omega (arith, left_is);
      room = room_is;
      room_end = omega (arith, room_is);
      before_marks = omega (arith, room_is, room_before_marks space half);
      promote_all = refl;
    }

-- also where the sizes were read apart
pub spaces_are : (space : Space) (sizes : Sizes) (half eden left room : ℕ) (all : Bool) → sizes ≡ space.sizes → half ≤ 1
    → StartsAt space Eden eden → StartsAt space (Segment half 0) left
    → StartsAt space (Segment (1 - half) sizes.helpers) room
    → AreSpaces space half all (record {
      eden = eden;
      eden_end = eden + sizes.young;
      half = half;
      left = left;
      left_end = left + sizes.young * (sizes.helpers + 1);
      room = room;
      room_end = room + sizes.young;
      promote_all = all;
    })
spaces_are space sizes half eden left room promote_all same two of_eden of_left =
    let Are : Sizes → Type 0 = λ (many : Sizes). StartsAt space (Segment (1 - half) many.helpers) room
    → AreSpaces space half promote_all (record {
      eden = eden;
      eden_end = eden + many.young;
      half = half;
      left = left;
      left_end = left + many.young * (many.helpers + 1);
      room = room;
      room_end = room + many.young;
      promote_all = promote_all;
    }) in
    subst Are (sym same) (spaces_by space half eden left room promote_all two of_eden of_left)
