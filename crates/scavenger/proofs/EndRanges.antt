-- Where the two halves stand, and in one of them the room of copies.
use Rattle.std.proofs.Common.{◌≡◌, ℕ, zero, suc, ◌+◌, ◌*◌, ◌<◌, ◌≤◌, ◌⊎◌, inl, inr, Contains, ◌∙◌, subst, ap, arith}
use Rattle.page_space.specs.declared.region.Region.TheVariants.{Segment}
use Rattle.page_space.specs.Extents.{Space, Extent, extents, IsRegion, words_in, half_of}
use Rattle.page_space.specs.Extents.{segments_start, half_segments, roots_start}
use Rattle.page_space.proofs.Starts.{roots_start_is}
use Rattle.page_space.proofs.Standing.{start_of, length_of, extent_of, to_eden, to_half, words_in-to_eden}
use Rattle.page_space.proofs.Standing.{words_in-to_half}
use Rattle.page_space.proofs.Stretches.{stands_first, stands_then, stands_each}
use Rattle.page_space.proofs.Placed.{placed}
use Rattle.heap_model.specs.Heaps.{cell_extents}
use Rattle.heap_model.specs.Collectable.{IsInHalf}
use Rattle.heap_model.proofs.CellsApart.{cell_extent_stands}
use Rattle.scavenger.specs.Starts.{room_start, segment_from}
use Rattle.scavenger.specs.Filling.{IsSegmentStart}
use Rattle.scavenger.specs.Following.{half_start, half_end}

-- the halves lie between eden and the roots, apart from one another, and the room is the last segment of its half
pub record AreHalves (space : Space) (half left : ℕ) : Type 0 where
  pub room_from : half_start space half ≤ room_start space half
  pub room_to : room_start space half + space.sizes.young ≡ half_end space half
  pub from : segments_start space ≤ half_start space half
  pub left_from : segments_start space ≤ half_start space left
  pub to : half_end space half ≤ roots_start space
  pub left_to : half_end space left ≤ roots_start space
  pub apart : (half_end space half ≤ half_start space left) ⊎ (half_end space left ≤ half_start space half)

-- so it is of either half
pub are_halves : (space : Space) (half left : ℕ) → half + left ≡ 1 → AreHalves space half left
are_halves space zero zero one = absurd (omega arith)
are_halves space zero (suc zero) one = record {
  room_from = omega arith;
  room_to = omega arith;
  from = omega arith;
  left_from = omega arith;
  to = omega (arith, roots_start_is space);
  left_to = omega (arith, roots_start_is space);
  apart = inl (omega arith);
}
are_halves space (suc zero) zero one = record {
  room_from = omega arith;
  room_to = omega arith;
  from = omega arith;
  left_from = omega arith;
  to = omega (arith, roots_start_is space);
  left_to = omega (arith, roots_start_is space);
  apart = inr (omega arith);
}
are_halves space zero (suc (suc left)) one = absurd (omega arith)
are_halves space (suc half) (suc left) one = absurd (omega arith)
are_halves space (suc (suc half)) left one = absurd (omega arith)

-- a segment of a half lies in it
pub record IsWithinHalf (space : Space) (half start words : ℕ) : Type 0 where
  pub long : words ≡ space.sizes.young
  pub from : half_start space half ≤ start
  pub to : start + space.sizes.young ≤ half_end space half

-- as its number says
within_half : (space : Space) (half worker start words : ℕ) → IsRegion space (Segment half worker)
    → start ≡ start_of space (Segment half worker) → words ≡ length_of space (Segment half worker)
    → IsWithinHalf space half start words
within_half space half worker start words is starts long =
    let more : space.sizes.young * (worker + 1) ≤ space.sizes.young * half_segments space = grind arith in
    record {
      long = long;
      from = omega (arith, starts);
      to = omega (arith, starts, more);
    }

-- each segment lies in its half
pub segment_within : (space : Space) (extent : Extent) (half worker : ℕ) → Contains (extents space) extent
    → extent.region ≡ Segment half worker → IsWithinHalf space half extent.start extent.words
segment_within space extent half worker stands is =
    let place = placed space extent stands in
    within_half space half worker extent.start extent.words (subst (IsRegion space) is place.is_region)
    (ap (λ (one : Extent). one.start) place.place ∙ ap (start_of space) is)
    (ap (λ (one : Extent). one.words) place.place ∙ ap (length_of space) is)

-- so does its first address
pub start_within : (space : Space) (half at : ℕ) → IsSegmentStart space half at
    → (half_start space half ≤ at) × (at + space.sizes.young ≤ half_end space half)
start_within space half at found =
    let starts = found.1 in
    let within = segment_within space starts.extent half found.0 starts.stands starts.of_region in
    (omega (arith, within.from, starts.starts), omega (arith, within.to, starts.starts))

-- an address in a half lies between its ends
pub half_holds : (space : Space) (half at : ℕ) → IsInHalf space half at
    → (half_start space half ≤ at) × (at < half_end space half)
half_holds space half at inside =
    let stands = cell_extent_stands space inside.extent inside.among in
    let within = segment_within space inside.extent half inside.worker stands inside.segment in
    (omega (arith, within.from, inside.holds.from), omega (arith, within.to, within.long, inside.holds.below))

-- the region of a worker's segment of a half
abbrev pub segment_extent : Space → ℕ → ℕ → Extent
segment_extent space half worker = extent_of space (Segment half worker)

-- it begins where the segment does
pub segment_starts : (space : Space) (half worker : ℕ)
    → (segment_extent space half worker).start ≡ segment_from space half worker
segment_starts space half worker = grind arith

-- it is a region of cells
pub segment_among : (space : Space) (half worker : ℕ) → half ≤ 1 → worker < half_segments space
    → Contains (cell_extents space) (segment_extent space half worker)
segment_among space zero worker two known =
    stands_first 0 (to_half space) (half_of space 1) (segment_extent space 0 worker)
    (stands_then 0 (to_eden space) (half_of space 0) (segment_extent space 0 worker)
    (stands_each (λ n. Segment 0 n) space.sizes.young (space.sizes.helpers + 1) (0 + words_in (to_eden space))
    worker (start_of space (Segment 0 worker)) (omega (arith, known)) (omega (arith, words_in-to_eden space))))
segment_among space (suc zero) worker two known =
    stands_then 0 (to_half space) (half_of space 1) (segment_extent space 1 worker)
    (stands_each (λ n. Segment 1 n) space.sizes.young (space.sizes.helpers + 1) (0 + words_in (to_half space))
    worker (start_of space (Segment 1 worker)) (omega (arith, known)) (omega (arith, words_in-to_half space)))
segment_among space (suc (suc half)) worker two known = absurd (omega (arith, two))
