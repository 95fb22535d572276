-- Copies go to the segments of one half, which are apart from what is left and from the layout words.
use Rattle.std.proofs.Common.{ℕ, zero, suc, ◌+◌, ◌<◌, ◌≤◌, ◌≡◌, ◌⊎◌, inl, inr, arith}
use Rattle.page_space.specs.Extents.{Space, eden_start, roots_start}
use Rattle.page_space.proofs.LawsHold.{kinds_by_number}
use Rattle.scavenger.specs.Starts.{room_start}
use Rattle.scavenger.specs.Following.{half_start, half_end, IsFromSpace}
use Rattle.scavenger.proofs.SegmentRooms.{segment_in_half}

-- one half lies before the other
pub halves_apart : (space : Space) (half left : ℕ) → half + left ≡ 1
    → (half_end space half ≤ half_start space left) ⊎ (half_end space left ≤ half_start space half)
halves_apart space zero zero one = absurd (omega arith)
halves_apart space zero (suc zero) one = inl (omega arith)
halves_apart space (suc zero) zero one = inr (omega arith)
halves_apart space zero (suc (suc left)) one = absurd (omega arith)
halves_apart space (suc half) (suc left) one = absurd (omega arith)
halves_apart space (suc (suc half)) left one = absurd (omega arith)

-- no address of the half that is filled is left
pub half_is_not_left : (space : Space) (half left at : ℕ) → half + left ≡ 1 → half_start space half ≤ at
    → at < half_end space half → IsFromSpace space left at → ⊥
half_is_not_left space half left at both from below (inl eden) = omega (arith, from, eden.1)
half_is_not_left space half left at both from below (inr in_half) = elim (halves_apart space half left both) [
  | inl before ↦ omega (arith, before, below, in_half.0)
  | inr behind ↦ omega (arith, behind, from, in_half.1)
]

-- what is left is not in a page
pub left_is_young : (space : Space) (left at : ℕ) → IsFromSpace space left at → eden_start space ≤ at
left_is_young space left at (inl eden) = eden.0
left_is_young space left at (inr in_half) = omega (arith, in_half.0)

-- the half ends before the roots
pub half_below_roots : (space : Space) (half : ℕ) → half ≤ 1 → half_end space half ≤ roots_start space
half_below_roots space zero few = omega (arith, (kinds_by_number space).roots)
half_below_roots space (suc zero) few = omega (arith, (kinds_by_number space).roots)
half_below_roots space (suc (suc half)) few = absurd (omega (arith, few))

-- and so does the main side's segment of it
pub room_below_roots : (space : Space) (half : ℕ) → half ≤ 1
    → room_start space half + space.sizes.young ≤ roots_start space
room_below_roots space half few =
    let within = segment_in_half space half space.sizes.helpers (omega arith) in
    omega (arith, within.1, half_below_roots space half few)
