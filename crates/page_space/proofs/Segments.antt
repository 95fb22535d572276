-- Segments by their numbers, counted through both halves.
use Rattle.std.proofs.Common.{◌≡◌, ℕ, ◌+◌, ◌-◌, ◌*◌, ◌/◌, ◌%◌, ◌<◌, ◌≤◌, subst, arith}
use Rattle.std.proofs.Math.Nat.{mul-div-le, lt-div-mul-add, div-lt_iff_lt-mul}
use Rattle.page_space.specs.declared.region.Region.TheVariants.{Segment}
use Rattle.page_space.specs.Extents.{Space, half_segments, segments_start, roots_start, IsRegion, IsNumberOf}
use Rattle.page_space.proofs.Starts.{roots_start_is}
use Rattle.page_space.proofs.Standing.{start_of}

-- so many words before a segment are those of whole halves and those of the segments before it in its half
parted : (each young number : ℕ) → 0 < each →
    (number / each) * (each * young) + young * (number % each) ≡ young * number
parted each young number some =
    let parts : each * (number / each) + number % each ≡ number = omega arith in
    let P : ℕ → Type 0 = λ n. (number / each) * (each * young) + young * (number % each) ≡ young * n in
    subst P parts (omega arith)

-- the segment of a number that both halves have is one of the heap's
pub segment_is : (space : Space) (number : ℕ) → number < 2 * half_segments space →
    IsRegion space (Segment (number / half_segments space) (number % half_segments space))
segment_is space number below =
    ((div-lt_iff_lt-mul {k = half_segments space} {x = number} {y = 2} (omega arith)).1 below, omega arith)

-- and begins behind those before it
pub start_of-segment : (space : Space) (number : ℕ) →
    start_of space (Segment (number / half_segments space) (number % half_segments space))
    ≡ segments_start space + space.sizes.young * number
start_of-segment space number =
    omega (arith, parted (half_segments space) space.sizes.young number (omega arith))

-- it is found by a division
pub number_of : (space : Space) (a : ℕ) → 0 < space.sizes.young → segments_start space ≤ a → a < roots_start space →
    IsNumberOf space a ((a - segments_start space) / space.sizes.young)
number_of space a some from below =
    let young = space.sizes.young in
    let inside = a - segments_start space in
    let all : inside < 2 * half_segments space * young = omega (arith, roots_start_is space) in
    record {
      among = (div-lt_iff_lt-mul {k = young} {x = inside} {y = 2 * half_segments space} some).1 all;
      from = omega (arith, mul-div-le inside young);
      below = omega (arith, lt-div-mul-add {a = inside} {b = young} some);
    }
