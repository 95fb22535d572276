-- Segments whose workers ascend: each worker has one.
use Rattle.std.proofs.Common.{ℕ, zero, suc, ◌+◌, ◌≤◌, ◌≡◌, inl, inr, List, [], ◌∷◌, ◌++◌, map}
use Rattle.std.proofs.Common.{length, get_or, drop, arith, sym, ap, subst, ◌∙◌}
use Rattle.std.specs.List.{Contains, range_with_len}
use Rattle.tagged_word.proofs.Members.{in_cases}
use Rattle.scav_copy.proofs.Spots.{none_in}
use Rattle.scavenger.specs.Starts.{SegmentCopies}

-- the workers of segments ascend, from a number on
abbrev pub Climb : ℕ → List SegmentCopies → Type 0
Climb from [] = Unit {0}
Climb from (segment ∷ more) = (from ≤ segment.worker) × Climb (segment.worker + 1) more

-- so they do where they are numbers one behind another
pub climb_by : (from many end : ℕ) (segments : List SegmentCopies) → from + many ≡ end
    → map (λ segment. segment.worker) segments ≡ range_with_len from many ++ end ∷ [] → Climb from segments
climb_by from many end [] last are = tt
climb_by from zero end (segment ∷ []) last are = (omega (arith, last, ap (λ (all : List ℕ). get_or all 0 0) are), tt)
climb_by from zero end (segment ∷ (other ∷ more)) last are =
    let none : suc (suc (length (map (λ (one : SegmentCopies). one.worker) more))) ≡ 1 =
    ap (λ (all : List ℕ). length all) are in
    absurd (omega (arith, none))
climb_by from (suc many) end (segment ∷ more) last are =
    let first : segment.worker ≡ from = ap (λ (all : List ℕ). get_or all 0 0) are in
    let rest : map (λ (one : SegmentCopies). one.worker) more ≡ range_with_len (from + 1) many ++ end ∷ [] =
    ap (λ (all : List ℕ). drop 1 all) are in (
      omega (arith, first),
      subst (λ (n : ℕ). Climb (n + 1) more) (sym first) (climb_by (from + 1) many end more (omega (arith, last)) rest),
    )

-- each worker is behind where they begin
pub climbs_from : (from : ℕ) (segments : List SegmentCopies) (one : SegmentCopies) → Climb from segments
    → Contains segments one → from ≤ one.worker
climbs_from from [] one climb there = absurd (none_in one there)
climbs_from from (segment ∷ more) one climb there =
    elim (in_cases segment more one there) [
      | inl same ↦ omega (arith, climb.0, ap (λ (s : SegmentCopies). s.worker) same)
      | inr later ↦ omega (arith, climb.0, climbs_from (segment.worker + 1) more one climb.1 later)
    ]

-- each stands once
pub one_place : (from : ℕ) (segments : List SegmentCopies) (one other : SegmentCopies) → Climb from segments
    → Contains segments one → Contains segments other → one.worker ≡ other.worker → one ≡ other
one_place from [] one other climb there also same = absurd (none_in one there)
one_place from (segment ∷ more) one other climb there also same =
    elim (in_cases segment more one there) [
      | inl first ↦ elim (in_cases segment more other also) [
        | inl second ↦ sym first ∙ second
        | inr later ↦
            absurd (omega (
              arith,
              climbs_from (segment.worker + 1) more other climb.1 later,
              same,
              ap (λ (s : SegmentCopies). s.worker) first,
            ))
      ]
      | inr one_later ↦ elim (in_cases segment more other also) [
        | inl second ↦
            absurd (omega (
              arith,
              climbs_from (segment.worker + 1) more one climb.1 one_later,
              same,
              ap (λ (s : SegmentCopies). s.worker) second,
            ))
        | inr other_later ↦ one_place (segment.worker + 1) more one other climb.1 one_later other_later same
      ]
    ]
