-- First words of segments that are made 0, one after another.
use Rattle.std.proofs.Common.{◌≡◌, ◌≢◌, ℕ, ◌+◌, ◌<◌, inl, inr, List, length, slice_get, Some}
use Rattle.std.proofs.Common.{sym, ◌∙◌, ap, subst, arith, length-set, below_more}
use Rattle.std.specs.Prelude.{slice_set}
use Rattle.object_graph.proofs.Lists.{slice_get-set_same, slice_get-set_other}
use Rattle.page_space.specs.declared.region.Region.TheVariants.{Segment}
use Rattle.page_space.specs.Extents.{Space, StartsAt}
use Rattle.scav_copy.proofs.Redirecting.{equal_or_not}
use Rattle.scavenger.specs.Filling.{IsSegmentStart, IsEmptied}
use Rattle.scavenger.specs.Walking.{EndsCopies, EmptiesSegments}
use Rattle.scavenger.proofs.CodeSegments.{one_start, begins_region}

-- the first words of a half's segments below one are 0, words that were 0 are, and no other word has changed
pub record EmptiesBelow (space : Space) (half count : ℕ) (old new : List ℕ) : Type 0 where
  pub length_same : length new ≡ length old
  pub zeros : (at : ℕ) → slice_get old at ≡ Some 0 → slice_get new at ≡ Some 0
  pub starts : (worker : ℕ) → worker < count → (at : ℕ) → StartsAt space (Segment half worker) at
      → slice_get new at ≡ Some 0
  pub others : (at : ℕ) → (IsSegmentStart space half at → ⊥) → slice_get new at ≡ slice_get old at

-- a word that is 0 stays so where a 0 is put
still_zero : (words : List ℕ) (put at : ℕ) → put < length words → slice_get words at ≡ Some 0
    → slice_get (slice_set words put 0) at ≡ Some 0
still_zero words put at within zero = elim (equal_or_not at put) [
  | inl same ↦
      subst (λ (one : ℕ). slice_get (slice_set words put 0) one ≡ Some 0) (sym same)
      (slice_get-set_same words put 0 within)
  | inr apart ↦ slice_get-set_other words put at 0 apart ∙ zero
]

-- one more is emptied
pub empties_more : (space : Space) (half worker put : ℕ) (old mid new : List ℕ)
    → EmptiesBelow space half worker old mid → StartsAt space (Segment half worker) put → put < length mid
    → new ≡ slice_set mid put 0 → EmptiesBelow space half (worker + 1) old new
empties_more space half worker put old mid new before starts within is = record {
  length_same = ap length is ∙ length-set mid put 0 ∙ before.length_same;
  zeros = λ at zero.
      ap (λ (words : List ℕ). slice_get words at) is ∙ still_zero mid put at within (before.zeros at zero);
  starts = below_more
      (λ (other : ℕ). (at : ℕ) → StartsAt space (Segment half other) at → slice_get new at ≡ Some 0) worker
      (λ other below at of_other.
      ap (λ (words : List ℕ). slice_get words at) is
      ∙ still_zero mid put at within (before.starts other below at of_other))
      (λ at of_this.
      ap (λ (words : List ℕ). slice_get words at) is
      ∙ ap (λ (one : ℕ). slice_get (slice_set mid put 0) one)
      (one_start space (Segment half worker) at put of_this starts)
      ∙ slice_get-set_same mid put 0 within);
  others = λ at none.
      let apart : at ≢ put = λ same.
      none (worker, subst (StartsAt space (Segment half worker)) (sym same) starts) in
      ap (λ (words : List ℕ). slice_get words at) is
      ∙ slice_get-set_other mid put at 0 apart
      ∙ before.others at none;
}

-- and all are once none is left
pub empties_all : (space : Space) (half count : ℕ) (old new : List ℕ) → EmptiesBelow space half count old new
    → space.sizes.helpers < count → EmptiesSegments space half old new
empties_all space half count old new empties all = record {
  count = empties.length_same;
  zeros = empties.zeros;
  starts = λ at start.
      let region = begins_region space (Segment half start.0) at start.1 in
      empties.starts start.0 (omega (arith, region.1, all)) at start.1;
  others = empties.others;
}

-- a word behind the copies and then the segments are emptied
pub emptied_all : (space : Space) (half fill end : ℕ) (old mid new : List ℕ) → EndsCopies old mid fill end
    → EmptiesSegments space half mid new → IsEmptied space half fill end old new
emptied_all space half fill end old mid new ends empties = record {
  count = empties.count ∙ ends.count;
  behind = λ more. empties.zeros fill (ends.behind more);
  starts = empties.starts;
  others = λ at not_fill not_start. empties.others at not_start ∙ ends.others at not_fill;
}
