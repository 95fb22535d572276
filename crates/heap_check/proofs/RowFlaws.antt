-- Flaws of what is blank behind rows, and of the survivors.
use Rattle.std.proofs.Common.{◌≡◌, ◌≢◌, ℕ, ◌+◌, ◌-◌, ◌≤◌, ◌<◌, inl, inr, List, Some, slice_get, refl, sym, ◌∙◌, arith}
use Rattle.std.proofs.lemmas.Option.{same_Some}
use Rattle.std.proofs.lemmas.Bool.{cases_lt}
use Rattle.heap_model.specs.Heaps.{Heap, Row, AreRows, survivors_of}
use Rattle.heap_check.specs.RegionRows.{IsZeroBetween}
use Rattle.heap_check.specs.declared.flaw.Flaw.{Flaw}
use Rattle.heap_check.specs.Firsts.{IsFirst}
use Rattle.heap_check.specs.Frames.{beside_words, BreaksSurvivors}
use Rattle.heap_check.specs.Rows.{BreaksBlank}
use Rattle.heap_check.proofs.FirstBreaches.{breaks_there}

-- a word that is not 0 is none of those that are
pub behind_zero : {heap : Heap} {from end at found wanted : ℕ} (to : ℕ) → IsZeroBetween heap from to
    → BreaksBlank heap from end at found wanted → to ≤ at
behind_zero to zero (BreaksBlank.word at found ahead below there other) = elim (cases_lt at to) [
  | inl before ↦ absurd (other (same_Some _ _ (sym there ∙ zero at ahead before)))
  | inr behind ↦ behind
]

-- the first word that is not 0 is the flaw
pub blank_first : (heap : Heap) (from end : ℕ) (flaw : Flaw) → from ≤ flaw.at → flaw.at < end
    → slice_get heap.words flaw.at ≡ Some flaw.found → flaw.found ≢ 0 → flaw.wanted ≡ 0
    → IsZeroBetween heap from flaw.at
    → IsFirst (BreaksBlank heap from end) flaw
blank_first heap from end flaw ahead below there other wanted zero = record {
  breaks = breaks_there (BreaksBlank heap from end) (BreaksBlank.word flaw.at flaw.found ahead below there other) refl
      refl wanted;
  first = λ place found asked breaks. behind_zero flaw.at zero breaks;
}

-- what is wrong with the survivors is told behind the last word of a heap
survivors_told : {heap : Heap} {at found wanted : ℕ} → BreaksSurvivors heap at found wanted → at ≡ beside_words heap
survivors_told (BreaksSurvivors.counted rows are other) = refl
survivors_told (BreaksSurvivors.many rows are counted many) = refl

-- the flaw of another number of words
pub counted_first : (heap : Heap) (rows : List Row) (flaw : Flaw) → AreRows heap rows
    → survivors_of rows ≢ heap.survivors → flaw.at ≡ beside_words heap → flaw.found ≡ heap.survivors
    → flaw.wanted ≡ survivors_of rows → IsFirst (BreaksSurvivors heap) flaw
counted_first heap rows flaw are other at found wanted = record {
  breaks = breaks_there (BreaksSurvivors heap) (BreaksSurvivors.counted rows are other) at found wanted;
  first = λ place there asked breaks. omega (arith, at, survivors_told breaks);
}

-- the flaw of too many
pub many_first : (heap : Heap) (rows : List Row) (flaw : Flaw) → AreRows heap rows → survivors_of rows ≡ heap.survivors
    → heap.space.sizes.young < heap.survivors + heap.used → flaw.at ≡ beside_words heap
    → flaw.found ≡ heap.survivors → flaw.wanted ≡ heap.space.sizes.young - heap.used
    → IsFirst (BreaksSurvivors heap) flaw
many_first heap rows flaw are counted many at found wanted = record {
  breaks = breaks_there (BreaksSurvivors heap) (BreaksSurvivors.many rows are counted many) at found wanted;
  first = λ place there asked breaks. omega (arith, at, survivors_told breaks);
}
