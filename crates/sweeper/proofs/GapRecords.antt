-- Recorded is of pages what was, but in the gaps: where the words of a gap more were wiped.
use Rattle.std.proofs.Common.{◌≡◌, ℕ, ◌≤◌, ◌<◌, ◌⊎◌, ◌↔◌, inl, inr, List, [], ◌∷◌, Contains, refl, ◌∙◌, subst, arith}
use Rattle.std.proofs.lemmas.Bool.{cases_lt}
use Rattle.remembered_set.specs.Recorded.{Recorded}
use Rattle.heap_model.specs.Changes.{Patch, IsPatched}
use Rattle.heap_model.specs.Remembered.{Touch, Records, IsRecordedBy}
use Rattle.write_barrier.specs.Recording.{touched}
use Rattle.write_barrier.proofs.TouchedRanges.{touched_inside, touched_outside}
use Rattle.sweeper.specs.Sweeping.{AreForgotten, IsInGap}
use Rattle.sweeper.proofs.Gaps.{in_no_gap, in_more, in_first, gap_cases}

-- where there is no gap all is recorded that was
pub none_forgotten : (recorded : Recorded) → AreForgotten [] recorded recorded
none_forgotten recorded = record {
  bound = refl;
  each = λ at below. (λ there. (there, in_no_gap at), λ both. both.0);
  beyond = λ at past there. there;
}

module _ {gaps : List Patch} {first old new : Recorded} {words now : List ℕ} (gap : Patch)
    (forgotten : AreForgotten gaps first old) (bound : new.bound ≡ old.bound)
    (records : Records old.bound words now old.slots new.slots (touched Touch.Wiped gap.from gap.to)) where
  -- how an address was touched
  abbrev touch : ℕ → Touch
  touch at = touched Touch.Wiped gap.from gap.to at

  -- what is recorded of it then
  abbrev Is : ℕ → Touch → Type 0
  Is at how = IsRecordedBy old.bound words now old.slots new.slots at how

  -- an address of the gap is recorded no more
  wiped : (at : ℕ) → at < old.bound → IsPatched at gap → Contains new.slots at → ⊥
  wiped at below inside =
      let is : Is at Touch.Wiped =
      subst (Is at) (touched_inside Touch.Wiped gap.from gap.to at inside.from inside.below) (records.each at below) in
      is

  -- an address beside it is recorded exactly where it was
  kept : (at : ℕ) → at < old.bound → (at < gap.from) ⊎ (gap.to ≤ at) → Contains new.slots at ↔ Contains old.slots at
  kept at below beside =
      let is : Is at Touch.Kept =
      subst (Is at) (touched_outside Touch.Wiped gap.from gap.to at beside) (records.each at below) in
      is.1

  -- an address that is not in the gap is beside it
  beside_gap : (at : ℕ) → (IsPatched at gap → ⊥) → (at < gap.from) ⊎ (gap.to ≤ at)
  beside_gap at outside = elim (cases_lt at gap.from) [
    | inl before ↦ inl before
    | inr above ↦ elim (cases_lt at gap.to) [
      | inl below ↦ absurd (outside (record { from = above; below = below }))
      | inr behind ↦ inr behind
    ]
  ]

  -- what is recorded was, and is in no gap
  recorded_was : (at : ℕ) → at < first.bound → Contains new.slots at
      → Contains first.slots at × (IsInGap (gap ∷ gaps) at → ⊥)
  recorded_was at below there =
      let within : at < old.bound = omega (arith, below, forgotten.bound) in
      let outside : IsPatched at gap → ⊥ = λ inside. wiped at within inside there in
      let was = (forgotten.each at below).0 ((kept at within (beside_gap at outside)).0 there) in (
        was.0,
        λ inside. elim (gap_cases gap gaps inside) [ inl here ↦ outside here | inr later ↦ was.1 later ],
      )

  -- and what was recorded and is in no gap is
  recorded_stays : (at : ℕ) → at < first.bound → Contains first.slots at → (IsInGap (gap ∷ gaps) at → ⊥)
      → Contains new.slots at
  recorded_stays at below was outside =
      let within : at < old.bound = omega (arith, below, forgotten.bound) in
      (kept at within (beside_gap at (λ here. outside (in_first gap gaps here)))).1
      ((forgotten.each at below).1 (was, λ inside. outside (in_more gap inside)))

  -- so it is what was, but in one gap more
  pub forgotten_with_gap : AreForgotten (gap ∷ gaps) first new
  forgotten_with_gap = record {
    bound = bound ∙ forgotten.bound;
    each = λ at below. (recorded_was at below, λ both. recorded_stays at below both.0 both.1);
    beyond = λ at past there.
        forgotten.beyond at past (records.beyond at (omega (arith, past, forgotten.bound)) there);
  }
