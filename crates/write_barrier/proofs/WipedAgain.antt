-- A range that was wiped is so where words of it are put that are no slots.
use Rattle.std.proofs.Common.{◌≡◌, ℕ, ◌+◌, ◌<◌, ◌≤◌, inl, inr, sym, ◌∙◌, ap, subst, arith}
use Rattle.std.proofs.lemmas.Bool.{cases_lt}
use Rattle.page_space.specs.Extents.{marks_start}
use Rattle.remembered_set.specs.Recorded.{Recorded}
use Rattle.heap_model.specs.Remembered.{Touch}
use Rattle.write_barrier.specs.MutatorState.{Mutator, with_word}
use Rattle.write_barrier.specs.Recording.{Touches, touched, touched_again, touched_then}
use Rattle.write_barrier.proofs.JudgedSlots.{wiped_behind}
use Rattle.write_barrier.proofs.Recording.{forget_touch, then_touch, touch_alike, word_touch}
use Rattle.write_barrier.proofs.TouchedRanges.{touched_inside, touched_outside}

-- a range that is wiped, and then once more in part, is as one that was wiped once
wiped_part : (from to start end at : ℕ) → from ≤ start → end ≤ to
    → touched_then (touched Touch.Wiped from to) (touched Touch.Wiped start end) at ≡ touched Touch.Wiped from to at
wiped_part from to start end at low high =
    let first : Touch = touched Touch.Wiped from to at in
    elim (cases_lt at start) [
      | inl before ↦ ap (touched_again first) (touched_outside Touch.Wiped start end at (inl before))
      | inr begins ↦ elim (cases_lt at end) [
        | inl ends ↦
            ap (touched_again first) (touched_inside Touch.Wiped start end at begins ends)
            ∙ sym (touched_inside Touch.Wiped from to at (omega (arith, low, begins)) (omega (arith, ends, high)))
        | inr behind ↦ ap (touched_again first) (touched_outside Touch.Wiped start end at (inr behind))
      ]
    ]

-- so what was wiped, and then in it once more, was wiped
pub wiped_in : {old mid new : Mutator} (from to start end : ℕ) → from ≤ start → end ≤ to
    → Touches old mid (touched Touch.Wiped from to) → Touches mid new (touched Touch.Wiped start end)
    → Touches old new (touched Touch.Wiped from to)
wiped_in from to start end low high one next =
    touch_alike (λ at below. wiped_part from to start end at low high) (then_touch one next)

-- and what was wiped, and in which a word was put that is no slot's
pub word_in : {old mid new : Mutator} (from to at word : ℕ) → from ≤ at → at < to → to ≤ marks_start mid.seat.space
    → new ≡ with_word mid at word → Touches old mid (touched Touch.Wiped from to)
    → Touches old new (touched Touch.Wiped from to)
word_in {mid = mid} from to at word low high before is one =
    wiped_in from to at (at + 1) low (omega (arith, high)) one
    (subst (λ (main : Mutator). Touches mid main (touched Touch.Wiped at (at + 1))) (sym is)
    (word_touch mid at word (omega (arith, high, before))))

-- behind all pages nothing is recorded: a range there is wiped as it stands
pub wiped_young : (main : Mutator) (from to : ℕ) → main.recorded.bound ≤ from
    → Touches main main (touched Touch.Wiped from to)
wiped_young main from to behind =
    subst (λ (one : Mutator). Touches main one (touched Touch.Wiped from to))
    (ap (λ (recorded : Recorded). record main { recorded = recorded }) (wiped_behind main.recorded from to behind))
    (forget_touch main from to)
