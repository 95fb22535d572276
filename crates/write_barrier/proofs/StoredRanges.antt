-- How records are touched where words of a range are judged one after another, and where holes are put.
use Rattle.std.proofs.Common.{◌≡◌, ℕ, ◌+◌, ◌<◌, ◌≤◌, ◌⊎◌, inl, inr, List, Contains, Some, slice_get, refl}
use Rattle.std.proofs.Common.{sym, ◌∙◌, ap, subst, arith}
use Rattle.std.proofs.lemmas.Bool.{cases_lt}
use Rattle.std.proofs.lemmas.Option.{none-some, same_Some}
use Rattle.tagged_word.specs.Readings.{reference_in}
use Rattle.write_barrier.specs.Seats.{heap_words}
use Rattle.heap_model.specs.Slots.{hole_word}
use Rattle.heap_model.specs.Remembered.{Touch, IsRecordedBy, RefersToYoung}
use Rattle.write_barrier.specs.MutatorState.{Mutator, judged}
use Rattle.write_barrier.specs.Recording.{Touches, touched, touched_one, touched_again, touched_then}
use Rattle.write_barrier.proofs.Recording.{no_touch, judged_touch, then_touch}
use Rattle.write_barrier.proofs.Recording.{touch_alike}
use Rattle.write_barrier.proofs.TouchedRanges.{touched_inside, touched_outside}

-- no address is of a range that ends where it begins
touched_nowhere : (how : Touch) (from at : ℕ) → touched how from from at ≡ Touch.Kept
touched_nowhere how from at = elim (cases_lt at from) [
  | inl before ↦ touched_outside how from from at (inl before)
  | inr behind ↦ touched_outside how from from at (inr behind)
]

-- so nothing was stored there
pub stored_nowhere : (main : Mutator) (from : ℕ) → Touches main main (touched Touch.Stored from from)
stored_nowhere main from = touch_alike (λ at below. sym (touched_nowhere Touch.Stored from at)) (no_touch main)

-- a range that ends later has the same addresses before where the shorter one ends
stored_before : (from between to at : ℕ) → between ≤ to → at < between
    → touched Touch.Stored from between at ≡ touched Touch.Stored from to at
stored_before from between to at second before = elim (cases_lt at from) [
  | inl low ↦
      touched_outside Touch.Stored from between at (inl low)
      ∙ sym (touched_outside Touch.Stored from to at (inl low))
  | inr begins ↦
      touched_inside Touch.Stored from between at begins before
      ∙ sym (touched_inside Touch.Stored from to at begins (omega (arith, before, second)))
]

-- what was stored up to an address, and then from it on, was stored as one range
stored_joined : (from between to at : ℕ) → from ≤ between → between ≤ to
    → touched_then (touched Touch.Stored from between) (touched Touch.Stored between to) at
    ≡ touched Touch.Stored from to at
stored_joined from between to at first second =
    let one : Touch = touched Touch.Stored from between at in
    elim (cases_lt at between) [
      | inl before ↦
          ap (touched_again one) (touched_outside Touch.Stored between to at (inl before))
          ∙ stored_before from between to at second before
      | inr later ↦ elim (cases_lt at to) [
        | inl ends ↦
            ap (touched_again one) (touched_inside Touch.Stored between to at later ends)
            ∙ sym (touched_inside Touch.Stored from to at (omega (arith, first, later)) ends)
        | inr behind ↦
            ap (touched_again one) (touched_outside Touch.Stored between to at (inr behind))
            ∙ touched_outside Touch.Stored from between at (inr later)
            ∙ sym (touched_outside Touch.Stored from to at (inr behind))
      ]
    ]

-- where what is recorded has changed alone, and then once more, it has changed alone
pub judged_rest : (first old new : Mutator) → old ≡ record first { recorded = old.recorded }
    → new ≡ record old { recorded = new.recorded } → new ≡ record first { recorded = new.recorded }
judged_rest first old new before is =
    is ∙ ap (λ (main : Mutator). let later : Mutator = record main { recorded = new.recorded } in later) before

-- the word at an address of a page is judged where it stands
pub judged_here : (old new : Mutator) (at word : ℕ) → at < old.recorded.bound
    → slice_get (heap_words old.seat) at ≡ Some word → new ≡ record old { recorded = judged old.recorded at word }
    → Touches old new (touched_one Touch.Stored at)
judged_here old new at word of_page stands is =
    let later : Mutator = record old { recorded = judged old.recorded at word } in
    subst (λ (main : Mutator). Touches old main (touched_one Touch.Stored at)) (sym is)
    (judged_touch old later at word of_page refl refl stands (λ other apart. refl))

-- one word more is judged
pub stored_more : {first old new : Mutator} (from at : ℕ) → from ≤ at
    → Touches first old (touched Touch.Stored from at) → Touches old new (touched Touch.Stored at (at + 1))
    → Touches first new (touched Touch.Stored from (at + 1))
stored_more from at begins before one =
    touch_alike (λ other below. stored_joined from at (at + 1) other begins (omega arith)) (then_touch before one)

-- an address behind those that were stored is recorded only where it was
pub stored_later : {first old : Mutator} (from at : ℕ) → Touches first old (touched Touch.Stored from at)
    → (first.recorded.bound ≤ at) ⊎ (Contains first.recorded.slots at → ⊥)
    → at < old.recorded.bound → Contains old.recorded.slots at → ⊥
stored_later {first} {old} from at touches (inl behind) below there =
    absurd (omega (arith, behind, below, touches.bound))
stored_later {first} {old} from at touches (inr none) below there =
    let eden = first.recorded.bound in
    let kept = subst (IsRecordedBy eden (heap_words first.seat) (heap_words old.seat) first.recorded.slots
    old.recorded.slots at) (touched_outside Touch.Stored from at at (inr (omega arith)))
    (touches.records.each at (omega (arith, below, touches.bound))) in
    none (kept.1.0 there)

-- nothing is recorded of what was wiped
pub wiped_clear : {old new : Mutator} (from to : ℕ) → Touches old new (touched Touch.Wiped from to) → (at : ℕ)
    → from ≤ at → at < to → at < new.recorded.bound → Contains new.recorded.slots at → ⊥
wiped_clear {old} {new} from to touches at begins ends below =
    subst (IsRecordedBy old.recorded.bound (heap_words old.seat) (heap_words new.seat) old.recorded.slots
    new.recorded.slots at) (touched_inside Touch.Wiped from to at begins ends)
    (touches.records.each at (omega (arith, below, touches.bound)))

-- a hole refers to nothing
hole_alone : (eden at : ℕ) (words : List ℕ) → slice_get words at ≡ Some hole_word → RefersToYoung eden words at → ⊥
hole_alone eden at words stands refers =
    let same : hole_word ≡ refers.word = same_Some hole_word refers.word (sym stands ∙ refers.stands) in
    none-some refers.cell (ap reference_in same ∙ refers.refers)

-- behind all pages it is as if what was wiped had been stored
pub young_stored : {old new : Mutator} (from to : ℕ) → old.recorded.bound ≤ from
    → Touches old new (touched Touch.Wiped from to) → Touches old new (touched Touch.Stored from to)
young_stored from to behind touches =
    touch_alike (λ at below. touched_outside Touch.Wiped from to at (inl (omega (arith, below, behind)))
    ∙ sym (touched_outside Touch.Stored from to at (inl (omega (arith, below, behind))))) touches

-- so where holes were put that are not recorded, they were stored
pub stored_holes : {old new : Mutator} (from to : ℕ)
    → ((at : ℕ) → from ≤ at → at < to → slice_get (heap_words new.seat) at ≡ Some hole_word)
    → Touches old new (touched Touch.Wiped from to) → Touches old new (touched Touch.Stored from to)
stored_holes {old} {new} from to holes touches =
    let eden = old.recorded.bound in
    let By : ℕ → Touch → Type 0 = λ at touch. IsRecordedBy eden (heap_words old.seat) (heap_words new.seat)
    old.recorded.slots new.recorded.slots at touch in
    let kept : (at : ℕ) → at < eden → touched Touch.Wiped from to at ≡ Touch.Kept
    → touched Touch.Stored from to at ≡ Touch.Kept → By at (touched Touch.Stored from to at) =
    λ at below was is. subst (By at) (was ∙ sym is) (touches.records.each at below) in
    record {
      free = touches.free;
      bound = touches.bound;
      records = record {
        each = λ at below. elim (cases_lt at from) [
          | inl before ↦ kept at below (touched_outside Touch.Wiped from to at (inl before))
              (touched_outside Touch.Stored from to at (inl before))
          | inr begins ↦ elim (cases_lt at to) [
            | inl ends ↦
                let none : By at Touch.Wiped =
                subst (By at) (touched_inside Touch.Wiped from to at begins ends) (touches.records.each at below) in
                subst (By at) (sym (touched_inside Touch.Stored from to at begins ends)) (
                  λ there. absurd (none there),
                  λ refers. absurd (hole_alone eden at (heap_words new.seat) (holes at begins ends) refers),
                )
            | inr behind ↦ kept at below (touched_outside Touch.Wiped from to at (inr behind))
                (touched_outside Touch.Stored from to at (inr behind))
          ]
        ];
        beyond = touches.records.beyond;
      };
    }
