-- How records are touched where stretches of words are wiped one behind the other.
use Rattle.std.proofs.Common.{◌≡◌, ℕ, ◌+◌, ◌<◌, ◌≤◌, ◌⊎◌, inl, inr, sym, ◌∙◌, ap, subst, arith}
use Rattle.std.proofs.lemmas.Bool.{cases_lt}
use Rattle.page_space.specs.Extents.{marks_start}
use Rattle.heap_model.specs.Remembered.{Touch}
use Rattle.write_barrier.specs.MutatorState.{Mutator, with_word}
use Rattle.write_barrier.specs.Recording.{Touches, touched, touched_again, touched_one, touched_then}
use Rattle.write_barrier.proofs.Recording.{then_touch, touch_alike, word_touch}
use Rattle.write_barrier.proofs.TouchedRanges.{touched_inside, touched_outside}

-- an address is beside a range, or one of its own
beside_or_in : (from to at : ℕ) → ((at < from) ⊎ (to ≤ at)) ⊎ ((from ≤ at) × (at < to))
beside_or_in from to at = elim (cases_lt at from) [
  | inl before ↦ inl (inl before)
  | inr begins ↦ elim (cases_lt at to) [
    | inl ends ↦ inr (begins, ends)
    | inr behind ↦ inl (inr behind)
  ]
]

-- Two ranges were wiped, both of one range, and each address of this is of one of them: so it was wiped.
wiped_twice : (a b c d from to at : ℕ) → from ≤ a → b ≤ to → from ≤ c → d ≤ to
    → (from ≤ at → at < to → (at < c) ⊎ (d ≤ at) → (a ≤ at) × (at < b))
    → touched_then (touched Touch.Wiped a b) (touched Touch.Wiped c d) at ≡ touched Touch.Wiped from to at
wiped_twice a b c d from to at a_from b_to c_from d_to cover = elim (beside_or_in c d at) [
  | inr last ↦
      ap (touched_again (touched Touch.Wiped a b at)) (touched_inside Touch.Wiped c d at last.0 last.1)
      ∙ sym (touched_inside Touch.Wiped from to at (omega (arith, c_from, last.0))
      (omega (arith, d_to, last.1)))
  | inl out ↦
      ap (touched_again (touched Touch.Wiped a b at)) (touched_outside Touch.Wiped c d at out)
      ∙ elim (beside_or_in from to at) [
        | inr inside ↦
            let first = cover inside.0 inside.1 out in
            touched_inside Touch.Wiped a b at first.0 first.1
            ∙ sym (touched_inside Touch.Wiped from to at inside.0 inside.1)
        | inl beyond ↦
            let outside : (at < a) ⊎ (b ≤ at) = elim beyond [
              | inl before ↦ inl (omega (arith, before, a_from))
              | inr behind ↦ inr (omega (arith, behind, b_to))
            ] in
            touched_outside Touch.Wiped a b at outside ∙ sym (touched_outside Touch.Wiped from to at beyond)
      ]
]

-- what was wiped, and then from its end on, was wiped as one
pub wiped_on : {old mid new : Mutator} (from between to : ℕ) → from ≤ between → between ≤ to
    → Touches old mid (touched Touch.Wiped from between) → Touches mid new (touched Touch.Wiped between to)
    → Touches old new (touched Touch.Wiped from to)
wiped_on from between to first second one next =
    touch_alike
    (λ at below. wiped_twice from between between to from to at (omega arith) second first (omega arith)
    (λ begins ends out. elim out [
      | inl before ↦ (begins, before)
      | inr behind ↦ absurd (omega (arith, ends, behind))
    ]))
    (then_touch one next)

-- two words that are put one behind the other, and are no slots, are wiped
pub two_wiped : {old one new : Mutator} (at first second : ℕ) → one ≡ with_word old at first
    → new ≡ with_word one (at + 1) second → at + 1 < marks_start old.seat.space
    → Touches old new (touched Touch.Wiped at (at + 2))
two_wiped {old} {one} {new} at first second is next within =
    let marks = ap (λ (main : Mutator). marks_start main.seat.space) is in
    let there : Touches old one (touched Touch.Wiped at (at + 1)) =
    subst (λ (main : Mutator). Touches old main (touched_one Touch.Wiped at)) (sym is)
    (word_touch old at first (omega (arith, within))) in
    let behind : Touches one new (touched Touch.Wiped (at + 1) (at + 1 + 1)) =
    subst (λ (main : Mutator). Touches one main (touched_one Touch.Wiped (at + 1))) (sym next)
    (word_touch one (at + 1) second (omega (arith, within, marks))) in
    wiped_on at (at + 1) (at + 2) (omega arith) (omega arith) there
    (touch_alike (λ a below. ap (λ end. touched Touch.Wiped (at + 1) end a) (omega arith)) behind)
