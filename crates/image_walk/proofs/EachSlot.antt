-- What is said of each word of lists that are joined, and of each address of a stretch.
use Rattle.std.proofs.Common.{◌≡◌, ℕ, ◌+◌, ◌-◌, ◌≤◌, ◌<◌, inl, inr, List, ◌++◌, length, sym}
use Rattle.std.proofs.Common.{◌∙◌, subst, arith}
use Rattle.std.proofs.lemmas.Bool.{cases_lt}
use Rattle.std.proofs.lemmas.Option.{slice_get_within}
use Rattle.heap_model.proofs.CellWords.{slice_get-append_left, slice_get-append_right}
use Rattle.image_walk.specs.Spans.{EachWord}

-- what holds from an address on up to another, and there, holds up to the next
pub each_more : (P : ℕ → Type 0) (from at : ℕ) → ((k : ℕ) → from ≤ k → k < at → P k) → P at
    → (k : ℕ) → from ≤ k → k < at + 1 → P k
each_more P from at before here k behind below = elim (cases_lt k at) [
  | inl early ↦ before k behind early
  | inr late ↦ let same : at ≡ k = omega arith in subst P same here
]

-- what holds of each word of one list, and of each of another behind its places, holds of each of both
pub each_of_both : (own beside : List ℕ) (first : ℕ) (P : ℕ → ℕ → Type 0) → first ≡ length own
    → EachWord own (λ at word. P (0 + at) word) → EachWord beside (λ at word. P (first + at) word)
    → EachWord (own ++ beside) P
each_of_both own beside first P long left right at word there = elim (cases_lt at (length own)) [
  | inl early ↦
      let same : 0 + at ≡ at = omega arith in
      subst (λ k. P k word) same (left at word (sym (slice_get-append_left own beside at early) ∙ there))
  | inr late ↦
      let k : ℕ = at - length own in
      let same : first + k ≡ at = omega arith in
      subst (λ n. P n word) same (right k word (sym (slice_get-append_right own beside k at (omega arith)) ∙ there))
]

-- what holds of each of both holds of each of the first
pub each_of_first : (own beside : List ℕ) (P : ℕ → ℕ → Type 0) → EachWord (own ++ beside) P
    → EachWord own (λ at word. P (0 + at) word)
each_of_first own beside P each at word there =
    let same : at ≡ 0 + at = omega arith in
    subst (λ k. P k word) same
    (each at word (slice_get-append_left own beside at (slice_get_within own at word there) ∙ there))

-- and of the second
pub each_of_second : (own beside : List ℕ) (first : ℕ) (P : ℕ → ℕ → Type 0) → first ≡ length own
    → EachWord (own ++ beside) P → EachWord beside (λ at word. P (first + at) word)
each_of_second own beside first P long each at word there =
    each (first + at) word (slice_get-append_right own beside at (first + at) (omega arith) ∙ there)
