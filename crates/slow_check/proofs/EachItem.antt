-- What is said of each item of a list, item by item.
use Rattle.std.proofs.Common.{◌≡◌, ℕ, suc, ◌+◌, ◌<◌, inl, inr, List, [], ◌∷◌, length, Some, slice_get}
use Rattle.std.proofs.Common.{refl, sym, ◌∙◌, ap, subst, arith}
use Rattle.std.proofs.lemmas.Bool.{cases_lt}
use Rattle.std.proofs.lemmas.Option.{same_Some}

-- what holds of each item before a place, and of the one there, holds of each before the next
pub each_item_more : {A : Type 0} (xs : List A) (P : ℕ → A → Type 0) (at : ℕ) (x : A)
    → ((k : ℕ) → k < at → (y : A) → slice_get xs k ≡ Some y → P k y) → slice_get xs at ≡ Some x → P at x
    → (k : ℕ) → k < at + 1 → (y : A) → slice_get xs k ≡ Some y → P k y
each_item_more xs P at x before there here k below y is = elim (cases_lt k at) [
  | inl early ↦ before k early y is
  | inr late ↦
      let same : at ≡ k = omega (arith, late, below) in
      let one : x ≡ y = same_Some x y (sym there ∙ ap (slice_get xs) same ∙ is) in
      subst (λ n. P n y) same (subst (P at) one here)
]

-- two lists of one length that have the same item at each place are one
pub same_items : {A : Type 0} (xs ys : List A) → length xs ≡ length ys
    → ((k : ℕ) → k < length xs → slice_get xs k ≡ slice_get ys k) → xs ≡ ys
same_items [] [] long each = refl
same_items [] (y ∷ ys) long each = absurd (omega (arith, long))
same_items (x ∷ xs) [] long each = absurd (omega (arith, long))
same_items (x ∷ xs) (y ∷ ys) long each =
    let first : x ≡ y = same_Some x y (each 0 (omega arith)) in
    let rest : xs ≡ ys = same_items xs ys (omega (arith, long)) (λ k below. each (suc k) (omega (arith, below))) in
    ap (λ one. one ∷ xs) first ∙ ap (λ all. y ∷ all) rest
