-- A list is no longer than a number, where each element has a number below that, and no two have the same.
use Rattle.std.proofs.Common.{◌≡◌, ◌≢◌, ℕ, suc, ◌<◌, ◌≤◌, List, [], ◌∷◌, length, Contains, sym, ap, subst, arith}
use Rattle.std.proofs.Common.{◌∙◌, refl, inl, inr}
use Rattle.std.specs.List.{AllPairs}
use Rattle.std.proofs.lemmas.Bool.{eqb-true}
use Rattle.std.proofs.lemmas.Bool.Decides.{Decides-eqb}
use Rattle.std.proofs.lemmas.List.{get_or_default}
use Rattle.std.proofs.lemmas.List.Kept.{AllPairs-cons}
use Rattle.std.proofs.lemmas.Map.Made.{IsDistinct-from_AllPairs}
use Rattle.std.proofs.lemmas.Map.Steps.{length-le_from_distinct_below}
use Rattle.std.proofs.lemmas.Map.Views.{Contains-from_any}
use Rattle.tagged_word.proofs.Members.{first_in, rest_in, in_cases}

module _ {A : Type 0} (R : A → ℕ → Type 0) (n : ℕ) where
  -- each element of the list has a number
  abbrev pub AreNumbered : List A → Type 0
  AreNumbered xs = (x : A) → Contains xs x → (j : ℕ) × (j < n) × R x j

  -- no two elements have the same number
  abbrev pub AreApart : List A → Type 0
  AreApart xs = AllPairs (λ x y. (j : ℕ) → R x j → R y j → ⊥) xs

  -- the numbers of all
  numbers : (xs : List A) → AreNumbered xs → List ℕ
  numbers [] each = []
  numbers (x ∷ xs) each = (each x (first_in x xs)).0 ∷ numbers xs (λ y there. each y (rest_in x xs y there))

  -- there are as many numbers
  numbers_long : (xs : List A) (each : AreNumbered xs) → length (numbers xs each) ≡ length xs
  unfolding numbers
  numbers_long [] each = refl
  numbers_long (x ∷ xs) each = ap (λ k. suc k) (numbers_long xs (λ y there. each y (rest_in x xs y there)))

  -- each of them is the number of an element
  number_of : (xs : List A) (each : AreNumbered xs) (j : ℕ) → Contains (numbers xs each) j
      → (x : A) × Contains xs x × (j < n) × R x j
  unfolding numbers
  number_of [] each j there = absurd (omega (arith, there.1))
  number_of (x ∷ xs) each j there =
      let one = each x (first_in x xs) in
      let rest : AreNumbered xs = λ y there. each y (rest_in x xs y there) in
      elim (in_cases one.0 (numbers xs rest) j there) [
        | inl same ↦ (x, first_in x xs, subst (λ k. k < n) same one.1, subst (R x) same one.2)
        | inr later ↦
            let found = number_of xs rest j later in
            (found.0, rest_in x xs found.0 found.1, found.2, found.3)
      ]

  -- no two of them are the same
  numbers_differ : (xs : List A) (each : AreNumbered xs) → AreApart xs → AllPairs (λ j k. j ≢ k) (numbers xs each)
  unfolding numbers
  numbers_differ [] each apart = λ i k d less within. absurd (omega (arith, within))
  numbers_differ (x ∷ xs) each apart =
      let one = each x (first_in x xs) in
      let rest : AreNumbered xs = λ y there. each y (rest_in x xs y there) in
      AllPairs-cons (λ j k. j ≢ k) one.0 (numbers xs rest)
      (λ k d within same.
      let found = number_of xs rest one.0 (k, within, get_or_default (numbers xs rest) k one.0 d within ∙ sym same)
      in
      let there = found.1 in
      let y_is = there.2 in
      apart 0 (suc there.0) found.0 (omega arith) (omega (arith, there.1)) one.0 one.2
      (subst (λ y. R y one.0) (sym y_is) found.3))
      (numbers_differ xs rest
      (λ i k d less within. apart (suc i) (suc k) d (omega (arith, less)) (omega (arith, within))))

  -- so there are no more elements
  pub no_more : (xs : List A) → AreNumbered xs → AreApart xs → length xs ≤ n
  no_more xs each apart =
      let all = numbers xs each in
      let few = length-le_from_distinct_below all n
      (IsDistinct-from_AllPairs Decides-eqb all (numbers_differ xs each apart))
      (λ j found. (number_of xs each j (Contains-from_any eqb-true j all found)).2) in
      omega (arith, few, numbers_long xs each)
