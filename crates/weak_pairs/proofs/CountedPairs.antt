-- How many pairs hold something, once one was put.
use Rattle.std.proofs.Common.{◌≡◌, ◌≢◌, ℕ, zero, suc, ◌+◌, Bool, true, false, not, cond, List, [], ◌∷◌, Some}
use Rattle.std.proofs.Common.{slice_get, count_by, refl, ◌∙◌, ap, arith, ◌==◌, ◌&&◌}
use Rattle.std.specs.Prelude.{slice_set}
use Rattle.std.proofs.lemmas.Bool.{eqb-true}
use Rattle.std.proofs.lemmas.List.Sums.{sum_by-cons}
use Rattle.std.proofs.lemmas.Option.{none-some, same_Some}
use Rattle.heap_model.specs.Slots.{hole_word}
use Rattle.heap_model.specs.Kinds.{Pair, free_pair, is_free_pair}

-- how many pairs hold something
abbrev pub count_filled : List Pair → ℕ
count_filled pairs = count_by (λ pair. not (is_free_pair pair)) pairs

-- one where the test passes, or none
abbrev pub one_if : Bool → ℕ
one_if test = cond test 1 0

-- how many pass a test, once one was put in the place of another
count_set : {X : Type 0} (test : X → Bool) (xs : List X) (at : ℕ) (was put : X) → slice_get xs at ≡ Some was
    → count_by test (slice_set xs at put) + one_if (test was) ≡ count_by test xs + one_if (test put)
count_set test [] at was put there = absurd (none-some was there)
count_set {X} test (x ∷ xs) zero was put there =
    let same : x ≡ was = same_Some x was there in
    let one = ap (λ (y : X). one_if (test y)) same in
    omega (
      arith,
      one,
      sum_by-cons (λ (y : X). cond (test y) 1 0) x xs,
      sum_by-cons (λ (y : X). cond (test y) 1 0) put xs,
    )
count_set {X} test (x ∷ xs) (suc at) was put there =
    omega (
      arith,
      count_set test xs at was put there,
      sum_by-cons (λ (y : X). cond (test y) 1 0) x xs,
      sum_by-cons (λ (y : X). cond (test y) 1 0) x (slice_set xs at put),
    )

-- the tests of both words of a pair that holds nothing
both_by : (one two : Bool) (pair : Pair) → (pair.key == hole_word) ≡ one → (pair.value == hole_word) ≡ two
    → pair ≢ free_pair → (one && two) ≡ false
both_by true true pair key value filled =
    absurd (filled (ap (λ k. record { key = k; value = pair.value }) (eqb-true pair.key hole_word key)
    ∙ ap (λ v. record { key = hole_word; value = v }) (eqb-true pair.value hole_word value)))
both_by true false pair key value filled = refl
both_by false two pair key value filled = refl

-- a pair that holds something counts
pub filled_counts : (pair : Pair) → pair ≢ free_pair → not (is_free_pair pair) ≡ true
filled_counts pair filled =
    ap not (both_by (pair.key == hole_word) (pair.value == hole_word) pair refl refl filled)

-- one pair less is counted once it was made free
pub count_freed : (pairs : List Pair) (at : ℕ) (pair : Pair) → slice_get pairs at ≡ Some pair → pair ≢ free_pair
    → count_filled (slice_set pairs at free_pair) + 1 ≡ count_filled pairs
count_freed pairs at pair there filled =
    omega (
      arith,
      count_set (λ (one : Pair). not (is_free_pair one)) pairs at pair free_pair there,
      ap one_if (filled_counts pair filled),
    )

-- one pair more is counted once one was put where none was
pub count_put : (pairs : List Pair) (at : ℕ) (pair : Pair) → slice_get pairs at ≡ Some free_pair → pair ≢ free_pair
    → count_filled (slice_set pairs at pair) ≡ count_filled pairs + 1
count_put pairs at pair there filled =
    omega (
      arith,
      count_set (λ (one : Pair). not (is_free_pair one)) pairs at free_pair pair there,
      ap one_if (filled_counts pair filled),
    )

-- as many pairs are counted where one that holds something takes the place of another
pub count_kept : (pairs : List Pair) (at : ℕ) (was pair : Pair) → slice_get pairs at ≡ Some was → was ≢ free_pair
    → pair ≢ free_pair → count_filled (slice_set pairs at pair) ≡ count_filled pairs
count_kept pairs at was pair there was_filled filled =
    omega (
      arith,
      count_set (λ (one : Pair). not (is_free_pair one)) pairs at was pair there,
      ap one_if (filled_counts was was_filled),
      ap one_if (filled_counts pair filled),
    )
