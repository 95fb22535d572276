-- Where fewer pairs than all hold something, one of them is free.
use Rattle.std.proofs.Common.{◌≡◌, ℕ, suc, ◌<◌, List, [], ◌∷◌, length, Some, slice_get, not, Bool, true, false, refl}
use Rattle.std.proofs.Common.{◌∙◌, ap, arith, cond, ◌==◌, ◌&&◌}
use Rattle.std.proofs.lemmas.Bool.{eqb-true, false≢true}
use Rattle.std.proofs.lemmas.List.Sums.{sum_by-cons}
use Rattle.heap_model.specs.Slots.{hole_word}
use Rattle.heap_model.specs.Kinds.{Pair, free_pair, is_free_pair}
use Rattle.weak_pairs.proofs.CountedPairs.{count_filled, one_if}

-- both words of a pair that counts as free are holes
pub both_holes : (one two : Bool) (pair : Pair) → (pair.key == hole_word) ≡ one → (pair.value == hole_word) ≡ two
    → (one && two) ≡ true → pair ≡ free_pair
both_holes true true pair key value both =
    ap (λ k. record { key = k; value = pair.value }) (eqb-true pair.key hole_word key)
    ∙ ap (λ v. record { key = hole_word; value = v }) (eqb-true pair.value hole_word value)
both_holes true false pair key value both = absurd (false≢true both)
both_holes false two pair key value both = absurd (false≢true both)

-- one pair is free where fewer than all hold something, by whether the first is
free_by : (test : Bool) (pair : Pair) (pairs : List Pair) → is_free_pair pair ≡ test
    → count_filled (pair ∷ pairs) < length (pair ∷ pairs)
    → (count_filled pairs < length pairs → (free : ℕ) × (slice_get pairs free ≡ Some free_pair))
    → (free : ℕ) × (slice_get (pair ∷ pairs) free ≡ Some free_pair)
free_by true pair pairs is fewer rest =
    (0, ap Some (both_holes (pair.key == hole_word) (pair.value == hole_word) pair refl refl is))
free_by false pair pairs is fewer rest =
    let more = sum_by-cons (λ (one : Pair). cond (not (is_free_pair one)) 1 0) pair pairs in
    let one = ap (λ test. one_if (not test)) is in
    let later = rest (omega (arith, fewer, more, one)) in
    (suc later.0, later.1)

-- one pair is free where fewer than all hold something
pub one_is_free : (pairs : List Pair) → count_filled pairs < length pairs
    → (free : ℕ) × (slice_get pairs free ≡ Some free_pair)
one_is_free [] fewer = absurd (omega arith)
one_is_free (pair ∷ pairs) fewer = free_by (is_free_pair pair) pair pairs refl fewer (one_is_free pairs)
