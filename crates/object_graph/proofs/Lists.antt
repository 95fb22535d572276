-- Elements of a list by their places, after one was added or put in the place of another.
use Rattle.std.proofs.Common.{◌≡◌, ◌≢◌, ℕ, suc, zero, ◌<◌, List, [], ◌∷◌, ◌++◌, length, set, Some}
use Rattle.std.proofs.Common.{refl, ap, arith}
use Rattle.std.specs.Prelude.{slice_get}

-- an element that is there is there after another was added
pub slice_get-push : {A : Type 0} (xs : List A) (added : A) (i : ℕ) (x : A) → slice_get xs i ≡ Some x
    → slice_get (xs ++ added ∷ []) i ≡ Some x
slice_get-push [] added i x there = cc
slice_get-push (first ∷ xs) added zero x there = there
slice_get-push (first ∷ xs) added (suc i) x there = slice_get-push xs added i x there

-- an element that was put in the place of another is there
pub slice_get-set_same : {A : Type 0} (xs : List A) (i : ℕ) (x : A) → i < length xs → slice_get (set xs i x) i ≡ Some x
slice_get-set_same [] i x within = absurd (omega arith)
slice_get-set_same (first ∷ xs) zero x within = refl
slice_get-set_same (first ∷ xs) (suc i) x within = slice_get-set_same xs i x (omega arith)

-- and the elements of other places stay
pub slice_get-set_other : {A : Type 0} (xs : List A) (i j : ℕ) (x : A) → j ≢ i
    → slice_get (set xs i x) j ≡ slice_get xs j
slice_get-set_other [] i j x apart = refl
slice_get-set_other (first ∷ xs) zero zero x apart = absurd (apart refl)
slice_get-set_other (first ∷ xs) zero (suc j) x apart = refl
slice_get-set_other (first ∷ xs) (suc i) zero x apart = refl
slice_get-set_other (first ∷ xs) (suc i) (suc j) x apart = slice_get-set_other xs i j x (λ same. apart (ap suc same))
