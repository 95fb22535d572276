-- The places of a table where a number was put, or taken out.
use Rattle.std.proofs.Common.{ℕ, suc, zero, ◌+◌, ◌<◌, ◌≡◌, ◌≢◌, List, [], ◌∷◌, length, slice_get}
use Rattle.std.proofs.Common.{slice_set, Option, Some, None, is_some, cond, count_by, replicate, refl, sym, ◌∙◌, ap}
use Rattle.std.proofs.Common.{arith}
use Rattle.std.proofs.lemmas.Option.{slice_get_within}
use Rattle.std.proofs.lemmas.List.Sums.{sum_by-cons}
use Rattle.linear_probing.specs.Tables.{HoldsNumber, IsFree}

-- what was put at a place stands there
pub slice_get-set_same : {X : Type 0} (xs : List X) (i : ℕ) (x : X) → i < length xs
    → slice_get (slice_set xs i x) i ≡ Some x
slice_get-set_same [] i x within = absurd (omega arith)
slice_get-set_same (first ∷ xs) zero x within = refl
slice_get-set_same (first ∷ xs) (suc i) x within = slice_get-set_same xs i x (omega arith)

-- and the other places stay
pub slice_get-set_other : {X : Type 0} (xs : List X) (i j : ℕ) (x : X) → j ≢ i
    → slice_get (slice_set xs i x) j ≡ slice_get xs j
slice_get-set_other [] i j x apart = refl
slice_get-set_other (first ∷ xs) zero zero x apart = absurd (apart refl)
slice_get-set_other (first ∷ xs) zero (suc j) x apart = refl
slice_get-set_other (first ∷ xs) (suc i) zero x apart = refl
slice_get-set_other (first ∷ xs) (suc i) (suc j) x apart =
    slice_get-set_other xs i j x (λ same. apart (ap suc same))

-- a place that is free with a number put somewhere was free before
pub free_before : (table : List (Option ℕ)) (at number place : ℕ) → IsFree (slice_set table at (Some number)) place
    → IsFree table place
free_before [] at number place free = free
free_before (first ∷ table) zero number zero free = cc
free_before (first ∷ table) zero number (suc place) free = free
free_before (first ∷ table) (suc at) number zero free = free
free_before (first ∷ table) (suc at) number (suc place) free = free_before table at number place free

-- whichever number it is
pub free_with_other : (table : List (Option ℕ)) (at one other place : ℕ) → IsFree (slice_set table at (Some one)) place
    → IsFree (slice_set table at (Some other)) place
free_with_other [] at one other place free = free
free_with_other (first ∷ table) zero one other zero free = cc
free_with_other (first ∷ table) zero one other (suc place) free = free
free_with_other (first ∷ table) (suc at) one other zero free = free
free_with_other (first ∷ table) (suc at) one other (suc place) free = free_with_other table at one other place free

-- what is free elsewhere is so whatever is put
pub free_elsewhere : (table : List (Option ℕ)) (at : ℕ) (put : Option ℕ) (place : ℕ) → place ≢ at
    → IsFree (slice_set table at put) place → IsFree table place
free_elsewhere table at put place apart free = sym (slice_get-set_other table at place put apart) ∙ free

-- a place holds one number
pub same_number : (table : List (Option ℕ)) (at one other : ℕ) → HoldsNumber table at one
    → HoldsNumber table at other → one ≡ other
same_number table at one other holds also = cc

-- and is not free then
pub holds_not_free : (table : List (Option ℕ)) (at number : ℕ) → HoldsNumber table at number → IsFree table at → ⊥
holds_not_free table at number holds free = cc

-- a place that holds a number is one of the table
pub holds_within : (table : List (Option ℕ)) (at number : ℕ) → HoldsNumber table at number → at < length table
holds_within table at number holds = slice_get_within table at (Some number) holds

-- and likewise a free one
pub free_within : (table : List (Option ℕ)) (at : ℕ) → IsFree table at → at < length table
free_within table at free = slice_get_within table at None free

-- a table that holds nothing holds no number
pub none_holds : (capacity at number : ℕ) → HoldsNumber (replicate capacity None) at number → ⊥
none_holds zero at number holds = cc
none_holds (suc capacity) zero number holds = cc
none_holds (suc capacity) (suc at) number holds = none_holds capacity at number holds

-- where fewer numbers than places stand, a place is free
pub fewer_leave_one_free : (table : List (Option ℕ)) → count_by is_some table < length table
    → (at : ℕ) × IsFree table at
fewer_leave_one_free [] fewer = absurd (omega arith)
fewer_leave_one_free (None ∷ table) fewer = (0, refl)
fewer_leave_one_free (Some number ∷ table) fewer =
    let one : count_by is_some (Some number ∷ table) ≡ 1 + count_by is_some table =
    sum_by-cons (λ (x : Option ℕ). cond (is_some x) 1 0) (Some number) table in
    let rest : (at : ℕ) × IsFree table at = fewer_leave_one_free table (omega arith) in
    (suc rest.0, rest.1)
