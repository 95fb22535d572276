-- The numbers of the objects that are marked, as a list: there are as many as marks, and what is counted of marked
-- objects is counted of them.
use Rattle.std.proofs.Common.{◌≡◌, ◌≢◌, ℕ, zero, suc, ◌+◌, inl, inr, Bool, true, false, List, [], ◌∷◌, length}
use Rattle.std.proofs.Common.{zip, Some, Contains, slice_get, sum_by, count_by, cond, refl, subst, arith}
use Rattle.std.specs.List.{AllPairs}
use Rattle.std.proofs.lemmas.Option.{none-some, same_Some}
use Rattle.std.proofs.lemmas.List.Kept.{AllPairs-cons}
use Rattle.std.proofs.lemmas.List.Sums.{sum_by-cons}
use Rattle.tagged_word.proofs.Members.{first_in, rest_in, in_cases}
use Rattle.heap_model.specs.Types.{Object}
use Rattle.object_graph.specs.Reach.{entries_if, marked_entries}
use Rattle.live_cells.proofs.SameNumbers.{all_from_each}

-- the numbers of those that are marked, where the first has this number
pub numbers_from : ℕ → List Bool → List ℕ
numbers_from n [] = []
numbers_from n (true ∷ marks) = n ∷ numbers_from (suc n) marks
numbers_from n (false ∷ marks) = numbers_from (suc n) marks

-- there are as many
pub numbers_long : (n : ℕ) (marks : List Bool) → length (numbers_from n marks) ≡ count_by (λ mark. mark) marks
unfolding numbers_from
numbers_long n [] = refl
numbers_long n (true ∷ marks) =
    omega (arith, numbers_long (suc n) marks, sum_by-cons (λ (mark : Bool). cond mark 1 0) true marks)
numbers_long n (false ∷ marks) =
    omega (arith, numbers_long (suc n) marks, sum_by-cons (λ (mark : Bool). cond mark 1 0) false marks)

-- a marked one's number is among them
pub number_among : (n k x : ℕ) (marks : List Bool) → slice_get marks k ≡ Some true → n + k ≡ x
    → Contains (numbers_from n marks) x
unfolding numbers_from
number_among n k x [] there is = absurd (none-some true there)
number_among n zero x (true ∷ marks) there is =
    let same : n ≡ x = omega (arith, is) in
    subst (Contains (n ∷ numbers_from (suc n) marks)) same (first_in n (numbers_from (suc n) marks))
number_among n (suc k) x (true ∷ marks) there is =
    rest_in n (numbers_from (suc n) marks) x (number_among (suc n) k x marks there (omega (arith, is)))
number_among n zero x (false ∷ marks) there is = let same : false ≡ true = same_Some _ _ there in absurd (cc)
number_among n (suc k) x (false ∷ marks) there is = number_among (suc n) k x marks there (omega (arith, is))

-- the number is that of a marked one
pub record IsMarkedAt (n : ℕ) (marks : List Bool) (x : ℕ) : Type 0 where
  pub place : ℕ
  pub marked : slice_get marks place ≡ Some true
  pub is : n + place ≡ x

-- and each of them is
pub marked_among : (n x : ℕ) (marks : List Bool) → Contains (numbers_from n marks) x → IsMarkedAt n marks x
unfolding numbers_from
marked_among n x [] there = absurd (omega (arith, there.1))
marked_among n x (true ∷ marks) there =
    elim (in_cases n (numbers_from (suc n) marks) x there) [
      | inl same ↦ record { place = 0; marked = refl; is = omega (arith, same) }
      | inr later ↦
          let one = marked_among (suc n) x marks later in
          record { place = suc one.place; marked = one.marked; is = omega (arith, one.is) }
    ]
marked_among n x (false ∷ marks) there =
    let one = marked_among (suc n) x marks there in
    record { place = suc one.place; marked = one.marked; is = omega (arith, one.is) }

-- no two are the same
pub numbers_differ : (n : ℕ) (marks : List Bool) → AllPairs (λ x y. x ≢ y) (numbers_from n marks)
unfolding numbers_from
numbers_differ n [] = λ i k d less within. absurd (omega (arith, within))
numbers_differ n (true ∷ marks) =
    AllPairs-cons (λ x y. x ≢ y) n (numbers_from (suc n) marks)
    (all_from_each (λ y. n ≢ y) (numbers_from (suc n) marks) (λ y there same.
    let one = marked_among (suc n) y marks there in
    omega (arith, one.is, same)))
    (numbers_differ (suc n) marks)
numbers_differ n (false ∷ marks) = numbers_differ (suc n) marks

-- a sum over them is what marked objects have of entries whose key is marked
pub numbers_sum : (all : List Bool) (f : ℕ → ℕ) (n : ℕ) (marks : List Bool) (objects : List Object)
    → length marks ≡ length objects
    → ((k x : ℕ) (what : Object) → slice_get objects k ≡ Some what → n + k ≡ x → f x ≡ marked_entries all what)
    → sum_by f (numbers_from n marks) ≡ sum_by (λ pair. entries_if all pair.0 pair.1) (zip marks objects)
unfolding numbers_from
numbers_sum all f n [] [] long each = refl
numbers_sum all f n [] (what ∷ objects) long each = absurd (omega (arith, long))
numbers_sum all f n (mark ∷ marks) [] long each = absurd (omega (arith, long))
numbers_sum all f n (true ∷ marks) (what ∷ objects) long each =
    omega (
      arith,
      each 0 n what refl (omega arith),
      sum_by-cons f n (numbers_from (suc n) marks),
      sum_by-cons (λ (pair : Bool × Object). entries_if all pair.0 pair.1) (true, what) (zip marks objects),
      numbers_sum all f (suc n) marks objects (omega (arith, long))
          (λ k x one there is. each (suc k) x one there (omega (arith, is))),
    )
numbers_sum all f n (false ∷ marks) (what ∷ objects) long each =
    omega (
      arith,
      sum_by-cons (λ (pair : Bool × Object). entries_if all pair.0 pair.1) (false, what) (zip marks objects),
      numbers_sum all f (suc n) marks objects (omega (arith, long))
          (λ k x one there is. each (suc k) x one there (omega (arith, is))),
    )
