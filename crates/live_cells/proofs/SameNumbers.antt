-- Two lists of the same numbers, none of which stands twice, are one in two orders.
use Rattle.std.proofs.Common.{◌≡◌, ◌≢◌, ℕ, suc, List, [], ◌∷◌, ◌++◌, map, get_or, All, Contains}
use Rattle.std.proofs.Common.{sum_by, refl, sym, ◌∙◌, subst, arith}
use Rattle.std.specs.Prelude.{nat_eq}
use Rattle.std.specs.List.{AllPairs, remove}
use Rattle.std.specs.List.Sorted.{IsPermutation}
use Rattle.std.proofs.lemmas.Bool.Decides.{Decides-eqb}
use Rattle.std.proofs.lemmas.Cmp.{nat_eq_equiv}
use Rattle.std.proofs.lemmas.List.Elements.{All-append, Contains-get_or}
use Rattle.std.proofs.lemmas.List.Kept.{AllPairs-cons}
use Rattle.std.proofs.lemmas.List.Sorted.{IsPermutation-refl, IsPermutation-sym, IsPermutation-cons}
use Rattle.std.proofs.lemmas.List.Sorted.{IsPermutation-trans, IsPermutation-remove, Contains-permutation}
use Rattle.std.proofs.lemmas.List.Sums.{sum_by-cons}
use Rattle.std.proofs.lemmas.Map.Keys.{IsDistinct-IsPermutation}
use Rattle.std.proofs.lemmas.Map.Made.{AllPairs-from_IsDistinct, IsDistinct-from_AllPairs}
use Rattle.tagged_word.proofs.Members.{first_in, rest_in, in_later, map_from}

-- what holds of each element of a list, by its places
pub all_from_each : {X : Type 0} (P : X → Type 0) (xs : List X) → ((x : X) → Contains xs x → P x) → All P xs
all_from_each P xs each k d within = each (get_or xs k d) (Contains-get_or xs k d within)

-- the first of elements that stand so in pairs stands so with each other one
pub first_with : {X : Type 0} (R : X → X → Type 0) (x : X) (xs : List X) (y : X) → AllPairs R (x ∷ xs)
    → Contains xs y → R x y
first_with R x xs y pairs there =
    subst (R x) there.2 (pairs 0 (suc there.0) y (omega arith) (omega (arith, there.1)))

-- and the others stand so
pub rest_with : {X : Type 0} (R : X → X → Type 0) (x : X) (xs : List X) → AllPairs R (x ∷ xs) → AllPairs R xs
rest_with R x xs pairs = λ i k d less within. pairs (suc i) (suc k) d (omega (arith, less)) (omega (arith, within))

-- the elements of two lists stand so in pairs, where those of each do, and each of the first with each of the second
pub append_with : {X : Type 0} (R : X → X → Type 0) (xs ys : List X) → AllPairs R xs → AllPairs R ys
    → ((x y : X) → Contains xs x → Contains ys y → R x y) → AllPairs R (xs ++ ys)
append_with R [] ys pairs pairs_too cross = pairs_too
append_with R (x ∷ xs) ys pairs pairs_too cross =
    AllPairs-cons R x (xs ++ ys)
    (All-append (R x) xs ys (all_from_each (R x) xs (λ y there. first_with R x xs y pairs there))
    (all_from_each (R x) ys (λ y there. cross x y (first_in x xs) there)))
    (append_with R xs ys (rest_with R x xs pairs) pairs_too (λ y z there. cross y z (rest_in x xs y there)))

-- values differ where they do so in pairs of elements
pub map_apart : {X : Type 0} (f : X → ℕ) (xs : List X) → AllPairs (λ x y. f x ≢ f y) xs
    → AllPairs (λ m n. m ≢ n) (map f xs)
map_apart f [] pairs = λ i k d less within. absurd (omega (arith, within))
map_apart {X} f (x ∷ xs) pairs =
    let R : X → X → Type 0 = λ one other. f one ≢ f other in
    AllPairs-cons (λ m n. m ≢ n) (f x) (map f xs)
    (all_from_each (λ n. f x ≢ n) (map f xs) (λ n there same.
    let from = map_from f xs n there in
    first_with R x xs from.0 pairs from.1 (same ∙ sym from.2)))
    (map_apart f xs (rest_with R x xs pairs))

-- a sum over elements is one over numbers, where each element has as much as its number
pub sum_by_number : {X : Type 0} (f : ℕ → ℕ) (number g : X → ℕ) (xs : List X)
    → ((x : X) → Contains xs x → g x ≡ f (number x)) → sum_by g xs ≡ sum_by f (map number xs)
sum_by_number f number g [] same = refl
sum_by_number f number g (x ∷ xs) same =
    omega (
      arith,
      same x (first_in x xs),
      sum_by-cons g x xs,
      sum_by-cons f (number x) (map number xs),
      sum_by_number f number g xs (λ y there. same y (rest_in x xs y there)),
    )

-- numbers that differ do so in another order
apart_permuted : (xs ys : List ℕ) → IsPermutation xs ys → AllPairs (λ x y. x ≢ y) xs → AllPairs (λ x y. x ≢ y) ys
apart_permuted xs ys order apart =
    AllPairs-from_IsDistinct Decides-eqb ys
    (IsDistinct-IsPermutation nat_eq nat_eq_equiv.symm xs ys order (IsDistinct-from_AllPairs Decides-eqb xs apart))

-- lists of the same numbers
pub same_numbers : (xs ys : List ℕ) → AllPairs (λ x y. x ≢ y) xs → AllPairs (λ x y. x ≢ y) ys
    → ((x : ℕ) → Contains xs x → Contains ys x) → ((x : ℕ) → Contains ys x → Contains xs x) → IsPermutation xs ys
same_numbers [] [] apart apart_too there back = IsPermutation-refl []
same_numbers [] (y ∷ ys) apart apart_too there back = absurd (omega (arith, (back y (first_in y ys)).1))
same_numbers (x ∷ xs) ys apart apart_too there back =
    let Differ : ℕ → ℕ → Type 0 = λ m n. m ≢ n in
    let among = there x (first_in x xs) in
    let rest : List ℕ = remove ys among.0 in
    let order : IsPermutation ys (x ∷ rest) = IsPermutation-remove ys among.0 x among.1 (sym among.2) in
    let differ = apart_permuted ys (x ∷ rest) order apart_too in
    let inner = same_numbers xs rest (rest_with Differ x xs apart) (rest_with Differ x rest differ)
    (λ y one. in_later x rest y (first_with Differ x xs y apart one)
    (Contains-permutation ys (x ∷ rest) y order (there y (rest_in x xs y one))))
    (λ y one. in_later x xs y (first_with Differ x rest y differ one)
    (back y (Contains-permutation (x ∷ rest) ys y (IsPermutation-sym ys (x ∷ rest) order) (rest_in x rest y one)))) in
    IsPermutation-trans (x ∷ xs) (x ∷ rest) ys (IsPermutation-cons x xs rest inner)
    (IsPermutation-sym ys (x ∷ rest) order)
