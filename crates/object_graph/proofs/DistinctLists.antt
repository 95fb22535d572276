-- Lists in which nothing stands twice, and what a filter keeps of a list.
use Rattle.std.proofs.Common.{◌≡◌, ℕ, ◌<◌, Bool, true, false, cond, List, [], ◌∷◌, ◌++◌, length, get_or}
use Rattle.std.proofs.Common.{take, refl, ap, ◌∙◌, arith}
use Rattle.std.specs.Prelude.{All, Contains, filter, ◌==◌}
use Rattle.std.specs.List.{IsDistinct}
use Rattle.std.proofs.lemmas.Bool.{cond_both}
use Rattle.std.proofs.lemmas.List.{length-take, get_or-take}
use Rattle.std.proofs.lemmas.List.Elements.{All-nil, All-cons, All-head, All-tail, All-append, All-weaker}
use Rattle.std.proofs.lemmas.List.Elements.{All-contains, Contains-append_right}
use Rattle.std.proofs.lemmas.List.Elements.{All-from_recursion, recursion_from_All}
use Rattle.std.proofs.lemmas.List.Kept.{AllPairs-filter}
use Rattle.std.proofs.lemmas.Map.Keys.{IsDistinct-head, IsDistinct-tail, IsDistinct-cons, apart_from_distinct}
use Rattle.std.proofs.lemmas.Map.Keys.{IsDistinct-from_apart}

-- of no numbers none stands twice
pub nil-distinct : IsDistinct {K = ℕ} ◌==◌ []
unfolding IsDistinct
nil-distinct = tt

-- of the first elements none stands twice
pub IsDistinct-take : {X : Type 0} (same : X → X → Bool) (n : ℕ) (xs : List X) → IsDistinct same xs
    → IsDistinct same (take n xs)
IsDistinct-take same n xs distinct =
    IsDistinct-from_apart same (take n xs) (λ i j d below within.
    let inside : (j < n) × (j < length xs) = (omega (arith, length-take n xs), omega (arith, length-take n xs)) in
    ap (λ x. same x (get_or (take n xs) j d)) (get_or-take n xs i d (omega (arith, inside.0)))
    ∙ ap (λ y. same (get_or xs i d) y) (get_or-take n xs j d inside.0)
    ∙ apart_from_distinct same xs i j d distinct below inside.1)

-- of those that pass a test none stands twice
pub IsDistinct-filter : {X : Type 0} (same : X → X → Bool) (test : X → Bool) (xs : List X) → IsDistinct same xs
    → IsDistinct same (filter test xs)
IsDistinct-filter same test xs distinct =
    let apart = λ (i j : ℕ) (d : _) (below : i < j) (within : j < length xs).
    apart_from_distinct same xs i j d distinct below within in
    IsDistinct-from_apart same (filter test xs) (AllPairs-filter (λ x y. same x y ≡ false) test xs apart)

-- of the elements of two lists that have none in common none stands twice
pub IsDistinct-append : {X : Type 0} (same : X → X → Bool) (xs ys : List X)
    → IsDistinct same xs → IsDistinct same ys → All (λ x. All (λ y. same x y ≡ false) ys) xs
    → IsDistinct same (xs ++ ys)
IsDistinct-append same [] ys first second apart = second
IsDistinct-append same (x ∷ xs) ys first second apart =
    let Differs = λ (y : _). same x y ≡ false in
    let Apart = λ (z : _). All (λ y. same z y ≡ false) ys in
    let among_first = All-from_recursion Differs xs (IsDistinct-head same x xs first) in
    let among_second = All-head Apart x xs apart in
    let rest = IsDistinct-append same xs ys (IsDistinct-tail same x xs first) second (All-tail Apart x xs apart) in
    let differs = recursion_from_All Differs (xs ++ ys) (All-append Differs xs ys among_first among_second) in
    IsDistinct-cons same x (xs ++ ys) differs rest

-- each element that passes is kept
all_kept : {X : Type 0} (test : X → Bool) (xs : List X) → All (λ x. test x ≡ true → Contains (filter test xs) x) xs
all_kept test [] = All-nil _
all_kept test (x ∷ xs) =
    let rest = filter test xs in
    let kept = cond (test x) (x ∷ rest) rest in
    let here : test x ≡ true → Contains kept x = λ passes. cond_both (test x) (x ∷ rest) rest (λ l. Contains l x)
    (λ is. (0, omega arith, refl)) (λ fails. absurd (cc)) in
    let later = λ (y : _) (is : test y ≡ true → Contains rest y) (passes : test y ≡ true).
    cond_both (test x) (x ∷ rest) rest (λ l. Contains l y)
    (λ first. Contains-append_right (x ∷ []) rest y (is passes)) (λ skipped. is passes) in
    All-cons (λ y. test y ≡ true → Contains kept y) x xs here
    (All-weaker (λ y. test y ≡ true → Contains rest y) (λ y. test y ≡ true → Contains kept y) later xs
    (all_kept test xs))

-- a filter has an element that passes
pub Contains-filter : {X : Type 0} (test : X → Bool) (xs : List X) (x : X) → Contains xs x → test x ≡ true
    → Contains (filter test xs) x
Contains-filter test xs x there =
    All-contains (λ y. test y ≡ true → Contains (filter test xs) y) xs x (all_kept test xs) there
