-- What a list made from another, and a run of numbers, contains.
use Rattle.std.proofs.Common.{ℕ, zero, suc, ◌<◌, ◌≤◌, ◌+◌, ◌-◌, ◌≡◌, ◌⊎◌, inl, inr, Bool, true}
use Rattle.std.proofs.Common.{false, cond, List, [], ◌∷◌, map, filter, arith, refl, ap, sym, subst, ◌∙◌}
use Rattle.std.specs.List.{Contains, range_with_len}
use Rattle.std.proofs.lemmas.List.Elements.{All-contains, All-contains_itself, All-filter, All-map, All-weaker}
use Rattle.std.proofs.lemmas.List.Elements.{filter_passes, Contains-append_right, Contains-append_cases}
use Rattle.std.proofs.lemmas.List.{length-map}
use Rattle.std.proofs.Math.ListN.{get_or-map}
use Rattle.std.proofs.lemmas.List.FromFn.{length-range_with_len, get_or-range_with_len}

-- the first element is one
pub first_in : {X : Type 0} (x : X) (xs : List X) → Contains (x ∷ xs) x
first_in x xs = (0, omega arith, refl)

-- an element of the rest is one
pub rest_in : {X : Type 0} (x : X) (xs : List X) (y : X) → Contains xs y → Contains (x ∷ xs) y
rest_in x xs y = Contains-append_right (x ∷ []) xs y

-- the one element of a list of one
pub one_in : {X : Type 0} (x y : X) → Contains (x ∷ []) y → x ≡ y
one_in x y (zero, l, e) = e
one_in x y (suc k, l, e) = absurd (omega (arith, l))

-- an element is the first one, or one of the rest
pub in_cases : {X : Type 0} (x : X) (xs : List X) (y : X) → Contains (x ∷ xs) y → (x ≡ y) ⊎ Contains xs y
in_cases x xs y c = elim (Contains-append_cases (x ∷ []) xs y c) [ inl h ↦ inl (one_in x y h) | inr h ↦ inr h ]

-- what is not the first one is one of the rest
later : {X : Type 0} (x : X) (xs : List X) (y : X) → (x ≡ y → ⊥) → (x ≡ y) ⊎ Contains xs y → Contains xs y
later x xs y other (inl e) = absurd (other e)
later x xs y other (inr h) = h

-- an element other than the first one is one of the rest
pub in_later : {X : Type 0} (x : X) (xs : List X) (y : X) → (x ≡ y → ⊥) → Contains (x ∷ xs) y → Contains xs y
in_later x xs y other c = later x xs y other (in_cases x xs y c)

-- a run of numbers contains those from its first on, as many as it is long
pub in_range : (from many x : ℕ) → from ≤ x → x < from + many → Contains (range_with_len from many) x
in_range from many x low high =
    let within : x - from < many = omega arith in (
      x - from,
      omega (arith, length-range_with_len from many),
      get_or-range_with_len from many (x - from) x within ∙ (let e : from + (x - from) ≡ x = omega arith in e),
    )

-- and no others
pub range_bounds : (from many x : ℕ) → Contains (range_with_len from many) x → (from ≤ x) × (x < from + many)
range_bounds from many x (k, l, e) =
    let within : k < many = omega (arith, l, length-range_with_len from many) in
    let is : from + k ≡ x = sym (get_or-range_with_len from many k x within) ∙ e in
    (omega arith, omega arith)

-- what a filter keeps stood in the list
pub filter_from : {X : Type 0} (p : X → Bool) (xs : List X) (x : X) → Contains (filter p xs) x → Contains xs x
filter_from p xs x = All-contains (Contains xs) (filter p xs) x (All-filter p (Contains xs) xs (All-contains_itself xs))

-- and passes the test
pub filter_true : {X : Type 0} (p : X → Bool) (xs : List X) (x : X) → Contains (filter p xs) x → p x ≡ true
filter_true p xs x = All-contains (λ y. p y ≡ true) (filter p xs) x (filter_passes p xs)

-- what passes is in what a filter gives of a first element and the rest
kept : {X : Type 0} (p : X → Bool) (x : X) (rest : List X) (y : X) → p y ≡ true → (x ≡ y) ⊎ Contains rest y →
    Contains (cond (p x) (x ∷ rest) rest) y
kept p x rest y t (inl e) =
    let b : p x ≡ true = ap p e ∙ t in
    let h : Contains (x ∷ rest) y = subst (λ z. Contains (x ∷ rest) z) e (first_in x rest) in
    rw b h
kept p x rest y t (inr h) =
    elim (p x) as (λ b. Contains (cond b (x ∷ rest) rest) y) [ true ↦ rest_in x rest y h | false ↦ h ]

-- what stands in the rest stands in what is kept of it
in_rest : {X : Type 0} (p : X → Bool) (x : X) (xs : List X) (y : X) → (Contains xs y → Contains (filter p xs) y) →
    (x ≡ y) ⊎ Contains xs y → (x ≡ y) ⊎ Contains (filter p xs) y
in_rest p x xs y f (inl e) = inl e
in_rest p x xs y f (inr h) = inr (f h)

-- what passes the test is kept
pub in_filter : {X : Type 0} (p : X → Bool) (xs : List X) (x : X) → p x ≡ true → Contains xs x →
    Contains (filter p xs) x
in_filter p [] x t c = c
in_filter p (y ∷ xs) x t c = kept p y (filter p xs) x t (in_rest p y xs x (in_filter p xs x t) (in_cases y xs x c))

-- a function's value at an element is one of the values
pub in_map : {X Y : Type 0} (f : X → Y) (xs : List X) (x : X) → Contains xs x → Contains (map f xs) (f x)
in_map f xs x (k, l, e) = (k, omega (arith, l, length-map xs f), get_or-map f xs k x ∙ ap f e)

-- one of the values is the value at some element
pub map_from : {X Y : Type 0} (f : X → Y) (xs : List X) (y : Y) → Contains (map f xs) y →
    (x : X) × Contains xs x × (f x ≡ y)
map_from {X} {Y} f xs y =
    let P : Y → Type 0 = λ z. (x : X) × Contains xs x × (f x ≡ z) in
    All-contains P (map f xs) y (All-map P f xs
    (All-weaker (Contains xs) (λ x. P (f x)) (λ x h. (x, h, refl)) xs (All-contains_itself xs)))
