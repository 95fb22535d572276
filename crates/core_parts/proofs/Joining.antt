-- What joining a list comes to.
use Rattle.std.proofs.Common.{ℕ, ◌≡◌, ◌≢◌, ◌==◌, ◌⊎◌, inl, inr, Bool, true, false, ◌||◌, List, []}
use Rattle.std.proofs.Common.{◌∷◌, ◌++◌, if◌then◌else◌, arith, refl, sym, ap, subst, eq-eqb, eqb-true}
use Rattle.std.specs.List.{Contains}
use Rattle.std.proofs.lemmas.List.Folds.{list_any_at}
use Rattle.std.proofs.lemmas.List.Elements.{Contains-append_left, Contains-push, Contains-push_cases, Contains-get_or}
use Rattle.std.proofs.lemmas.List.Quantifiers.{all_pairs_push}
use Rattle.tagged_word.proofs.Members.{rest_in}
use Rattle.core_parts.specs.Lists.{is_in, joined, HasNoRepeats}

-- a test comes out one way or the other
pub decided : (b : Bool) → (b ≡ true) ⊎ (b ≡ false)
decided true = inl refl
decided false = inr refl

-- what is in the list is found there
pub found_in : (list : List ℕ) (a : ℕ) → Contains list a → is_in list a ≡ true
found_in list a (k, l, e) = list_any_at (λ x. x == a) list k a l (eq-eqb _ _ e)

-- what is found at the head or in the rest is in the list
head_or_rest : (x a : ℕ) (xs : List ℕ) (b : Bool) → (x == a) ≡ b → (is_in xs a ≡ true → Contains xs a) →
    (b || is_in xs a) ≡ true → Contains (x ∷ xs) a
head_or_rest x a xs true e rest t = (0, omega arith, eqb-true _ _ e)
head_or_rest x a xs false e rest t = rest_in x xs a (rest t)

-- what is found there is in the list
pub in_found : (list : List ℕ) (a : ℕ) → is_in list a ≡ true → Contains list a
in_found [] a t = cc
in_found (x ∷ xs) a t = head_or_rest x a xs (x == a) refl (in_found xs a) t

-- what is not in the list is not found there
pub not_found : (list : List ℕ) (a : ℕ) → (Contains list a → ⊥) → is_in list a ≡ false
not_found list a out = elim (decided (is_in list a)) [ inl t ↦ absurd (out (in_found list a t)) | inr f ↦ f ]

-- and what is not found there is not in it
pub out_not_found : (list : List ℕ) (a : ℕ) → is_in list a ≡ false → Contains list a → ⊥
out_not_found list a f c = let t = found_in list a c in cc

-- where the address is found, the list stays
stays_found : (list : List ℕ) (a : ℕ) → is_in list a ≡ true → joined list a ≡ list
stays_found list a t = ap (λ b. if b then list else (list ++ a ∷ [])) t

-- where it is not, it is put at the end
ends_with : (list : List ℕ) (a : ℕ) → is_in list a ≡ false → joined list a ≡ list ++ a ∷ []
ends_with list a f = ap (λ b. if b then list else (list ++ a ∷ [])) f

-- a fact of the list after joining, from the two lists that it may be
pub joined_cases : (P : List ℕ → Type 0) (list : List ℕ) (a : ℕ) → (Contains list a → P list) →
    ((Contains list a → ⊥) → P (list ++ a ∷ [])) → P (joined list a)
joined_cases P list a stays ends =
    elim (decided (is_in list a)) [
      | inl t ↦ subst P (sym (stays_found list a t)) (stays (in_found list a t))
      | inr f ↦ subst P (sym (ends_with list a f)) (ends (out_not_found list a f))
    ]

-- what was not in the list joins at its end
pub joined_at_end : (list : List ℕ) (a : ℕ) → (Contains list a → ⊥) → joined list a ≡ list ++ a ∷ []
joined_at_end list a out = ends_with list a (not_found list a out)

-- what joins is in the list
pub joined_in : (list : List ℕ) (a : ℕ) → Contains (joined list a) a
joined_in list a = joined_cases (λ xs. Contains xs a) list a (λ c. c) (λ out. Contains-push list a)

-- what is in the list stays in it
pub joined_keeps : (list : List ℕ) (a x : ℕ) → Contains list x → Contains (joined list a) x
joined_keeps list a x c =
    joined_cases (λ xs. Contains xs x) list a (λ in_list. c) (λ out. Contains-append_left list (a ∷ []) x c)

-- an element at the end is that of before, or the one that was put there
one_of : (list : List ℕ) (a x : ℕ) → x ≢ a → Contains list x ⊎ (a ≡ x) → Contains list x
one_of list a x other (inl c) = c
one_of list a x other (inr e) = absurd (other (sym e))

-- no other joins
pub joined_from : (list : List ℕ) (a x : ℕ) → x ≢ a → Contains (joined list a) x → Contains list x
joined_from list a x other =
    joined_cases (λ xs. Contains xs x → Contains list x) list a (λ in_list c. c)
    (λ out c. one_of list a x other (Contains-push_cases list a x c))

-- joining makes no repeats
pub joined_no_repeats : (list : List ℕ) (a : ℕ) → HasNoRepeats list → HasNoRepeats (joined list a)
joined_no_repeats list a once =
    joined_cases HasNoRepeats list a (λ in_list. once)
    (λ out. all_pairs_push (λ x y. x ≢ y) list a once
    (λ k d l e. out (subst (Contains list) e (Contains-get_or list k d l))))
