-- The names that get numbers are those that are used, each once.
use Rattle.std.proofs.Common.{◌≢◌, ◌⊎◌, inl, inr, ℕ, List, [], ◌∷◌, unwrap_or, slice_get, fold, ap}
use Rattle.std.proofs.Common.{◌∙◌, subst, arith}
use Rattle.std.specs.List.{Contains, AllPairs}
use Rattle.std.proofs.lemmas.List.Elements.{Contains-get_or, Contains-push_cases}
use Rattle.std.proofs.lemmas.List.Quantifiers.{all_pairs_push}
use Rattle.script_text.specs.Names.{with_name, first_uses}
use Rattle.script_text.proofs.Numbers.{found, known_or_new, Contains-head, Contains-tail, Contains-first_uses}
use Rattle.script_laws.specs.Naming.{FirstUsesName, NumbersNameBack}

-- a number names its name back
pub slice_get-number_of : NumbersNameBack
slice_get-number_of names name h =
    let here = found names name h in
    ap (λ place. slice_get names (unwrap_or place 0)) here.place ∙ here.back

-- only uses and names that were there are in the list after them
pub only-fold : (uses names : List (List ℕ)) (name : List ℕ) → Contains (fold with_name names uses) name
    → Contains names name ⊎ Contains uses name
only-fold [] names name h = inl h
only-fold (named ∷ uses) names name h =
    elim (only-fold uses (with_name names named) name h) [
      | inl h ↦ elim (known_or_new names named) [
        | inl e ↦ inl (rw e.same at h)
        | inr e ↦
            elim (Contains-push_cases names named name (rw e.ends at h))
            [ inl h ↦ inl h | inr e ↦ inr (Contains-head named uses name e) ]
      ]
      | inr h ↦ inr (Contains-tail named uses name h)
    ]

-- only uses are among the first uses
Contains-uses : (uses : List (List ℕ)) (name : List ℕ) → Contains (first_uses uses) name → Contains uses name
Contains-uses uses name h = elim (only-fold uses [] name h) [ inl h ↦ absurd (omega (arith, h.1)) | inr h ↦ h ]

-- a name more leaves none twice
AllPairs-with_name : (names : List (List ℕ)) (new : List ℕ) → AllPairs (λ x y. x ≢ y) names
    → AllPairs (λ x y. x ≢ y) (with_name names new)
AllPairs-with_name names new h =
    elim (known_or_new names new) [
      | inl e ↦ rw e.same h
      | inr e ↦
          rw e.ends (all_pairs_push (λ x y. x ≢ y) names new h
          (λ k d lt same. e.absent (subst (Contains names) same (Contains-get_or names k d lt))))
    ]

-- so do more names
pub AllPairs-fold : (uses names : List (List ℕ)) → AllPairs (λ x y. x ≢ y) names
    → AllPairs (λ x y. x ≢ y) (fold with_name names uses)
AllPairs-fold [] names h = h
AllPairs-fold (named ∷ uses) names h = AllPairs-fold uses (with_name names named) (AllPairs-with_name names named h)

-- no name is twice among the first uses
AllPairs-first_uses : (uses : List (List ℕ)) → AllPairs (λ x y. x ≢ y) (first_uses uses)
AllPairs-first_uses uses = AllPairs-fold uses [] (λ i j d less lt. absurd (omega (arith, lt)))

-- first uses are the names of the uses
pub first_uses_name : FirstUsesName
first_uses_name uses =
    record { each = Contains-first_uses uses; only = Contains-uses uses; once = AllPairs-first_uses uses }
