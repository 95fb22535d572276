-- The members of a list to which an address was pushed.
use Rattle.std.proofs.Common.{◌≡◌, ◌⊎◌, ◌↔◌, inl, inr, ℕ, Bool, true, false, List, [], ◌∷◌, Contains}
use Rattle.std.proofs.Common.{IsTrue, sym, subst, arith, if◌then◌else◌}
use Rattle.std.proofs.lemmas.Bool.{cases_eq}
use Rattle.std.proofs.lemmas.List.Elements.{Contains-append_cases, Contains-append_left, Contains-append_right}
use Rattle.tagged_word.proofs.Members.{first_in, in_later, one_in, rest_in}
use Rattle.cell_list.specs.Listing.{Listing, pushed}

-- an address is in a list, or it is not
in_or_out : (list : List ℕ) (at : ℕ) → Contains list at ⊎ (Contains list at → ⊥)
in_or_out [] at = inr (λ (k, l, e). absurd (omega (arith, l)))
in_or_out (x ∷ xs) at = elim (cases_eq x at) [
  | inl is ↦ inl (subst (λ (a : ℕ). Contains (x ∷ xs) a) is (first_in x xs))
  | inr other ↦ elim (in_or_out xs at) [
    | inl on ↦ inl (rest_in x xs at on)
    | inr out ↦ inr (λ on. out (in_later x xs at other on))
  ]
]

-- an address that is not new to a list is on it
there : (list : List ℕ) (at : ℕ) → IsTrue false ↔ (Contains list at → ⊥) → Contains list at
there list at was = elim (in_or_out list at) [
  | inl on ↦ on
  | inr out ↦ absurd (let no_test : IsTrue false = was.1 out in cc)
]

-- the members of a list to which an address was pushed
pub pushed_members : (listing now : Listing) (at : ℕ) (fresh : Bool)
    → IsTrue fresh ↔ (Contains listing.addresses at → ⊥)
    → now ≡ (if fresh then pushed listing at else listing) → (one : ℕ)
    → Contains now.addresses one ↔ (Contains listing.addresses one ⊎ (one ≡ at))
pushed_members listing now at true was is one =
    subst (λ (l : Listing). Contains l.addresses one ↔ (Contains listing.addresses one ⊎ (one ≡ at))) (sym is) (
      (λ on. elim (Contains-append_cases listing.addresses (at ∷ []) one on) [
        | inl before ↦ inl before
        | inr last ↦ inr (sym (one_in at one last))
      ]),
      (λ either. elim either [
        | inl before ↦ Contains-append_left listing.addresses (at ∷ []) one before
        | inr new ↦ Contains-append_right listing.addresses (at ∷ []) one
            (subst (Contains (at ∷ [])) (sym new) (first_in at []))
      ]),
    )
pushed_members listing now at false was is one =
    subst (λ (l : Listing). Contains l.addresses one ↔ (Contains listing.addresses one ⊎ (one ≡ at))) (sym is) (
      (λ on. inl on),
      (λ either. elim either [
        | inl before ↦ before
        | inr new ↦ subst (Contains listing.addresses) (sym new) (there listing.addresses at was)
      ]),
    )
