-- Where cells stand after a sweep, as a function of addresses.
use Rattle.std.proofs.Common.{◌≡◌, ◌≢◌, ℕ, inl, inr, List, [], ◌∷◌, Bool, true, false, Some, cond, ◌==◌, Contains}
use Rattle.std.proofs.Common.{sym, ◌∙◌}
use Rattle.std.proofs.Common.{ap, subst, arith}
use Rattle.std.proofs.lemmas.Bool.{cases_eq}
use Rattle.std.proofs.lemmas.Bool.Decides.{nat_tests}
use Rattle.std.proofs.lemmas.Option.{same_Some}
use Rattle.tagged_word.proofs.Members.{first_in, rest_in, in_cases}
use Rattle.heap_model.proofs.BoundHeaps.{none_in}
use Rattle.sweeper.specs.Swept.{place_if_marked}

-- the first one is it
place_of_first : (one : ℕ) (more : List ℕ) (at : ℕ) → one ≡ at → place_if_marked (one ∷ more) at ≡ Some at
place_of_first one more at same =
    let found : (one == at) ≡ true = grind (arith, nat_tests, same) in
    ap (λ (test : Bool). cond test (Some at) (place_if_marked more at)) found

-- it is not the first one
place_of_others : (one : ℕ) (more : List ℕ) (at : ℕ) → one ≢ at
    → place_if_marked (one ∷ more) at ≡ place_if_marked more at
place_of_others one more at other =
    let passed : (one == at) ≡ false = grind (arith, nat_tests, other) in
    ap (λ (test : Bool). cond test (Some at) (place_if_marked more at)) passed

-- a marked cell stands where it stood
pub place_of_marked : (marked : List ℕ) (at : ℕ) → Contains marked at → place_if_marked marked at ≡ Some at
place_of_marked [] at there = absurd (none_in at there)
place_of_marked (one ∷ more) at there = elim (cases_eq one at) [
  | inl same ↦ place_of_first one more at same
  | inr other ↦ elim (in_cases one more at there) [
    | inl same ↦ absurd (other same)
    | inr later ↦ place_of_others one more at other ∙ place_of_marked more at later
  ]
]

-- what stands somewhere is marked, and stood there
pub record IsKept (marked : List ℕ) (at now : ℕ) : Type 0 where
  pub same : at ≡ now
  pub among : Contains marked at

-- so it is
pub place_is_kept : (marked : List ℕ) (at now : ℕ) → place_if_marked marked at ≡ Some now → IsKept marked at now
place_is_kept [] at now is = cc
place_is_kept (one ∷ more) at now is = elim (cases_eq one at) [
  | inl same ↦ record {
    same = same_Some at now (sym (place_of_first one more at same) ∙ is);
    among = subst (Contains (one ∷ more)) same (first_in one more);
  }
  | inr other ↦
      let later = place_is_kept more at now (sym (place_of_others one more at other) ∙ is) in
      record { same = later.same; among = rest_in one more at later.among }
]
