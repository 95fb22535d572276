-- Words that are moved, there and back.
use Rattle.std.proofs.Common.{◌≡◌, ℕ, ◌⊎◌, inl, inr, List, [], ◌∷◌, Option, Some, Contains, sym, ◌∙◌, subst, arith}
use Rattle.std.proofs.lemmas.Bool.{cases_eq}
use Rattle.tagged_word.proofs.Members.{first_in, rest_in, in_cases}
use Rattle.heap_model.specs.Slots.{reference_word}
use Rattle.heap_model.proofs.WordClasses.{same_reference}
use Rattle.heap_moves.specs.Moved.{IsMovedWord}

-- where a reference that is moved leads
pub record IsReferred (to : ℕ → Option ℕ) (at new : ℕ) : Type 0 where
  pub now : ℕ
  pub stays : to at ≡ Some now
  pub refers : new ≡ reference_word now

-- a reference that is moved leads to where that stands to which it led
pub referred : {to : ℕ → Option ℕ} {old new : ℕ} (at : ℕ) → IsMovedWord to old new → old ≡ reference_word at
    → IsReferred to at new
referred {to} at (IsMovedWord.reference other now was stays is) same =
    let at_it = same_reference other at (sym was ∙ same) in
    record { now = now; stays = subst (λ n. to n ≡ Some now) at_it stays; refers = is }
referred at (IsMovedWord.other none is) same = absurd (none at same)

-- a word that is no reference is as it was
pub not_referred : {to : ℕ → Option ℕ} {old new : ℕ} → IsMovedWord to old new
    → ((at : ℕ) → old ≡ reference_word at → ⊥) → new ≡ old
not_referred (IsMovedWord.reference at now was stays is) none = absurd (none at was)
not_referred (IsMovedWord.other none' is) none = is

-- what a reference was before it was moved
pub record WasReferred (to : ℕ → Option ℕ) (old now : ℕ) : Type 0 where
  pub at : ℕ
  pub refers : old ≡ reference_word at
  pub stays : to at ≡ Some now

-- a reference was one to what came where it leads
pub was_referred : {to : ℕ → Option ℕ} {old new : ℕ} (now : ℕ) → IsMovedWord to old new → new ≡ reference_word now
    → WasReferred to old now
was_referred {to} now (IsMovedWord.reference at there was stays is) same =
    let at_it = same_reference there now (sym is ∙ same) in
    record { at = at; refers = was; stays = subst (λ n. to at ≡ Some n) at_it stays }
was_referred now (IsMovedWord.other none is) same = absurd (none now (sym is ∙ same))

-- a number is in a list or not
pub contains_or_not : (xs : List ℕ) (x : ℕ) → Contains xs x ⊎ (Contains xs x → ⊥)
contains_or_not [] x = inr (λ there. omega (arith, there.1))
contains_or_not (y ∷ ys) x =
    elim (cases_eq y x) [
      | inl same ↦ inl (subst (λ (one : ℕ). Contains (y ∷ ys) one) same (first_in y ys))
      | inr other ↦ elim (contains_or_not ys x) [
        | inl there ↦ inl (rest_in y ys x there)
        | inr none ↦ inr (λ there. elim (in_cases y ys x there) [ inl same ↦ other same | inr later ↦ none later ])
      ]
    ]
