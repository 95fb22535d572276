-- What flags come to where one is set, or none.
use Rattle.std.proofs.Common.{◌≡◌, ℕ, inl, inr, Bool, List, slice_get, refl, sym}
use Rattle.std.proofs.Common.{◌∙◌, ap, subst}
use Rattle.std.proofs.lemmas.Bool.{cases_eq}
use Rattle.heap_check.specs.Names.{SetsFlag, MarksAt}

-- where it holds of no address, no flag is set
pub marks_nowhere : {P : ℕ → Type 0} {flags : List Bool} → ((at : ℕ) → P at → ⊥) → MarksAt P flags flags
marks_nowhere none = record {
  as_many = refl;
  only = λ at set. inl set;
  kept = λ at set. set;
  set = λ at is. absurd (none at is);
}

-- where it holds of one alone, the flag of that one is
pub marks_one : {P : ℕ → Type 0} {old new : List Bool} {at : ℕ} → SetsFlag old new at → P at
    → ((other : ℕ) → P other → other ≡ at) → MarksAt P old new
marks_one {P} {old} {new} {at} sets is alone = record {
  as_many = sets.as_many;
  only = λ one set. elim (cases_eq one at) [
    | inl same ↦ inr (subst P (sym same) is)
    | inr apart ↦ inl (sym (sets.others one apart) ∙ set)
  ];
  kept = λ one set. elim (cases_eq one at) [
    | inl same ↦ ap (slice_get new) same ∙ sets.here
    | inr apart ↦ sets.others one apart ∙ set
  ];
  set = λ one is_one. ap (slice_get new) (alone one is_one) ∙ sets.here;
}
