-- What is decided of each number or of each element of a list can be listed.
use Rattle.std.proofs.Common.{◌≡◌, ℕ, zero, suc, ◌<◌, ◌⊎◌, inl, inr, List, [], ◌∷◌, Contains, Option, Some, None}
use Rattle.std.proofs.Common.{sym, ap, subst, arith}
use Rattle.std.proofs.lemmas.Bool.{cases_eq}
use Rattle.std.proofs.lemmas.Option.{none-some, same_Some}
use Rattle.tagged_word.proofs.Members.{first_in, rest_in, in_cases}
use Rattle.heap_model.proofs.BoundHeaps.{none_in}

-- it holds, or it doesn't
abbrev pub IsDecided : Type 0 → Type 0
IsDecided P = P ⊎ (P → ⊥)

-- so it is whether it holds of some element of a list, where it is of each
pub some_decided : {X : Type 0} (P : X → Type 0) (xs : List X) → ((x : X) → Contains xs x → IsDecided (P x))
    → IsDecided ((x : X) × Contains xs x × P x)
some_decided P [] each = inr (λ some. none_in some.0 some.1)
some_decided P (x ∷ xs) each = elim (each x (first_in x xs)) [
  | inl is ↦ inl (x, first_in x xs, is)
  | inr none ↦ elim (some_decided P xs (λ y there. each y (rest_in x xs y there))) [
    | inl some ↦ inl (some.0, rest_in x xs some.0 some.1, some.2)
    | inr none_too ↦ inr (λ some. elim (in_cases x xs some.0 some.1) [
      | inl same ↦ none (subst P (sym same) some.2)
      | inr there ↦ none_too (some.0, there, some.2)
    ])
  ]
]

-- whether an option is a number
pub is_decided : (found : Option ℕ) (n : ℕ) → IsDecided (found ≡ Some n)
is_decided None n = inr (λ is. none-some n is)
is_decided (Some m) n = elim (cases_eq m n) [
  | inl same ↦ inl (ap (λ one. Some one) same)
  | inr other ↦ inr (λ is. other (same_Some m n is))
]

-- exactly the numbers below another of which something holds, as a list
pub record IsListed (P : ℕ → Type 0) (below : ℕ) : Type 0 where
  pub list : List ℕ
  pub few : (at : ℕ) → Contains list at → at < below
  pub from : (at : ℕ) → Contains list at → P at
  pub all : (at : ℕ) → at < below → P at → Contains list at

-- they can be listed, where it is decided of each
pub listed : (P : ℕ → Type 0) → ((at : ℕ) → IsDecided (P at)) → (below : ℕ) → IsListed P below
listed P each zero = record {
  list = [];
  few = λ at there. absurd (none_in at there);
  from = λ at there. absurd (none_in at there);
  all = λ at few. absurd (omega (arith, few));
}
listed P each (suc last) =
    let before = listed P each last in
    elim (each last) [
      | inl is ↦ record {
        list = last ∷ before.list;
        few = λ at there. elim (in_cases last before.list at there) [
          | inl same ↦ omega (arith, same)
          | inr later ↦ omega (arith, before.few at later)
        ];
        from = λ at there. elim (in_cases last before.list at there) [
          | inl same ↦ subst P same is
          | inr later ↦ before.from at later
        ];
        all = λ at few holds. elim (cases_eq at last) [
          | inl same ↦ subst (Contains (last ∷ before.list)) (sym same) (first_in last before.list)
          | inr other ↦ rest_in last before.list at (before.all at (omega (arith, few, other)) holds)
        ];
      }
      | inr none ↦ record {
        list = before.list;
        few = λ at there. omega (arith, before.few at there);
        from = before.from;
        all = λ at few holds. elim (cases_eq at last) [
          | inl same ↦ absurd (none (subst P same holds))
          | inr other ↦ before.all at (omega (arith, few, other)) holds
        ];
      }
    ]
