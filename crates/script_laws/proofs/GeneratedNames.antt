-- Names that are all known are few.
use Rattle.std.proofs.Common.{◌≡◌, ◌≢◌, inl, inr, ℕ, zero, suc, ◌<◌, ◌≤◌, List, [], ◌∷◌, length, fold}
use Rattle.std.proofs.Common.{slice_index_or, bytes_eq, subst, arith}
use Rattle.std.specs.List.{AllPairs, Contains}
use Rattle.std.specs.Cmp.{IsEquivalence}
use Rattle.std.proofs.lemmas.Cmp.{nat_list_eq_equiv}
use Rattle.std.proofs.lemmas.Map.Made.{length-le_from_is_member, IsDistinct-from_AllPairs}
use Rattle.std.proofs.lemmas.Map.Views.{list_any-from_Contains}
use Rattle.std.proofs.lemmas.Slice.Eq.{bytes_eq-Decides}
use Rattle.script_text.specs.Names.{with_name}
use Rattle.script_laws.proofs.Naming.{only-fold, AllPairs-fold}
use Rattle.script_laws.proofs.GeneratedWords.{AreKnown, Contains-tested}

-- each of the names is known, and none stands twice
pub record AreAmong (known names : List (List ℕ)) : Type 0 where
  pub once : AllPairs (λ x y. x ≢ y) names
  pub all : (name : List ℕ) → Contains names name → Contains known name

-- no names are
pub AreAmong-none : (known : List (List ℕ)) → AreAmong known []
AreAmong-none known =
    record { once = λ i j d less lt. absurd (omega (arith, lt)); all = λ name h. absurd (omega (arith, h.1)) }

-- a known name at a place is known
known_at : (known names : List (List ℕ)) → AreKnown known names → (name : List ℕ) (k : ℕ) → k < length names
    → slice_index_or names k name ≡ name → Contains known name
known_at known [] h name k lt e = absurd (omega arith)
known_at known (first ∷ names) h name zero lt e = subst (Contains known) e h.0
known_at known (first ∷ names) h name (suc k) lt e = known_at known names h.1 name k (omega arith) e

-- what is in known names is known
known_has : (known names : List (List ℕ)) → AreKnown known names → (name : List ℕ) → Contains names name
    → Contains known name
known_has known names h name there = known_at known names h name there.0 there.1 there.2

-- names stay among the known ones where known ones are used
pub AreAmong-fold : (known uses names : List (List ℕ)) → AreKnown known uses → AreAmong known names
    → AreAmong known (fold with_name names uses)
AreAmong-fold known uses names h among =
    record {
      once = AllPairs-fold uses names among.once;
      all = λ name there. elim (only-fold uses names name there)
          [ inl old ↦ among.all name old | inr used ↦ known_has known uses h name used ];
    }

-- the test of names is an equivalence
laws : IsEquivalence bytes_eq
laws = nat_list_eq_equiv

-- there are no more of them than known ones
pub AreAmong-few : (known names : List (List ℕ)) → AreAmong known names → length names ≤ length known
AreAmong-few known names h =
    length-le_from_is_member laws names known (IsDistinct-from_AllPairs bytes_eq-Decides names h.once)
    (λ name there. list_any-from_Contains laws name known (h.all name (Contains-tested names name there)))
