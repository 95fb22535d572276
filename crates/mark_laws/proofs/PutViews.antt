-- Views that are put in a list, or behind it.
use Rattle.std.proofs.Common.{ℕ, zero, suc, ◌≡◌, ◌⊎◌, inl, inr, List, [], ◌∷◌, ◌++◌, slice_get, slice_set}
use Rattle.std.proofs.Common.{Some, refl, ap}
use Rattle.tagged_word.proofs.Cells.{some_same}
use Rattle.mark_laws.specs.Types.{HelperView}

-- a view that is there once one was put is that one, or was there
pub put_cases : (views : List HelperView) (number : ℕ) (put : HelperView) (k : ℕ) (view : HelperView)
    → slice_get (slice_set views number put) k ≡ Some view
    → ((number ≡ k) × (put ≡ view)) ⊎ (slice_get views k ≡ Some view)
put_cases [] number put k view e = inr e
put_cases (first ∷ rest) zero put zero view e = inl (refl, some_same refl e)
put_cases (first ∷ rest) zero put (suc k) view e = inr e
put_cases (first ∷ rest) (suc number) put zero view e = inr e
put_cases (first ∷ rest) (suc number) put (suc k) view e = elim (put_cases rest number put k view e) [
  | inl is ↦ inl (ap (λ n. suc n) is.0, is.1)
  | inr was ↦ inr was
]

-- a view that is there once one came behind all is that one, or was there
pub behind_cases : (views : List HelperView) (new : HelperView) (k : ℕ) (view : HelperView)
    → slice_get (views ++ new ∷ []) k ≡ Some view → (new ≡ view) ⊎ (slice_get views k ≡ Some view)
behind_cases [] new zero view e = inl (some_same refl e)
behind_cases [] new (suc k) view e = cc
behind_cases (first ∷ rest) new zero view e = inr e
behind_cases (first ∷ rest) new (suc k) view e = behind_cases rest new k view e
