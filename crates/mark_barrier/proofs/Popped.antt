-- A cell is taken off a list, the last one.
use Rattle.std.proofs.Common.{◌≡◌, ◌≢◌, inl, inr, ℕ, ◌+◌, [], ◌∷◌, Contains, length, refl, sym, ap, subst, ◌∙◌, arith}
use Rattle.std.proofs.Common.{length-append, Option, Some, None}
use Rattle.std.specs.Prelude.{MatchOption}
use Rattle.std.proofs.lemmas.List.Elements.{Contains-append_left, Contains-push, Contains-push_cases}
use Rattle.cell_list.specs.Listing.{Listing, pushed}
use Rattle.mark_barrier.specs.Waiting.{IsEmpty, TakesOff}

module _ (list rest : Listing) (at : ℕ) (last : list ≡ pushed rest at) where
  -- it was listed
  pub was_listed : Contains list.addresses at
  was_listed = subst (λ (l : Listing). Contains l.addresses at) (sym last) (Contains-push rest.addresses at)

  -- what was listed is still, or is that cell
  pub still_listed : (one : ℕ) → Contains list.addresses one → one ≢ at → Contains rest.addresses one
  still_listed one on other =
      elim (Contains-push_cases rest.addresses at one (subst (λ (l : Listing). Contains l.addresses one) last on)) [
        | inl before ↦ before
        | inr is ↦ absurd (other (sym is))
      ]

  -- what is listed was
  pub listed_before : (one : ℕ) → Contains rest.addresses one → Contains list.addresses one
  listed_before one on =
      subst (λ (l : Listing). Contains l.addresses one) (sym last)
      (Contains-append_left rest.addresses (at ∷ []) one on)

  -- one fewer is listed
  one_fewer : length list.addresses ≡ length rest.addresses + 1
  one_fewer = ap (λ (l : Listing). length l.addresses) last ∙ length-append rest.addresses (at ∷ [])

  module _ (other : Listing) (bound : rest.bound ≡ list.bound) where
    -- so one of those that wait is taken off, where it was listed
    pub off_list : TakesOff (record { list = list; passed = other }) (record { list = rest; passed = other }) at
    off_list = record {
      list = bound;
      passed = refl;
      was = inl was_listed;
      others = λ one on apart. elim on [
        | inl listed ↦ inl (still_listed one listed apart)
        | inr over ↦ inr over
      ];
      none_more = λ one on. elim on [ inl listed ↦ inl (listed_before one listed) | inr over ↦ inr over ];
      over = λ one on. on;
      fewer = omega (arith, one_fewer);
    }

    -- and where it was passed over
    pub off_passed : TakesOff (record { list = other; passed = list }) (record { list = other; passed = rest }) at
    off_passed = record {
      list = refl;
      passed = bound;
      was = inr was_listed;
      others = λ one on apart. elim on [
        | inl listed ↦ inl listed
        | inr over ↦ inr (still_listed one over apart)
      ];
      none_more = λ one on. elim on [ inl listed ↦ inl listed | inr over ↦ inr (listed_before one over) ];
      over = listed_before;
      fewer = omega (arith, one_fewer);
    }

-- where none is listed, one is taken off that was passed over, if there is one
pub off_other : (list rest other : Listing) (result : Option ℕ) → other.addresses ≡ []
    → MatchOption result (list.addresses ≡ []) (λ at. list ≡ pushed rest at) → rest.bound ≡ list.bound
    → MatchOption result (IsEmpty (record { list = other; passed = list }))
    (TakesOff (record { list = other; passed = list }) (record { list = other; passed = rest }))
off_other list rest other None none last bound = record { list = none; passed = last }
off_other list rest other (Some at) none last bound = off_passed list rest at last other bound
