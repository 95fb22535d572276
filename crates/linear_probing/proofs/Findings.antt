-- What probing finds, and what stays found.
use Rattle.std.proofs.Common.{ℕ, ◌<◌, ◌≤◌, ◌≡◌, ◌≢◌, List, length, slice_get, slice_set, Option, Some, None}
use Rattle.std.proofs.Common.{replicate, inl, inr, sym, ap, subst, ◌∙◌, arith}
use Rattle.std.proofs.lemmas.Bool.{cases_eq, cases_order}
use Rattle.std.proofs.lemmas.List.{length-set}
use Rattle.linear_probing.specs.Tables.{place_after, steps_to, EndsAt, FindsAll, HoldsNumber, IsFree, IsProbed}
use Rattle.linear_probing.proofs.Places.{free_before, free_within, holds_not_free, none_holds, same_number}
use Rattle.linear_probing.proofs.Places.{slice_get-set_other, slice_get-set_same}
use Rattle.linear_probing.proofs.Rounds.{place_after-steps_to, steps_to-place_after, steps_to_few}

-- probing for a number comes to each place, in fewer steps than there are places
pub comes_everywhere : (capacity number at : ℕ) → at < capacity
    → (steps : ℕ) × (steps < capacity) × (at ≡ place_after capacity number steps)
comes_everywhere capacity number at within = (
  steps_to capacity number at,
  steps_to_few capacity number at (omega arith),
  sym (place_after-steps_to capacity number at within),
)

-- where probing comes to a place, it takes the steps to that
pub probed_steps : (table : List (Option ℕ)) (number at : ℕ) → (probed : IsProbed None table number at)
    → steps_to (length table) number at ≡ probed.steps
probed_steps table number at probed =
    ap (steps_to (length table) number) probed.comes
    ∙ steps_to-place_after (length table) number probed.steps probed.within

-- in a table of as many places, none of which is newly free, probing comes to each place of its way
pub probed_before : (old new : List (Option ℕ)) (number at : ℕ) → length new ≡ length old
    → ((place : ℕ) → IsFree new place → IsFree old place) → (probed : IsProbed None old number at) → (steps : ℕ)
    → steps ≤ probed.steps → IsProbed None new number (place_after (length old) number steps)
probed_before old new number at same less probed steps few =
    let far : probed.steps < length old = probed.within in
    record {
      steps = steps;
      within = omega arith;
      comes = ap (λ (n : ℕ). place_after n number steps) (sym same);
      filled = λ before sooner free. probed.filled before (omega arith)
          (less (place_after (length old) number before)
          (subst (λ (n : ℕ). IsFree new (place_after n number before)) same free));
    }

-- in a table of as many places, each of which is free only if it was free in the other, what was found is found
pub still_probed : {A B : Type 0} {free : A} {freed : B} (old : List A) (new : List B) (number at : ℕ)
    → length new ≡ length old → ((place : ℕ) → slice_get new place ≡ Some freed → slice_get old place ≡ Some free)
    → IsProbed free old number at → IsProbed freed new number at
still_probed {freed = freed} old new number at same less probed = record {
  steps = probed.steps;
  within = omega (arith, same, probed.within);
  comes = probed.comes ∙ ap (λ (n : ℕ). place_after n number probed.steps) (sym same);
  filled = λ before sooner free. probed.filled before sooner
      (less (place_after (length old) number before)
      (subst (λ (n : ℕ). slice_get new (place_after n number before) ≡ Some freed) same free));
}

-- likewise where a number is put somewhere
pub probed_with_put : (table : List (Option ℕ)) (place put number at : ℕ) → IsProbed None table number at
    → IsProbed None (slice_set table place (Some put)) number at
probed_with_put table place put number at probed =
    still_probed table (slice_set table place (Some put)) number at (length-set table place (Some put))
    (free_before table place put) probed

-- where probing for a number ends at a free place of a table that finds all, the number stands nowhere
pub none_where_free : (table : List (Option ℕ)) (number at : ℕ) → FindsAll table → EndsAt table number at
    → IsFree table at → (other : ℕ) → HoldsNumber table other number → ⊥
none_where_free table number at all ends free other holds =
    let probed : IsProbed None table number other = all other number holds in
    elim (cases_order probed.steps ends.steps) [
      | inl same ↦
          holds_not_free table at number
          (subst (λ (place : ℕ). HoldsNumber table place number)
          (probed.comes ∙ ap (place_after (length table) number) same ∙ sym ends.comes) holds) free
      | inr (inl sooner) ↦
          ends.unmet probed.steps sooner (subst (λ (place : ℕ). HoldsNumber table place number) probed.comes holds)
      | inr (inr later) ↦ probed.filled ends.steps later (subst (IsFree table) ends.comes free)
    ]

-- a table that holds nothing finds all
pub empty_finds_all : (capacity : ℕ) → FindsAll (replicate capacity None)
empty_finds_all capacity at number holds = absurd (none_holds capacity at number holds)

-- where probing ends, no place before is free
pub ends_probed : (table : List (Option ℕ)) (number at : ℕ) → EndsAt table number at → IsProbed None table number at
ends_probed table number at ends =
    record { steps = ends.steps; within = ends.within; comes = ends.comes; filled = ends.filled }

-- a number that stands elsewhere than the one that was put stood there before
pub holds_before : (table : List (Option ℕ)) (at : ℕ) (put : Option ℕ) (other number : ℕ) → other ≢ at
    → HoldsNumber (slice_set table at put) other number → HoldsNumber table other number
holds_before table at put other number apart holds = sym (slice_get-set_other table at other put apart) ∙ holds

-- the number at the place where one was put is that one
pub put_is_number : (table : List (Option ℕ)) (at put other number : ℕ) → at < length table → other ≡ at
    → HoldsNumber (slice_set table at (Some put)) other number → put ≡ number
put_is_number table at put other number within same holds =
    same_number (slice_set table at (Some put)) at put number (slice_get-set_same table at (Some put) within)
    (subst (λ (place : ℕ). HoldsNumber (slice_set table at (Some put)) place number) same holds)

-- what is said of the place and the number that were put is said of those that are the same
pub at_put : (P : ℕ → ℕ → Type 0) (at put other number : ℕ) → other ≡ at → put ≡ number
    → P put at → P number other
at_put P at put other number place same holds =
    subst (λ (n : ℕ). P n other) same (subst (P put) (sym place) holds)

-- with the number put at a place to which probing for it comes the table finds all again
pub put_is_probed : (table : List (Option ℕ)) (number at : ℕ) → FindsAll table → IsProbed None table number at
    → at < length table → FindsAll (slice_set table at (Some number))
put_is_probed table number at all probed within other held holds =
    elim (cases_eq other at) [
      | inl same ↦
          at_put (IsProbed None (slice_set table at (Some number))) at number other held same
          (put_is_number table at number other held within same holds)
          (probed_with_put table at number number at probed)
      | inr apart ↦
          probed_with_put table at number held other
          (all other held (holds_before table at (Some number) other held apart holds))
    ]

-- so it does with the number put where probing for it ends
pub put_is_found : (table : List (Option ℕ)) (number at : ℕ) → FindsAll table → EndsAt table number at
    → IsFree table at → FindsAll (slice_set table at (Some number))
put_is_found table number at all ends free =
    put_is_probed table number at all (ends_probed table number at ends) (free_within table at free)
