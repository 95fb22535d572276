-- Which cells were given as seen: the first so many of the list.
use Rattle.std.proofs.Common.{◌≡◌, ℕ, ◌+◌, ◌<◌, ◌≤◌, ◌⊎◌, ◌↔◌, inl, inr, List, [], ◌∷◌, ◌++◌, Some, Contains, slice_get}
use Rattle.std.proofs.Common.{Bool, true, false, IsTrue, if◌then◌else◌, length, take, refl, sym, ◌∙◌, ap, subst, arith}
use Rattle.std.proofs.lemmas.Bool.{cases_lt}
use Rattle.std.proofs.lemmas.Option.{same_Some}
use Rattle.std.proofs.lemmas.List.{length-take, take-append-le}
use Rattle.std.proofs.lemmas.List.Elements.{Contains-push_cases, Contains-append_left}
use Rattle.heap_model.proofs.CellWords.{slice_get-take, slice_get-append_left}
use Rattle.cell_list.specs.Listing.{Listing, pushed}
use Rattle.cell_list.proofs.Flags.{last_in}
use Rattle.live_cells.proofs.ObjectTargets.{at_is_in}
use Rattle.live_cells.proofs.MarkedLinks.{element_at}
use Rattle.ephemeron_mark.proofs.AddedWaits.{push_of_listed}

-- an element at one of the first places is one of the first elements
pub among_first : (all : List ℕ) (count place at : ℕ) → place < count → slice_get all place ≡ Some at
    → Contains (take count all) at
among_first all count place at below there =
    at_is_in (take count all) place at (slice_get-take count all place below ∙ there)

-- the place of one of the first elements
pub record IsFirst (all : List ℕ) (count at : ℕ) : Type 0 where
  pub place : ℕ
  pub below : place < count
  pub there : slice_get all place ≡ Some at

-- each of the first elements stands at one of the first places
pub first_among : (all : List ℕ) (count at : ℕ) → Contains (take count all) at → IsFirst all count at
first_among all count at there =
    let below : there.0 < count = omega (arith, there.1, length-take count all) in
    record {
      place = there.0;
      below = below;
      there = sym (slice_get-take count all there.0 below) ∙ element_at (take count all) at there;
    }

module _ (old mid new : List ℕ) (count at : ℕ) (few : count ≤ length old) (pushed : mid ≡ old ++ at ∷ [])
    (before : (other : ℕ) → other < count → slice_get new other ≡ slice_get mid other)
    (here : slice_get new count ≡ Some at) where
  -- what stands at the first places stood there
  stood_before : (place : ℕ) → place < count → slice_get new place ≡ slice_get old place
  stood_before place below =
      before place below ∙ ap (λ (all : List ℕ). slice_get all place) pushed
      ∙ slice_get-append_left old (at ∷ []) place (omega (arith, below, few))

  -- so with one more there are the first ones and that
  pub first_pushed : (other : ℕ)
      → Contains (take (count + 1) new) other ↔ (Contains (take count old) other ⊎ (other ≡ at))
  first_pushed other = (
    λ there.
        let first = first_among new (count + 1) other there in
        elim (cases_lt first.place count) [
          | inl earlier ↦
              inl (among_first old count first.place other earlier
              (sym (stood_before first.place earlier) ∙ first.there))
          | inr last ↦
              let same : first.place ≡ count = omega (arith, last, first.below) in
              inr (same_Some other at (sym first.there ∙ ap (slice_get new) same ∙ here))
        ],
    λ either. elim either [
      | inl earlier ↦
          let first = first_among old count other earlier in
          among_first new (count + 1) first.place other (omega (arith, first.below))
          (stood_before first.place first.below ∙ first.there)
      | inr same ↦ among_first new (count + 1) count other (omega arith) (here ∙ ap (λ (one : ℕ). Some one) (sym same))
    ],
  )

-- by whether it was new
by_push : (old : Listing) (at : ℕ) (was_new : Bool) → (IsTrue was_new ↔ (¬ Contains old.addresses at))
    → (other : ℕ) → Contains (if was_new then pushed old at else old).addresses other
    ↔ (Contains old.addresses other ⊎ (other ≡ at))
by_push old at true told other = (
  λ there. elim (Contains-push_cases old.addresses at other there) [
    | inl before ↦ inl before
    | inr last ↦ inr (sym last)
  ],
  λ either. elim either [
    | inl before ↦ Contains-append_left old.addresses (at ∷ []) other before
    | inr same ↦ subst (Contains (old.addresses ++ at ∷ [])) (sym same) (last_in old.addresses at)
  ],
)
by_push old at false told other = (
  λ there. inl there,
  λ either. elim either [
    | inl before ↦ before
    | inr same ↦ subst (Contains old.addresses) (sym same)
        (push_of_listed old old at false refl refl told).1
  ],
)

-- where an address is pushed, those are listed that were, and it
pub given_pushed : (old new : Listing) (at : ℕ) (was_new : Bool) → (IsTrue was_new ↔ (¬ Contains old.addresses at))
    → new ≡ (if was_new then pushed old at else old)
    → (other : ℕ) → Contains new.addresses other ↔ (Contains old.addresses other ⊎ (other ≡ at))
given_pushed old new at was_new told is =
    subst (λ (one : Listing). (other : ℕ) → Contains one.addresses other
    ↔ (Contains old.addresses other ⊎ (other ≡ at)))
    (sym is) (by_push old at was_new told)

-- and the first ones are those that they were
pub first_stay : (old new : Listing) (count at : ℕ) (was_new : Bool) → count ≤ length old.addresses
    → new ≡ (if was_new then pushed old at else old) → take count new.addresses ≡ take count old.addresses
first_stay old new count at true few is =
    ap (λ (one : Listing). take count one.addresses) is ∙ take-append-le count old.addresses (at ∷ []) few
first_stay old new count at false few is = ap (λ (one : Listing). take count one.addresses) is
