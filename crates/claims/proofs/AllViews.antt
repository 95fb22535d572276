-- What the views of all seats have together, where the view of one is put.
use Rattle.std.proofs.Common.{◌≡◌, ◌⊎◌, inl, inr, ⊎_elim, ℕ, zero, suc, ◌+◌, List, [], ◌∷◌, ◌++◌, set, Contains}
use Rattle.std.proofs.Common.{refl, sym, ap, subst, ◌∙◌, arith, append-nil}
use Rattle.std.specs.List.{flat_map}
use Rattle.std.proofs.lemmas.List.Concat.{flat_map-append}
use Rattle.std.proofs.lemmas.List.Elements.{Contains-append_left, Contains-append_right, Contains-append_cases}
use mathlib.Core.Option.{some, some-injective, some-ne-none}
use lib.ListN.{get_elem?}
use Rattle.claims.specs.declared.view.Claim.{Claim}
use Rattle.claims.specs.declared.view.View.{View}
use Rattle.claims.specs.Claimed.{times}
use Rattle.claims.proofs.Counts.{times-append}

-- a view that was put in the place of one stands there
pub at_here : (views : List View) (j : ℕ) (v w : View) → get_elem? views j ≡ some v
    → get_elem? (set views j w) j ≡ some w
at_here [] j v w at = absurd (some-ne-none v (sym at))
at_here (view ∷ rest) zero v w at = refl
at_here (view ∷ rest) (suc j) v w at = at_here rest j v w at

-- of what each view has
module _ (has : View → List Claim) where
  -- what one view has, all have together
  pub in_all : (views : List View) (j : ℕ) (v : View) (claim : Claim) → get_elem? views j ≡ some v
      → Contains (has v) claim → Contains (flat_map has views) claim
  in_all [] j v claim at here = absurd (some-ne-none v (sym at))
  in_all (view ∷ rest) zero v claim at here =
      Contains-append_left (has view) (flat_map has rest) claim
      (subst (λ (one : View). Contains (has one) claim) (sym (some-injective view v at)) here)
  in_all (view ∷ rest) (suc j) v claim at here =
      Contains-append_right (has view) (flat_map has rest) claim (in_all rest j v claim at here)

  -- what all have once a view was put, that one has, or all had before
  pub after_set : (views : List View) (j : ℕ) (w : View) (claim : Claim) → Contains (flat_map has (set views j w)) claim
      → Contains (has w) claim ⊎ Contains (flat_map has views) claim
  after_set [] j w claim there = inr there
  after_set (view ∷ rest) zero w claim there =
      ⊎_elim (λ h. inl h) (λ h. inr (Contains-append_right (has view) (flat_map has rest) claim h))
      (Contains-append_cases (has w) (flat_map has rest) claim there)
  after_set (view ∷ rest) (suc j) w claim there =
      ⊎_elim (λ h. inr (Contains-append_left (has view) (flat_map has rest) claim h))
      (λ h. ⊎_elim (λ t. inl t) (λ t. inr (Contains-append_right (has view) (flat_map has rest) claim t))
      (after_set rest j w claim h))
      (Contains-append_cases (has view) (flat_map has (set rest j w)) claim there)

  -- what all had before a view was put, its place had, or all have still
  pub split_set : (views : List View) (j : ℕ) (v w : View) (claim : Claim) → get_elem? views j ≡ some v
      → Contains (flat_map has views) claim → Contains (has v) claim ⊎ Contains (flat_map has (set views j w)) claim
  split_set [] j v w claim at there = absurd (some-ne-none v (sym at))
  split_set (view ∷ rest) zero v w claim at there =
      ⊎_elim (λ h. inl (subst (λ (one : View). Contains (has one) claim) (some-injective view v at) h))
      (λ h. inr (Contains-append_right (has w) (flat_map has rest) claim h))
      (Contains-append_cases (has view) (flat_map has rest) claim there)
  split_set (view ∷ rest) (suc j) v w claim at there =
      ⊎_elim (λ h. inr (Contains-append_left (has view) (flat_map has (set rest j w)) claim h))
      (λ h. ⊎_elim (λ t. inl t) (λ t. inr (Contains-append_right (has view) (flat_map has (set rest j w)) claim t))
      (split_set rest j v w claim at h))
      (Contains-append_cases (has view) (flat_map has rest) claim there)

  -- so all have still what they had, where the view that was put has what its place had
  pub kept_set : (views : List View) (j : ℕ) (v w : View) → get_elem? views j ≡ some v
      → ((claim : Claim) → Contains (has v) claim → Contains (has w) claim)
      → (claim : Claim) → Contains (flat_map has views) claim → Contains (flat_map has (set views j w)) claim
  kept_set views j v w at more claim there =
      ⊎_elim (λ h. in_all (set views j w) j w claim (at_here views j v w at) (more claim h)) (λ h. h)
      (split_set views j v w claim at there)

  -- how often a place stands in what all have
  pub times_set : (views : List View) (j : ℕ) (v w : View) (place : ℕ) → get_elem? views j ≡ some v
      → times (flat_map has (set views j w)) place + times (has v) place
      ≡ times (flat_map has views) place + times (has w) place
  times_set [] j v w place at = absurd (some-ne-none v (sym at))
  times_set (view ∷ rest) zero v w place at =
      let same : times (has view) place ≡ times (has v) place =
      ap (λ (one : View). times (has one) place) (some-injective view v at) in
      omega (
        arith,
        same,
        times-append place (has w) (flat_map has rest),
        times-append place (has view) (flat_map has rest),
      )
  times_set (view ∷ rest) (suc j) v w place at =
      omega (
        arith,
        times_set rest j v w place at,
        times-append place (has view) (flat_map has (set rest j w)),
        times-append place (has view) (flat_map has rest),
      )

  -- one view more that has nothing
  pub more_nothing : (views : List View) (w : View) → has w ≡ [] → flat_map has (views ++ w ∷ []) ≡ flat_map has views
  more_nothing views w nothing =
      flat_map-append has views (w ∷ [])
      ∙ (ap (λ (l : List Claim). flat_map has views ++ (l ++ [])) nothing ∙ append-nil (flat_map has views))

  -- what all have with one view more, all had before, or that one has
  pub last_or_before : (views : List View) (w : View) (claim : Claim) → Contains (flat_map has (views ++ w ∷ [])) claim
      → Contains (flat_map has views) claim ⊎ Contains (has w) claim
  last_or_before views w claim there =
      ⊎_elim (λ h. inl h)
      (λ h. inr (subst (λ (claims : List Claim). Contains claims claim) (append-nil (has w)) h))
      (Contains-append_cases (flat_map has views) (has w ++ []) claim
      (subst (λ (claims : List Claim). Contains claims claim) (flat_map-append has views (w ∷ [])) there))
