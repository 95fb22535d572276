-- What was claimed, as lists.
use Rattle.std.specs.Prelude.{ℕ, ◌≤◌, ◌==◌, List, Contains}
use Rattle.std.specs.List.{count_by, flat_map}
use Rattle.claims.specs.declared.view.Claim.{Claim}

-- the claim of a place for a value
abbrev pub claim_of : ℕ → ℕ → Claim
claim_of place value = record { place = place; value = value }

-- how often a place stands in these claims
abbrev pub times : List Claim → ℕ → ℕ
times claims place = count_by (λ claim. claim.place == place) claims

-- no place stands twice in these claims
abbrev pub AreApart : List Claim → Type 0
AreApart claims = (place : ℕ) → times claims place ≤ 1

-- each of these claims is one of those
abbrev pub AreAmong : List Claim → List Claim → Type 0
AreAmong these those = (claim : Claim) → Contains these claim → Contains those claim

-- the claims of all lists, one list after another
abbrev pub together : List (List Claim) → List Claim
together lists = flat_map (λ list. list) lists
