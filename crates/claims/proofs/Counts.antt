-- How often places stand in lists of claims.
use Rattle.std.proofs.Common.{◌≡◌, ◌≢◌, ℕ, ◌+◌, ◌==◌, Bool, cond, List, [], ◌∷◌, ◌++◌}
use Rattle.std.proofs.Common.{Contains, refl, ap, ◌∙◌, eq-eqb, ne_eqb, arith, append-nil}
use Rattle.std.proofs.lemmas.List.Concat.{flat_map-append}
use Rattle.std.proofs.lemmas.List.Elements.{Contains-append_left, Contains-append_right, Contains-push}
use Rattle.std.proofs.lemmas.List.Sums.{sum_by-cons, sum_by-append}
use mathlib.Core.Logic.{dite}
use native.Mathlib.Decide.{ℕ_discrete}
use Rattle.claims.specs.declared.view.Claim.{Claim}
use Rattle.claims.specs.Claimed.{times, together}

-- one if the claim is of the place, else none
abbrev pub one_of : ℕ → Claim → ℕ
one_of place claim = cond (claim.place == place) 1 0

-- the claims of two lists
pub times-append : (place : ℕ) (these those : List Claim)
    → times (these ++ those) place ≡ times these place + times those place
times-append place these those = sum_by-append (one_of place) these those

-- one claim more
pub times-cons : (place : ℕ) (claim : Claim) (claims : List Claim)
    → times (claim ∷ claims) place ≡ one_of place claim + times claims place
times-cons place claim claims = sum_by-cons (one_of place) claim claims

-- a claim counts for its place, and for no other
pub one_here : (place : ℕ) (claim : Claim) → claim.place ≡ place → one_of place claim ≡ 1
one_here place claim same = ap (λ (b : Bool). let n : ℕ = cond b 1 0 in n) (eq-eqb claim.place place same)

pub one_else : (place : ℕ) (claim : Claim) → claim.place ≢ place → one_of place claim ≡ 0
one_else place claim other = ap (λ (b : Bool). let n : ℕ = cond b 1 0 in n) (ne_eqb claim.place place other)

-- a place that stands in claims is that of one of them
pub times_some : (place : ℕ) (claims : List Claim) → times claims place ≢ 0
    → (claim : Claim) × Contains claims claim × (claim.place ≡ place)
times_some place [] some = absurd (some refl)
times_some place (claim ∷ claims) some = dite (ℕ_discrete claim.place place)
    (λ same. (claim, Contains-append_left (claim ∷ []) claims claim (Contains-push [] claim), same))
    (λ other.
    let more : times claims place ≢ 0 =
    λ none. some (times-cons place claim claims ∙ omega (arith, none, one_else place claim other)) in
    let found = times_some place claims more in
    (found.0, Contains-append_right (claim ∷ []) claims found.0 found.1, found.2))

-- so one that is that of none stands in them at no time
pub times_none : (place : ℕ) (claims : List Claim) → ((claim : Claim) → Contains claims claim → claim.place ≡ place → ⊥)
    → times claims place ≡ 0
times_none place claims none = dite (ℕ_discrete (times claims place) 0) (λ e. e)
    (λ some. let found = times_some place claims some in absurd (none found.0 found.1 found.2))

-- one list more among lists
pub together-push : (lists : List (List Claim)) (list : List Claim)
    → together (lists ++ list ∷ []) ≡ together lists ++ list
together-push lists list =
    flat_map-append (λ (l : List Claim). l) lists (list ∷ [])
    ∙ ap (λ (l : List Claim). together lists ++ l) (append-nil list)
