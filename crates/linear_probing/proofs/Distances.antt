-- How far the numbers of a table stand from their homes, all together.
use Rattle.std.proofs.Common.{ℕ, suc, zero, ◌+◌, ◌-◌, ◌<◌, ◌≤◌, ◌≡◌, ◌≢◌, List, [], ◌∷◌}
use Rattle.std.proofs.Common.{length, slice_get, slice_set, Option, Some, None, sym, ap, ◌∙◌, arith}
use Rattle.std.proofs.lemmas.List.{set-set}
use Rattle.linear_probing.specs.Tables.{place_after, steps_to, HoldsNumber}
use Rattle.linear_probing.proofs.Places.{slice_get-set_other, slice_get-set_same}
use Rattle.linear_probing.proofs.Rounds.{place_after-steps_to, place_after_within, place_before, steps_to-place_after}
use Rattle.linear_probing.proofs.Rounds.{steps_to_few}

-- how many steps probing takes to a place for the number there
abbrev pub distance : ℕ → ℕ → Option ℕ → ℕ
distance capacity at None = 0
distance capacity at (Some number) = steps_to capacity number at

-- the distances of all numbers, where the first of the places is at `from`
abbrev pub distances : ℕ → ℕ → List (Option ℕ) → ℕ
distances capacity from [] = 0
distances capacity from (first ∷ table) = distance capacity from first + distances capacity (from + 1) table

-- what stands at a place is one thing
same_item : (first old : Option ℕ) → ◌≡◌ {A = Option (Option ℕ)} (Some first) (Some old) → first ≡ old
same_item first old same = cc

-- what is put at a place counts instead of what stood there
distances-set : (capacity from at place : ℕ) (table : List (Option ℕ)) (old put : Option ℕ) → at ≡ from + place
    → slice_get table place ≡ Some old
    → distances capacity from (slice_set table place put) + distance capacity at old
    ≡ distances capacity from table + distance capacity at put
distances-set capacity from at place [] old put is holds = cc
distances-set capacity from at zero (first ∷ table) old put is holds =
    let here : at ≡ from = omega arith in
    let was : distance capacity from first ≡ distance capacity at old =
    ap (distance capacity from) (same_item first old holds) ∙ ap (λ (p : ℕ). distance capacity p old) (sym here) in
    let now : distance capacity from put ≡ distance capacity at put =
    ap (λ (p : ℕ). distance capacity p put) (sym here) in
    omega arith
distances-set capacity from at (suc place) (first ∷ table) old put is holds =
    let rest : distances capacity (from + 1) (slice_set table place put) + distance capacity at old
    ≡ distances capacity (from + 1) table + distance capacity at put =
    distances-set capacity (from + 1) at place table old put (omega arith) holds in
    omega arith

-- a number that moves back over the places that were passed stands as much nearer to its home
nearer : (capacity number hole back : ℕ) → hole < capacity → back < capacity
    → back ≤ steps_to capacity number (place_after capacity hole back)
    → steps_to capacity number hole + back ≡ steps_to capacity number (place_after capacity hole back)
nearer capacity number hole back within few far =
    let next : ℕ = place_after capacity hole back in
    let steps : ℕ = steps_to capacity number next in
    let some : 0 < capacity = omega arith in
    let fewer : steps < capacity = steps_to_few capacity number next some in
    let place : place_after capacity number (steps - back) ≡ hole =
    place_before capacity number steps hole back within far fewer
    (place_after-steps_to capacity number next (place_after_within capacity hole back some)) in
    let same : steps_to capacity number hole ≡ steps - back =
    ap (steps_to capacity number) (sym place)
    ∙ steps_to-place_after capacity number (steps - back) (omega arith) in
    omega arith

-- so the numbers stand nearer to their homes after it moved
pub moves_nearer : (table : List (Option ℕ)) (capacity hole back number : ℕ) → capacity ≡ length table → hole < capacity
    → 0 < back → back < capacity → place_after capacity hole back ≢ hole
    → HoldsNumber table (place_after capacity hole back) number
    → back ≤ steps_to capacity number (place_after capacity hole back)
    → distances capacity 0 (slice_set (slice_set table hole (Some number)) (place_after capacity hole back) None)
    < distances capacity 0 (slice_set table hole None)
moves_nearer table capacity hole back number is within some few apart holds far =
    let next : ℕ = place_after capacity hole back in
    let free : List (Option ℕ) = slice_set table hole None in
    let moved : List (Option ℕ) = slice_set table hole (Some number) in
    let put : distances capacity 0 (slice_set free hole (Some number)) + 0
    ≡ distances capacity 0 free + steps_to capacity number hole =
    distances-set capacity 0 hole hole free None (Some number) (omega arith)
    (slice_get-set_same table hole None (omega arith)) in
    let as_moved : distances capacity 0 (slice_set free hole (Some number)) ≡ distances capacity 0 moved =
    ap (distances capacity 0) (set-set table hole None (Some number)) in
    let left : distances capacity 0 (slice_set moved next None) + steps_to capacity number next
    ≡ distances capacity 0 moved + 0 =
    distances-set capacity 0 next next moved (Some number) None (omega arith)
    (slice_get-set_other table hole next (Some number) apart ∙ holds) in
    let less : steps_to capacity number hole + back ≡ steps_to capacity number next =
    nearer capacity number hole back within few far in
    omega arith
