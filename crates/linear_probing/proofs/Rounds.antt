-- Where probing goes after so many steps, and how many steps it takes to a place.
use Rattle.std.proofs.Common.{ℕ, ◌+◌, ◌-◌, ◌%◌, ◌<◌, ◌≤◌, ◌≡◌, ◌≢◌, inl, inr, sym, ap}
use Rattle.std.proofs.Common.{◌∙◌, arith}
use Rattle.std.proofs.Math.Nat.{mod-add-mod, add-mod-mod, add-mod_left, add-mod_right, mod-lt, mod-eq_of_lt}
use Rattle.std.proofs.lemmas.Bool.{cases_lt}
use Rattle.linear_probing.specs.Tables.{place_after, steps_to}

-- the steps from a number's home to the end of the table, and so many more, lead to the place of that number
round_back : (capacity number more : ℕ) → 0 < capacity
    → (number + (more + (capacity - number % capacity))) % capacity ≡ more % capacity
round_back capacity number more some =
    let below : number % capacity < capacity = mod-lt number some in
    let round : number % capacity + (more + (capacity - number % capacity)) ≡ more + capacity = omega arith in
    sym (mod-add-mod number capacity (more + (capacity - number % capacity))) ∙ ap (λ (n : ℕ). n % capacity) round
    ∙ add-mod_right more capacity

-- the steps to a place lead there
pub place_after-steps_to : (capacity number at : ℕ) → at < capacity
    → place_after capacity number (steps_to capacity number at) ≡ at
place_after-steps_to capacity number at within =
    add-mod-mod number (at + (capacity - number % capacity)) capacity ∙ round_back capacity number at (omega arith)
    ∙ mod-eq_of_lt within

-- and are fewer than there are places
pub steps_to_few : (capacity number at : ℕ) → 0 < capacity → steps_to capacity number at < capacity
steps_to_few capacity number at some = mod-lt (at + (capacity - number % capacity)) some

-- so many steps are the steps to the place that they lead to
pub steps_to-place_after : (capacity number steps : ℕ) → steps < capacity
    → steps_to capacity number (place_after capacity number steps) ≡ steps
steps_to-place_after capacity number steps few =
    let order : number + steps + (capacity - number % capacity) ≡ number + (steps + (capacity - number % capacity)) =
    omega arith in
    mod-add-mod (number + steps) capacity (capacity - number % capacity) ∙ ap (λ (n : ℕ). n % capacity) order
    ∙ round_back capacity number steps (omega arith) ∙ mod-eq_of_lt few

-- a place that is reached is one of the table
pub place_after_within : (capacity number steps : ℕ) → 0 < capacity → place_after capacity number steps < capacity
place_after_within capacity number steps some = mod-lt (number + steps) some

-- steps from the place that other steps lead to add up
pub place_after-place_after : (capacity number steps more : ℕ)
    → place_after capacity (place_after capacity number steps) more ≡ place_after capacity number (steps + more)
place_after-place_after capacity number steps more =
    let order : number + steps + more ≡ number + (steps + more) = omega arith in
    mod-add-mod (number + steps) capacity more ∙ ap (λ (n : ℕ). n % capacity) order

-- different numbers of steps lead to different places
pub same_steps : (capacity number steps other : ℕ) → steps < capacity → other < capacity
    → place_after capacity number steps ≡ place_after capacity number other → steps ≡ other
same_steps capacity number steps other few also same =
    sym (steps_to-place_after capacity number steps few) ∙ ap (steps_to capacity number) same
    ∙ steps_to-place_after capacity number other also

-- no step leads to the place itself
pub place_after_none : (capacity at : ℕ) → at < capacity → place_after capacity at 0 ≡ at
place_after_none capacity at within =
    let same : at + 0 ≡ at = omega arith in
    ap (λ (n : ℕ). n % capacity) same ∙ mod-eq_of_lt within

-- and fewer steps than a whole round, but some, lead away from it
pub place_after_apart : (capacity at steps : ℕ) → at < capacity → 0 < steps → steps < capacity
    → place_after capacity at steps ≢ at
place_after_apart capacity at steps within some few same =
    let none : steps ≡ 0 =
    same_steps capacity at steps 0 few (omega arith) (same ∙ sym (place_after_none capacity at within)) in
    omega arith

-- so many steps on from a place, and the rest of a round, lead back
round_from : (capacity at steps : ℕ) → at < capacity → steps ≤ capacity
    → place_after capacity (place_after capacity at steps) (capacity - steps) ≡ at
round_from capacity at steps within few =
    let round : at + (steps + (capacity - steps)) ≡ at + capacity = omega arith in
    place_after-place_after capacity at steps (capacity - steps) ∙ ap (λ (n : ℕ). n % capacity) round
    ∙ add-mod_right at capacity ∙ mod-eq_of_lt within

-- places from which as many steps lead to one place are one
pub same_start : (capacity one other steps : ℕ) → one < capacity → other < capacity → steps ≤ capacity
    → place_after capacity one steps ≡ place_after capacity other steps → one ≡ other
same_start capacity one other steps within also few same =
    sym (round_from capacity one steps within few)
    ∙ ap (λ (at : ℕ). place_after capacity at (capacity - steps)) same
    ∙ round_from capacity other steps also few

-- where probing comes to a place so many steps behind another, it came to that as many steps before
pub place_before : (capacity number steps at back : ℕ) → at < capacity → back ≤ steps → steps < capacity
    → place_after capacity number steps ≡ place_after capacity at back → place_after capacity number (steps - back) ≡ at
place_before capacity number steps at back within before few same =
    let all : steps - back + back ≡ steps = omega arith in
    same_start capacity (place_after capacity number (steps - back)) at back
    (place_after_within capacity number (steps - back) (omega arith)) within (omega arith)
    (place_after-place_after capacity number (steps - back) back ∙ ap (place_after capacity number) all ∙ same)

-- steps that lead below the place where they began went round
went_round : (capacity began steps : ℕ) → began < capacity → place_after capacity began steps < began
    → capacity ≤ began + steps
went_round capacity began steps within below =
    elim (cases_lt (began + steps) capacity) [
      | inl no_round ↦
          let same : place_after capacity began steps ≡ began + steps = mod-eq_of_lt no_round in
          absurd (omega arith)
      | inr round ↦ round
    ]

-- what moves to a place below the one where it began comes from a place below that
pub moves_stay_below : (capacity began steps more : ℕ) → began < capacity → 1 ≤ more → steps + more < capacity
    → place_after capacity began steps < began → place_after capacity began (steps + more) < began
moves_stay_below capacity began steps more within some few below =
    let round : capacity ≤ began + steps = went_round capacity began steps within below in
    let rest : began + (steps + more) ≡ capacity + (began + (steps + more) - capacity) = omega arith in
    let lower : began + (steps + more) - capacity < capacity = omega arith in
    let place : place_after capacity began (steps + more) ≡ began + (steps + more) - capacity =
    ap (λ (n : ℕ). n % capacity) rest ∙ add-mod_left capacity (began + (steps + more) - capacity)
    ∙ mod-eq_of_lt lower in
    omega arith
