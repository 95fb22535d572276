-- How far a search for a number has come, and what it tells at its end.
use Rattle.std.proofs.Common.{ℕ, ◌<◌, ◌≤◌, List, length, Option, inl, inr, sym, subst, arith}
use Rattle.linear_probing.specs.Tables.{place_after, steps_to}
use Rattle.linear_probing.specs.Outcomes.{HasNoEnd, IsMet}
use Rattle.linear_probing.proofs.Places.{free_within, holds_within}
use Rattle.linear_probing.proofs.Rounds.{place_after-steps_to, steps_to_few}

-- no place that probing comes to in fewer steps is free, or holds the number
abbrev pub NoneMet : List (Option ℕ) → ℕ → ℕ → Type 0
NoneMet table number steps =
    (before : ℕ) → before < steps → IsMet table number (place_after (length table) number before) → ⊥

-- what is free, or holds the number, is a place of the table
met_within : (table : List (Option ℕ)) (number at : ℕ) → IsMet table number at → at < length table
met_within table number at (inl free) = free_within table at free
met_within table number at (inr holds) = holds_within table at number holds

-- after a whole round no place is free, and none holds the number
pub has_no_end : (table : List (Option ℕ)) (number steps : ℕ) → length table ≤ steps → NoneMet table number steps
    → HasNoEnd table number
has_no_end table number steps all none at met =
    let within : at < length table = met_within table number at met in
    let few : steps_to (length table) number at < length table =
    steps_to_few (length table) number at (omega arith) in
    none (steps_to (length table) number at) (omega arith)
    (subst (IsMet table number) (sym (place_after-steps_to (length table) number at within)) met)
