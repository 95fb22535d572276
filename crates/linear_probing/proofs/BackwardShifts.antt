-- What each step of taking a number out of a table keeps.
use Rattle.std.proofs.Common.{ℕ, ◌+◌, ◌-◌, ◌<◌, ◌≤◌, ◌≡◌, ◌≢◌, ◌⊎◌, List, length, slice_set}
use Rattle.std.proofs.Common.{Option, Some, None, inl, inr, refl, sym, ap, subst, ◌∙◌, arith, below_more}
use Rattle.std.proofs.lemmas.Bool.{cases_eq, cases_order}
use Rattle.std.proofs.lemmas.List.{length-set}
use Rattle.linear_probing.specs.Tables.{place_after, steps_to, FindsAll, HoldsNumber, IsFree, IsProbed}
use Rattle.linear_probing.specs.BackwardShift.{IsShifting, IsNear}
use Rattle.linear_probing.specs.ShiftLaws.{next_place}
use Rattle.linear_probing.proofs.Places.{free_before, free_elsewhere, free_with_other, holds_not_free, same_number}
use Rattle.linear_probing.proofs.Places.{slice_get-set_other, slice_get-set_same}
use Rattle.linear_probing.proofs.Rounds.{place_after-place_after, place_after_apart, place_after_within, place_before}
use Rattle.linear_probing.proofs.Rounds.{steps_to-place_after}
use Rattle.linear_probing.proofs.Findings.{at_put, holds_before, probed_before, probed_steps, probed_with_put}
use Rattle.linear_probing.proofs.Findings.{put_is_number, still_probed}

-- the table where the place that is to be free counts as filled
abbrev filled : List (Option ℕ) → ℕ → List (Option ℕ)
filled table hole = slice_set table hole (Some 0)

-- it begins in a table that finds all, at any place
pub shift_begins : (table : List (Option ℕ)) (at : ℕ) → FindsAll table → at < length table → IsShifting table at 0
shift_begins table at all within = record {
  within = within;
  few = omega arith;
  near = λ k none. absurd (omega arith);
  found = λ other number apart holds. probed_with_put table at 0 number other (all other number holds);
}

-- a number at the next place is passed where probing for it does not pass the hole
pub shift_passes : (table : List (Option ℕ)) (hole passed number : ℕ) → IsShifting table hole passed
    → passed + 1 < length table → HoldsNumber table (next_place table hole passed) number
    → steps_to (length table) number (next_place table hole passed) ≤ passed → IsShifting table hole (passed + 1)
shift_passes table hole passed number shifting few holds near = record {
  within = shifting.within;
  few = few;
  near = below_more (λ (k : ℕ). IsNear table (place_after (length table) hole (k + 1)) k) passed shifting.near
      (record { number = number; holds = holds; near = near });
  found = shifting.found;
}

-- the next place is not the hole, as fewer places than all are passed
next_apart : (table : List (Option ℕ)) (hole passed : ℕ) → IsShifting table hole passed → passed + 1 < length table
    → next_place table hole passed ≢ hole
next_apart table hole passed shifting few =
    place_after_apart (length table) hole (passed + 1) shifting.within (omega arith) few

-- a number at the next place that probing finds by passing the hole is found in the hole
found_in_hole : (table : List (Option ℕ)) (hole passed number : ℕ) → IsShifting table hole passed
    → passed + 1 < length table → HoldsNumber table (next_place table hole passed) number
    → passed < steps_to (length table) number (next_place table hole passed)
    → IsProbed None (filled table hole) number hole
found_in_hole table hole passed number shifting few holds far =
    let as_long : length (filled table hole) ≡ length table = length-set table hole (Some 0) in
    let probed : IsProbed None (filled table hole) number (next_place table hole passed) =
    shifting.found (next_place table hole passed) number (next_apart table hole passed shifting few) holds in
    let steps : steps_to (length table) number (next_place table hole passed) ≡ probed.steps =
    ap (λ (n : ℕ). steps_to n number (next_place table hole passed)) (sym as_long)
    ∙ probed_steps (filled table hole) number (next_place table hole passed) probed in
    let comes : place_after (length (filled table hole)) number probed.steps
    ≡ place_after (length (filled table hole)) hole (passed + 1) =
    sym probed.comes ∙ ap (λ (n : ℕ). place_after n hole (passed + 1)) (sym as_long) in
    let within : hole < length table = shifting.within in
    let place : place_after (length (filled table hole)) number (probed.steps - (passed + 1)) ≡ hole =
    place_before (length (filled table hole)) number probed.steps hole (passed + 1) (omega arith) (omega arith)
    probed.within comes in
    subst (IsProbed None (filled table hole) number) place
    (probed_before (filled table hole) (filled table hole) number (next_place table hole passed) refl (λ at free. free)
    probed (probed.steps - (passed + 1)) (omega arith))

-- what is found where the hole counts as filled is found with a number there, where another place counts as filled
found_after_move : (table : List (Option ℕ)) (hole put next number at : ℕ) → IsProbed None (filled table hole) number at
    → IsProbed None (filled (slice_set table hole (Some put)) next) number at
found_after_move table hole put next number at probed =
    let moved : List (Option ℕ) = slice_set table hole (Some put) in
    still_probed (filled table hole) (filled moved next) number at
    (length-set moved next (Some 0) ∙ length-set table hole (Some put) ∙ sym (length-set table hole (Some 0)))
    (λ place free. free_with_other table hole put 0 place (free_before moved next 0 place free)) probed

-- each number but the one that stood at the next place is found after the move
found_moved : (table : List (Option ℕ)) (hole passed number : ℕ) → IsShifting table hole passed
    → IsProbed None (filled table hole) number hole → (at other : ℕ)
    → HoldsNumber (slice_set table hole (Some number)) at other
    → IsProbed None (filled (slice_set table hole (Some number)) (next_place table hole passed)) other at
found_moved table hole passed number shifting in_hole at other holds =
    elim (cases_eq at hole) [
      | inl same ↦
          found_after_move table hole number (next_place table hole passed) other at
          (at_put (IsProbed None (filled table hole)) hole number at other same
          (put_is_number table hole number at other shifting.within same holds) in_hole)
      | inr apart ↦
          found_after_move table hole number (next_place table hole passed) other at
          (shifting.found at other apart (holds_before table hole (Some number) at other apart holds))
    ]

-- else it moves to the hole, and leaves one where it stood
pub shift_moves : (table : List (Option ℕ)) (hole passed number : ℕ) → IsShifting table hole passed
    → passed + 1 < length table → HoldsNumber table (next_place table hole passed) number
    → passed < steps_to (length table) number (next_place table hole passed)
    → IsShifting (slice_set table hole (Some number)) (next_place table hole passed) 0
shift_moves table hole passed number shifting few holds far =
    let as_long : length (slice_set table hole (Some number)) ≡ length table = length-set table hole (Some number) in
    let within : next_place table hole passed < length table =
    place_after_within (length table) hole (passed + 1) (omega arith) in
    record {
      within = omega arith;
      few = omega arith;
      near = λ k none. absurd (omega arith);
      found = λ at other apart stands. found_moved table hole passed number shifting
          (found_in_hole table hole passed number shifting few holds far) at other stands;
    }

-- Probing for the number comes to the place, and passes the hole.
record Passes (table : List (Option ℕ)) (hole number at : ℕ) : Type 0 where
  steps : ℕ
  before : ℕ
  within : steps < length table
  sooner : before < steps
  comes : at ≡ place_after (length table) number steps
  comes_to_hole : place_after (length table) number before ≡ hole
  filled : (step : ℕ) → step < steps → place_after (length table) number step ≢ hole
      → IsFree table (place_after (length table) number step) → ⊥

-- from the hole it goes on to the places behind that
behind_hole : (table : List (Option ℕ)) (hole number at : ℕ) → (way : Passes table hole number at) → (more : ℕ)
    → place_after (length table) number (way.before + more) ≡ place_after (length table) hole more
behind_hole table hole number at way more =
    sym (place_after-place_after (length table) number way.before more)
    ∙ ap (λ (place : ℕ). place_after (length table) place more) way.comes_to_hole

-- and so to its own place
comes_behind : (table : List (Option ℕ)) (hole number at : ℕ) → (way : Passes table hole number at)
    → at ≡ place_after (length table) hole (way.steps - way.before)
comes_behind table hole number at way =
    let sooner : way.before < way.steps = way.sooner in
    let all : way.steps ≡ way.before + (way.steps - way.before) = omega arith in
    way.comes ∙ ap (place_after (length table) number) all
    ∙ behind_hole table hole number at way (way.steps - way.before)

-- Its own place was not passed: what was passed is nearer.
not_passed : (table : List (Option ℕ)) (hole passed number at : ℕ) → IsShifting table hole passed
    → HoldsNumber table at number → (way : Passes table hole number at) → way.steps - way.before ≤ passed → ⊥
not_passed table hole passed number at shifting holds way few =
    let sooner : way.before < way.steps = way.sooner in
    let last : ℕ = way.steps - way.before - 1 in
    let is_last : last + 1 ≡ way.steps - way.before = omega arith in
    let near : IsNear table (place_after (length table) hole (last + 1)) last = shifting.near last (omega arith) in
    let place : place_after (length table) hole (last + 1) ≡ at =
    ap (place_after (length table) hole) is_last ∙ sym (comes_behind table hole number at way) in
    let same : near.number ≡ number =
    same_number table at near.number number
    (subst (λ (p : ℕ). HoldsNumber table p near.number) place near.holds) holds in
    let steps : steps_to (length table) number at ≡ way.steps =
    ap (steps_to (length table) number) way.comes
    ∙ steps_to-place_after (length table) number way.steps way.within in
    let to_place : steps_to (length table) near.number (place_after (length table) hole (last + 1)) ≡ way.steps =
    ap (λ (n : ℕ). steps_to (length table) n (place_after (length table) hole (last + 1))) same
    ∙ ap (steps_to (length table) number) place ∙ steps in
    let close : steps_to (length table) near.number (place_after (length table) hole (last + 1)) ≤ last = near.near in
    omega arith

-- Its own place is not the next one, where that is free.
not_next : (table : List (Option ℕ)) (hole passed number at : ℕ) → IsFree table (next_place table hole passed)
    → HoldsNumber table at number → (way : Passes table hole number at) → way.steps - way.before ≡ passed + 1 → ⊥
not_next table hole passed number at free holds way is_next =
    let place : next_place table hole passed ≡ at =
    ap (place_after (length table) hole) (sym is_next) ∙ sym (comes_behind table hole number at way) in
    holds_not_free table at number holds (subst (IsFree table) place free)

-- Its own place is not behind the next one, where that is free.
not_behind : (table : List (Option ℕ)) (hole passed number at : ℕ) → IsShifting table hole passed
    → IsFree table (next_place table hole passed) → (way : Passes table hole number at)
    → passed + 1 < way.steps - way.before → ⊥
not_behind table hole passed number at shifting free way behind =
    let within : way.steps < length table = way.within in
    let place : place_after (length table) number (way.before + (passed + 1)) ≡ next_place table hole passed =
    behind_hole table hole number at way (passed + 1) in
    way.filled (way.before + (passed + 1)) (omega arith)
    (λ same. next_apart table hole passed shifting (omega arith) (sym place ∙ same))
    (subst (IsFree table) (sym place) free)

-- So no way to a number passes the hole where the next place is free, or none is left.
none_passes : (table : List (Option ℕ)) (hole passed number at : ℕ) → IsShifting table hole passed
    → (passed + 1 ≡ length table) ⊎ IsFree table (next_place table hole passed) → HoldsNumber table at number
    → Passes table hole number at → ⊥
none_passes table hole passed number at shifting (inl full) holds way =
    let within : way.steps < length table = way.within in
    not_passed table hole passed number at shifting holds way (omega arith)
none_passes table hole passed number at shifting (inr free) holds way =
    elim (cases_order (way.steps - way.before) (passed + 1)) [
      | inl is_next ↦ not_next table hole passed number at free holds way is_next
      | inr (inl few) ↦ not_passed table hole passed number at shifting holds way (omega arith)
      | inr (inr behind) ↦ not_behind table hole passed number at shifting free way behind
    ]

-- the way to a number where the hole counts as filled, if it passes the hole
passes : (table : List (Option ℕ)) (hole number at : ℕ) → (probed : IsProbed None (filled table hole) number at)
    → (before : ℕ) → before < probed.steps → place_after (length table) number before ≡ hole
    → Passes table hole number at
passes table hole number at probed before sooner comes_to_hole =
    let as_long : length (filled table hole) ≡ length table = length-set table hole (Some 0) in
    record {
      steps = probed.steps;
      before = before;
      within = subst (λ (n : ℕ). probed.steps < n) as_long probed.within;
      sooner = sooner;
      comes = probed.comes ∙ ap (λ (n : ℕ). place_after n number probed.steps) as_long;
      comes_to_hole = comes_to_hole;
      filled = λ step early apart free. probed.filled step early
          (subst (λ (n : ℕ). IsFree (filled table hole) (place_after n number step)) (sym as_long)
          (slice_get-set_other table hole (place_after (length table) number step) (Some 0) apart ∙ free));
    }

-- with the hole free, no place is free before the end of a way that does not pass the hole
filled_before : (table : List (Option ℕ)) (hole number at : ℕ) → (probed : IsProbed None (filled table hole) number at)
    → (Passes table hole number at → ⊥) → (before : ℕ) → before < probed.steps
    → IsFree (slice_set table hole None) (place_after (length table) number before) → ⊥
filled_before table hole number at probed none before sooner free =
    let as_long : length (filled table hole) ≡ length table = length-set table hole (Some 0) in
    elim (cases_eq (place_after (length table) number before) hole) [
      | inl same ↦ none (passes table hole number at probed before sooner same)
      | inr apart ↦
          probed.filled before sooner
          (subst (λ (n : ℕ). IsFree (filled table hole) (place_after n number before)) (sym as_long)
          (slice_get-set_other table hole (place_after (length table) number before) (Some 0) apart
          ∙ free_elsewhere table hole None (place_after (length table) number before) apart free))
    ]

-- a number stands not in a hole that is free
not_in_hole : (table : List (Option ℕ)) (hole at number : ℕ) → hole < length table
    → HoldsNumber (slice_set table hole None) at number → at ≢ hole
not_in_hole table hole at number within holds same =
    holds_not_free (slice_set table hole None) at number holds
    (subst (IsFree (slice_set table hole None)) (sym same) (slice_get-set_same table hole None within))

-- where no way to a number passes the hole, the number is found once that is free
found_once_free : (table : List (Option ℕ)) (hole number at : ℕ) → IsProbed None (filled table hole) number at
    → (Passes table hole number at → ⊥) → IsProbed None (slice_set table hole None) number at
found_once_free table hole number at probed none =
    let as_long : length (filled table hole) ≡ length table = length-set table hole (Some 0) in
    let also : length (slice_set table hole None) ≡ length table = length-set table hole None in
    record {
      steps = probed.steps;
      within = subst (λ (n : ℕ). probed.steps < n) (as_long ∙ sym also) probed.within;
      comes = probed.comes ∙ ap (λ (n : ℕ). place_after n number probed.steps) (as_long ∙ sym also);
      filled = λ before sooner free. filled_before table hole number at probed none before sooner
          (subst (λ (n : ℕ). IsFree (slice_set table hole None) (place_after n number before)) also free);
    }

-- where the next place is free, or none is left, all are found once the hole is free
pub shift_ends : (table : List (Option ℕ)) (hole passed : ℕ) → IsShifting table hole passed
    → (passed + 1 ≡ length table) ⊎ IsFree table (next_place table hole passed)
    → FindsAll (slice_set table hole None)
shift_ends table hole passed shifting ends at number holds =
    let apart : at ≢ hole = not_in_hole table hole at number shifting.within holds in
    let held : HoldsNumber table at number = holds_before table hole None at number apart holds in
    found_once_free table hole number at (shifting.found at number apart held)
    (none_passes table hole passed number at shifting ends held)
