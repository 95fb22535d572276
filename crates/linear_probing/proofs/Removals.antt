-- How far the removal of a number has come.
use Rattle.std.proofs.Common.{ℕ, ◌+◌, ◌-◌, ◌*◌, ◌<◌, ◌≤◌, ◌≡◌, ◌≢◌, ◌⊎◌, List, length}
use Rattle.std.proofs.Common.{get_or, slice_get, slice_set, Option, Some, None, refl, sym, ap, subst, ◌∙◌, arith}
use Rattle.std.proofs.Math.Nat.{mul-le-mul_right}
use Rattle.std.proofs.lemmas.List.{length-set, set-set}
use Rattle.std.proofs.lemmas.List.Edits.{swap_is}
use Rattle.std.proofs.lemmas.List.Sorted.{IsPermutation-refl, IsPermutation-swap, IsPermutation-trans}
use Rattle.std.proofs.lemmas.Option.{get_or_from_slice_get}
use Rattle.std.specs.List.{swap}
use Rattle.std.specs.List.Sorted.{IsPermutation}
use Rattle.linear_probing.specs.Tables.{steps_to, FindsAll, HoldsNumber, IsFree}
use Rattle.linear_probing.specs.BackwardShift.{IsShifting}
use Rattle.linear_probing.specs.ShiftLaws.{next_place}
use Rattle.linear_probing.specs.Outcomes.{Removes}
use Rattle.linear_probing.proofs.Places.{slice_get-set_other, slice_get-set_same}
use Rattle.linear_probing.proofs.Rounds.{place_after_apart, place_after_within}
use Rattle.linear_probing.proofs.BackwardShifts.{shift_begins, shift_ends, shift_moves, shift_passes}
use Rattle.linear_probing.proofs.Distances.{distances, moves_nearer}

-- What stands at the place `at` of the table `old` is being taken out, and has made the table `new`: with its hole
-- free that has the rest of `old`, and where `old` finds all, taking out goes on from there.
pub record IsRemoval (old : List (Option ℕ)) (at : ℕ) (new : List (Option ℕ)) (hole passed : ℕ) : Type 0 where
  pub within : hole < length new
  pub few : passed < length new
  pub taken : Removes old (slice_set new hole None) at
  pub shifting : FindsAll old → IsShifting new hole passed

-- what is left to do: each move brings the numbers nearer to their homes
abbrev pub left : List (Option ℕ) → ℕ → ℕ → ℕ
left table hole passed =
    distances (length table) 0 (slice_set table hole None) * length table + (length table - passed)

-- what two places hold, put in each other's place
swapped : {X : Type 0} (xs : List X) (i j : ℕ) (x y : X) → i < length xs → j < length xs → slice_get xs i ≡ Some x
    → slice_get xs j ≡ Some y → slice_set (slice_set xs i y) j x ≡ swap xs i j
swapped xs i j x y within also one other =
    ap (λ v. slice_set (slice_set xs i v) j x) (sym (get_or_from_slice_get xs j y x other))
    ∙ ap (λ v. slice_set (slice_set xs i (get_or xs j x)) j v) (sym (get_or_from_slice_get xs i x x one))
    ∙ swap_is xs i j x within also

-- so it begins
pub removal_begins : (table : List (Option ℕ)) (at : ℕ) → at < length table → IsRemoval table at table at 0
removal_begins table at within = record {
  within = within;
  few = omega arith;
  taken = IsPermutation-refl (slice_set table at None);
  shifting = λ all. shift_begins table at all within;
}

-- it goes on behind a number that stays
pub removal_passes : (old new : List (Option ℕ)) (at hole passed number : ℕ) → IsRemoval old at new hole passed
    → passed + 1 < length new → HoldsNumber new (next_place new hole passed) number
    → steps_to (length new) number (next_place new hole passed) ≤ passed → IsRemoval old at new hole (passed + 1)
removal_passes old new at hole passed number removal few holds near = record {
  within = removal.within;
  few = few;
  taken = removal.taken;
  shifting = λ all. shift_passes new hole passed number (removal.shifting all) few holds near;
}

-- a number that is put in the hole, where its own place is to be free, leaves the same in the table
taken_moved : (table : List (Option ℕ)) (hole next number : ℕ) → hole < length table → next < length table
    → next ≢ hole → HoldsNumber table next number
    → IsPermutation (slice_set table hole None) (slice_set (slice_set table hole (Some number)) next None)
taken_moved table hole next number within also apart holds =
    let free : List (Option ℕ) = slice_set table hole None in
    let as_long : length free ≡ length table = length-set table hole None in
    IsPermutation-swap free (slice_set (slice_set table hole (Some number)) next None) hole next (omega arith)
    (omega arith)
    (ap (λ list. slice_set list next None) (sym (set-set table hole None (Some number)))
    ∙ swapped free hole next None (Some number) (omega arith) (omega arith) (slice_get-set_same table hole None within)
    (slice_get-set_other table hole next None apart ∙ holds))

-- it goes on from the place of a number that moves
pub removal_moves : (old new : List (Option ℕ)) (at hole passed number : ℕ) → IsRemoval old at new hole passed
    → passed + 1 < length new → HoldsNumber new (next_place new hole passed) number
    → passed < steps_to (length new) number (next_place new hole passed)
    → IsRemoval old at (slice_set new hole (Some number)) (next_place new hole passed) 0
removal_moves old new at hole passed number removal few holds far =
    let within : hole < length new = removal.within in
    let as_long : length (slice_set new hole (Some number)) ≡ length new = length-set new hole (Some number) in
    let also : next_place new hole passed < length new =
    place_after_within (length new) hole (passed + 1) (omega arith) in
    let apart : next_place new hole passed ≢ hole =
    place_after_apart (length new) hole (passed + 1) within (omega arith) few in
    record {
      within = omega arith;
      few = omega arith;
      taken = IsPermutation-trans (slice_set old at None) (slice_set new hole None)
          (slice_set (slice_set new hole (Some number)) (next_place new hole passed) None) removal.taken
          (taken_moved new hole (next_place new hole passed) number within also apart holds);
      shifting = λ all. shift_moves new hole passed number (removal.shifting all) few holds far;
    }

-- it ends where the next place is free, or none is left
pub removal_ends : (old new : List (Option ℕ)) (at hole passed : ℕ) → IsRemoval old at new hole passed
    → (passed + 1 ≡ length new) ⊎ IsFree new (next_place new hole passed) → FindsAll old
    → FindsAll (slice_set new hole None)
removal_ends old new at hole passed removal ends all = shift_ends new hole passed (removal.shifting all) ends

-- a smaller number of full rounds leaves less to do
fewer_rounds : (fewer more capacity passed : ℕ) → fewer < more → passed < capacity
    → fewer * capacity + (capacity - 0) < more * capacity + (capacity - passed)
fewer_rounds fewer more capacity passed less within =
    let rounds : (fewer + 1) * capacity ≤ more * capacity = mul-le-mul_right capacity (omega arith) in
    omega arith

-- after a move less is left to do
pub left_less : (table : List (Option ℕ)) (hole passed number : ℕ) → hole < length table → passed + 1 < length table
    → HoldsNumber table (next_place table hole passed) number
    → passed < steps_to (length table) number (next_place table hole passed)
    → left (slice_set table hole (Some number)) (next_place table hole passed) 0 < left table hole passed
left_less table hole passed number within few holds far =
    let as_long : length (slice_set table hole (Some number)) ≡ length table = length-set table hole (Some number) in
    let moved : List (Option ℕ) = slice_set (slice_set table hole (Some number)) (next_place table hole passed) None in
    let nearer : distances (length table) 0 moved < distances (length table) 0 (slice_set table hole None) =
    moves_nearer table (length table) hole (passed + 1) number refl within (omega arith) few
    (place_after_apart (length table) hole (passed + 1) within (omega arith) few) holds (omega arith) in
    subst (λ (n : ℕ). distances n 0 moved * n + (n - 0) < left table hole passed) (sym as_long)
    (fewer_rounds (distances (length table) 0 moved) (distances (length table) 0 (slice_set table hole None))
    (length table) passed nearer (omega arith))
