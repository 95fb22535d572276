-- What is left of a granted run, once cells were made in words that were taken for them: fillers, in which no free run
-- begins. And no free run begins in the cells.
use Rattle.std.proofs.Common.{◌≡◌, ℕ, ◌+◌, ◌≤◌, true, List, sym, ◌∙◌, ap}
use Rattle.std.proofs.Common.{subst, arith}
use Rattle.std.proofs.lemmas.Bool.Decides.{nat_tests}
use Rattle.page_space.specs.Extents.{Space, eden_start}
use Rattle.nursery.specs.Young.{Young, in_eden, bumped, rest_of}
use Rattle.heap_model.specs.Types.{Cell, Run}
use Rattle.heap_model.specs.Heaps.{Heap}
use Rattle.heap_model.specs.Wholeness.{Whole}
use Rattle.heap_model.specs.Changes.{AreFillers, CellsChange, IsOwnChange}
use Rattle.heap_model.specs.Collectable.{AreFreeRuns, CellsAvoidFree, AvoidRange}
use Rattle.heap_model.proofs.FreeStays.{own_changes_keep_fillers}
use Rattle.write_barrier.specs.MutatorState.{Mutator, heap_of, IsTied, AreGranted, AvoidsFree}
use Rattle.object_cells.specs.Uses.{TakesRun}
use Rattle.object_cells.proofs.TakenRuns.{Taking, TakesEden, TakesGranted, taking}

-- where cells are made in eden, no word is granted
none_granted : (young : Young) → in_eden young ≡ true → young.granted.words ≡ 0
none_granted young is = grind (arith, nat_tests)

-- a part of fillers are fillers
fillers_part : {heap : Heap} {from to : ℕ} (a b : ℕ) → AreFillers heap from to → from ≤ a → b ≤ to
    → AreFillers heap a b
fillers_part a b are above below = record {
  extent = are.extent;
  among = are.among;
  begins = omega (arith, above, are.begins);
  ends = omega (arith, below, are.ends);
  of_page = omega (arith, below, are.of_page);
  each = λ at begins ends. are.each at (omega (arith, above, begins)) (omega (arith, below, ends));
}

module _ {old new : Mutator} {made : List Cell} (takes : TakesRun old new made) where
  -- the words are of eden, or of what was granted
  abbrev taken : Taking old.young takes.need
  taken = taking old.young takes.need takes.room

  -- no free run begins in the cells that were made
  pub made_avoid_free : IsTied old → AvoidsFree old.young.granted old.free → AreFreeRuns (heap_of old) old.free
      → CellsAvoidFree made old.free
  made_avoid_free tied apart free row run cell among there is_made begins ends =
      let within = takes.within cell is_made in
      elim taken [
        | Taking.of_eden one ↦
            let is = free row run among there in
            let page = is.of_page in
            let start = ap (λ (space : Space). eden_start space) tied.space in
            omega (arith, page, is.stands, begins, within.0, one.next, start)
        | Taking.of_granted one ↦
            apart row run among there (omega (arith, begins, within.0, one.next))
            (omega (arith, ends, within.1, one.next, one.room))
      ]

  -- what is left of the granted run
  abbrev left : Run
  left = new.young.granted

  left_is : left ≡ (bumped old.young takes.need).granted
  left_is = ap (λ (young : Young). young.granted) takes.young

  -- where cells are made in eden, nothing is granted as before
  left_none : TakesEden old.young takes.need → left.words ≡ 0
  left_none one =
      ap (λ (run : Run). run.words) (left_is ∙ ap (λ (young : Young). young.granted) one.bumps)
      ∙ none_granted old.young one.eden

  -- else it is the rest of what was granted
  left_rest : TakesGranted old.young takes.need → left ≡ rest_of old.young.granted takes.need
  left_rest one = left_is ∙ ap (λ (young : Young). young.granted) one.bumps

  -- no free run begins in what is left
  pub left_avoids_free : new.free ≡ old.free → AvoidsFree old.young.granted old.free → AvoidsFree left new.free
  left_avoids_free same apart =
      subst (λ (rows : List (List Run)). AvoidsFree left rows) (sym same) (λ row run among there begins ends.
      elim taken [
        | Taking.of_eden one ↦ omega (arith, begins, ends, left_none one)
        | Taking.of_granted one ↦
            let at = ap (λ (r : Run). r.at) (left_rest one) in
            let words = ap (λ (r : Run). r.words) (left_rest one) in
            apart row run among there (omega (arith, begins, at)) (omega (arith, ends, at, words, one.room))
      ])

  -- and what is left are fillers, where objects change inside their own cells
  pub left_are_granted : {gone came : List Cell} → Whole (heap_of old)
      → CellsChange (heap_of old) (heap_of new) gone came made → IsOwnChange (heap_of old) (heap_of new) gone came made
      → IsTied old → AreGranted (heap_of new) left
  left_are_granted {gone} {came} whole cells own tied some =
      elim taken [
        | Taking.of_eden one ↦ absurd (omega (arith, some, left_none one))
        | Taking.of_granted one ↦
            let at = ap (λ (r : Run). r.at) (left_rest one) in
            let words = ap (λ (r : Run). r.words) (left_rest one) in
            let end : ℕ = left.at + left.words in
            let avoid : AvoidRange made left.at end =
            λ cell a is_made begins ends from below.
            let within = takes.within cell is_made in
            omega (arith, ends, within.1, one.next, from, at) in
            own_changes_keep_fillers (heap_of old) (heap_of new) gone came made left.at end whole cells own avoid
            (fillers_part left.at end (tied.granted one.some) (omega (arith, at))
            (omega (arith, at, words, one.room)))
      ]
