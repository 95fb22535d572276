-- A cycle of four cells that waits, goes on and ends.
use Rattle.std.proofs.Common.{◌≡◌, ℕ, true, Some, None, refl, sym, ap, subst, ◌∙◌}
use Rattle.std.specs.Prelude.{IsSome}
use Rattle.mark_world.specs.Cycles.{Cycle}
use Rattle.heap_table.specs.Overviews.{unopened}
use Rattle.heap_table.specs.Phases.{Mark, Paused, Quiet}
use Rattle.write_barrier.specs.Layouts.{HasLayouts}
use Rattle.write_barrier.specs.MutatorState.{Mutator}
use Rattle.write_barrier.specs.Pauses.{HasPaused, HasResumed, IsItself, with_marks}
use Rattle.write_barrier.proofs.ResumedCycles.{paused_sound}
use Rattle.table_tests.specs.OpenMains.{IsBareMain, IsMarkingMain}
use Rattle.table_tests.specs.WaitingMains.{IsPausedMain, IsWholeMain}

-- a cycle that waits may go on as it was
pub whole_main : (old new : Mutator) → HasPaused old new → IsMarkingMain old → IsWholeMain new
whole_main old new pause marking = record {
  paused = record {
    waits = ap (λ (one : Mutator). one.seat.phase) pause.is;
    space = ap (λ (one : Mutator). one.seat.space) pause.is ∙ marking.space;
  };
  shared = subst (λ (one : Mutator). IsSome one.seat.shared) (sym pause.is) marking.shared;
  layouts = subst HasLayouts (sym pause.is) marking.layouts;
  sound = paused_sound pause;
}

-- and is that of the four cells then
pub waited : (old mid new : Mutator) (made : ℕ) → HasPaused old mid → HasResumed IsItself mid new made
    → new.seat.home ≡ true → new.seat.out ≡ 0 → IsMarkingMain old → IsMarkingMain new
waited old mid new made pause resume home out marking =
    let cycle : resume.cycle ≡ old.cycle = resume.may.allowed ∙ ap (λ (one : Mutator). one.cycle) pause.is in
    let is : new ≡ with_marks old Mark resume.cycle None =
    resume.is ∙ ap (λ (one : Mutator). with_marks one Mark resume.cycle None) pause.is in
    record {
      mark = ap (λ (one : Mutator). one.seat.phase) is;
      space = ap (λ (one : Mutator). one.seat.space) is ∙ marking.space;
      shared = subst (λ (one : Mutator). IsSome one.seat.shared) (sym is) marking.shared;
      layouts = subst HasLayouts (sym is) marking.layouts;
      home = home;
      out = out;
      starts = ap (λ (one : Mutator). one.cycle.starts) is ∙ ap (λ (one : Cycle). one.starts) cycle ∙ marking.starts;
      born = ap (λ (one : Mutator). one.cycle.born) is ∙ ap (λ (one : Cycle). one.born) cycle ∙ marking.born;
    }

-- the heap is bare once a cycle that waited has ended
pub ended_bare : (old new : Mutator) → IsWholeMain old → new ≡ with_marks old Quiet unopened None → IsBareMain new
ended_bare old new whole is = subst IsBareMain (sym is) (record {
  quiet = refl;
  space = whole.paused.space;
  shared = whole.shared;
  layouts = whole.layouts;
})
