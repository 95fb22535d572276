-- A cycle that waited goes on.
use Rattle.std.proofs.Common.{◌≡◌, inl, inr, ℕ, List, [], Option, Some, None}
use Rattle.std.proofs.Common.{refl, sym, ap, subst, ◌∙◌}
use Rattle.mark_laws.specs.Restarts.{HasJoined}
use Rattle.mark_laws.specs.Runs.{IsSoundAndBorn}
use Rattle.mark_laws.proofs.Drained.{in_none}
use Rattle.mark_world.specs.Cycles.{Cycle}
use Rattle.mark_barrier.specs.Paid.{IsPaid}
use Rattle.mark_barrier.specs.Waiting.{Waiting}
use Rattle.shared_table.specs.declared.overview.Overview.{Overview}
use Rattle.shared_table.specs.Changes.{IsContinued, paused, resumed}
use Rattle.shared_table.specs.Owned.{Own}
use Rattle.shared_table.specs.Worlds.{world_at_home}
use Rattle.heap_table.specs.Overviews.{known, knowing, overview}
use Rattle.heap_table.specs.Phases.{Mark, Paused}
use Rattle.heap_table.specs.Seats.{Seat as TableSeat, own_in}
use Rattle.write_barrier.specs.declared.main_side.Main.TheInside.{Inside}
use Rattle.write_barrier.specs.Layouts.{HasLayouts}
use Rattle.write_barrier.specs.Model.{mutator_of, without_words, IsTold}
use Rattle.write_barrier.specs.MutatorState.{Mutator}
use Rattle.write_barrier.specs.Pauses.{HasPaused, HasResumed, IsItself, MayResume, paused_overview}
use Rattle.write_barrier.specs.Pauses.{with_marks, world_with}
use Rattle.write_barrier.specs.Seats.{Marks, marks_by}
use Rattle.write_barrier.proofs.CycleSteps.{KnowsLayouts}
use Rattle.write_barrier.proofs.KnownSeats.{mutator_knowing, read_alike, told_kept}
use Rattle.write_barrier.proofs.SeatSteps.{mark_paused, mark_quiet}
use Rattle.write_barrier.proofs.PausedCycles.{in_pause, marks_told, overview_told, paid_over}

-- the lists of grey cells stay where the cycle goes on
resumed_paid : (seat : TableSeat) (cycle : Cycle) → IsContinued (overview seat) cycle → (grey : Waiting)
    → IsPaid (without_words seat) grey
    → IsPaid (without_words (knowing seat seat.table (resumed (overview seat) cycle))) grey
resumed_paid seat cycle goes grey paid = record {
  lists = record {
    room = paid.lists.room;
    waits = paid.lists.waits;
    was = λ at on. elim (paid.lists.was at on) [ inl waits ↦ inl waits | inr mine ↦ inr (goes.mine.kept at mine) ];
    born = λ at on. goes.born.kept at (paid.lists.born at on);
    passed = paid.lists.passed;
  };
  owed = paid.owed;
}

module _ (fits : Own → ℕ → Overview → Cycle → Type 0) (main : Inside) (now : Mutator) (made : ℕ)
    (is : mutator_of main ≡ now) (told : IsTold main) (waiting : now.seat.phase ≡ Paused)
    (knows : KnowsLayouts main.seat) (own : HasLayouts now) where
  abbrev waits : main.seat.phase ≡ Paused
  waits = in_pause main now is waiting

  abbrev marks : Marks
  marks = marks_by (known main.seat.shared)

  -- all that the main seat knows is told
  told_here : overview main.seat ≡ paused_overview (mutator_of main) marks
  told_here = overview_told main told waits (read_alike main told knows (subst HasLayouts (sym is) own))

  -- a cycle that may go on by what is told may by what the seat knows
  pub goes_here : ((all : Marks) → now.seat.marks ≡ Some all → (cycle : Cycle) × MayResume fits now made all cycle)
      → (cycle : Cycle) × fits (own_in main.seat) made (overview main.seat) cycle
      × IsContinued (overview main.seat) cycle × IsSoundAndBorn (world_at_home (resumed (overview main.seat) cycle))
  goes_here chosen =
      let (cycle, may) = chosen marks (marks_told main now is waiting) in
      let here : MayResume fits (mutator_of main) made marks cycle =
      subst (λ (one : Mutator). MayResume fits one made marks cycle) (sym is) may in (
        cycle,
        subst (λ (one : Overview). fits (own_in main.seat) made one cycle) (sym told_here) here.allowed,
        subst (λ (one : Overview). IsContinued one cycle) (sym told_here) here.continued,
        subst (λ (one : Overview). IsSoundAndBorn (world_at_home (resumed one cycle))) (sym told_here) here.sound,
      )

  module _ (seat : TableSeat) (goes : (cycle : Cycle) × fits (own_in main.seat) made (overview main.seat) cycle
      × IsContinued (overview main.seat) cycle × IsSoundAndBorn (world_at_home (resumed (overview main.seat) cycle))
      × (seat ≡ knowing main.seat main.seat.table (resumed (overview main.seat) cycle))) where
    abbrev cycle : Cycle
    cycle = goes.0

    -- what the mutator keeps then
    pub resumed_told : IsTold (record main { seat = seat })
    resumed_told =
        let next : Overview = resumed (overview main.seat) cycle in
        let paid = paid_over main (knowing main.seat main.seat.table next) (resumed_paid main.seat cycle goes.2)
        (told.paused waits) in
        subst (λ (one : TableSeat). IsTold (record main { seat = one })) (sym goes.4)
        (told_kept main next knows.shared told refl told.home (λ again. paid)
        (λ still. absurd (mark_paused refl still)) (λ still. absurd (mark_paused refl still))
        (λ quiet. mark_quiet refl quiet))

    -- the mutator with that cycle
    resumed_is : mutator_of (record main { seat = seat }) ≡ with_marks (mutator_of main) Mark cycle None
    resumed_is =
        ap (λ (one : TableSeat). mutator_of (record main { seat = one })) goes.4
        ∙ mutator_knowing main (resumed (overview main.seat) cycle) knows.shared main.grey
        ∙ ap (λ (one : List ℕ). with_marks (mutator_of main) Mark (record cycle {
          reached = one;
          made = (overview main.seat).made;
          dead = (overview main.seat).dead;
        }) None) (sym goes.2.reached)
        ∙ ap (λ (one : ℕ). with_marks (mutator_of main) Mark (record cycle {
          made = one;
          dead = (overview main.seat).dead;
        }) None) (sym goes.2.made)
        ∙ ap (λ (one : List ℕ). with_marks (mutator_of main) Mark (record cycle { dead = one }) None)
        (sym goes.2.dead)

    -- the cycle goes on
    pub resumes : HasResumed fits now (mutator_of (record main { seat = seat })) made
    resumes = subst (λ (one : Mutator). HasResumed fits one (mutator_of (record main { seat = seat })) made) is
        (record {
          marks = marks;
          told = ap (λ (one : Mutator). one.seat.marks) is ∙ marks_told main now is waiting;
          cycle = cycle;
          may = record {
            allowed = subst (λ (one : Overview). fits (own_in main.seat) made one cycle) told_here goes.1;
            continued = subst (λ (one : Overview). IsContinued one cycle) told_here goes.2;
            sound = subst (λ (one : Overview). IsSoundAndBorn (world_at_home (resumed one cycle))) told_here goes.3;
          };
          is = resumed_is;
        })

-- the marks that are told, or others where none are
abbrev marks_or : Option Marks → Marks → Marks
marks_or (Some told) other = told
marks_or None other = other

-- what is told is one thing
some_same : (one other : Marks) → Some one ≡ Some other → one ≡ other
some_same one other same = ap (λ (told : Option Marks). marks_or told one) same

-- The world of a cycle that was just paused is sound, by the marks that are told.
pub paused_sound : {old new : Mutator} → HasPaused old new → (all : Marks) → new.seat.marks ≡ Some all
    → IsSoundAndBorn (world_with new all)
paused_sound {old} {new} pause all told =
    let same : pause.marks ≡ all =
    some_same pause.marks all (sym (ap (λ (one : Mutator). one.seat.marks) pause.is) ∙ told) in
    subst (λ (one : Marks). IsSoundAndBorn (world_with new one)) same
    (subst (λ (one : Mutator). IsSoundAndBorn (world_with one pause.marks)) (sym pause.is)
    (pause.whole.sound, pause.whole.born))

-- a list with none joined is the same list
joins_none : (list : List ℕ) → HasJoined list [] list
joins_none list = record {
  kept = λ at on. on;
  new = λ at on. absurd (in_none [] at refl on);
  from = λ at on. inl on;
}

-- a cycle that waits may go on as it was
pub itself_resumes : (main : Mutator) (made : ℕ) (all : Marks) → IsSoundAndBorn (world_with main all)
    → MayResume IsItself main made all main.cycle
itself_resumes main made all sound = record {
  allowed = refl;
  continued = record {
    promoted = [];
    unpublished = λ at on. absurd (in_none [] at refl on);
    starts = joins_none main.cycle.starts;
    born = joins_none main.cycle.born;
    mine = joins_none main.cycle.mine;
    sure = joins_none main.cycle.sure;
    reached = refl;
    made = refl;
    dead = refl;
  };
  sound = sound;
}

-- so where it was paused, and nothing has changed since
pub goes_on_itself : {old new : Mutator} → HasPaused old new → (made : ℕ) → (all : Marks) → new.seat.marks ≡ Some all
    → (cycle : Cycle) × MayResume IsItself new made all cycle
goes_on_itself {old} {new} paused made all told =
    (new.cycle, itself_resumes new made all (paused_sound paused all told))
