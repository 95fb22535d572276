-- A cycle begins: what the seat knows while none is open, and what the mutator keeps then.
use Rattle.std.proofs.Common.{◌≡◌, ◌==◌, inl, inr, ℕ, true, [], Option, Some, None, IfSome, IsTrue}
use Rattle.std.proofs.Common.{replicate, refl, sym, ap, subst, ◌∙◌}
use Rattle.std.specs.Prelude.{is_some}
use Rattle.std.proofs.lemmas.Bool.{false≢true}
use Rattle.page_space.specs.Extents.{eden_start}
use Rattle.core_parts.specs.Boards.{empty_board}
use Rattle.mark_laws.proofs.Drained.{in_none}
use Rattle.mark_world.specs.BetweenCommands.{Fresh}
use Rattle.mark_world.specs.Cycles.{Cycle}
use Rattle.mark_world.specs.Steps.{white}
use Rattle.mark_barrier.specs.Paid.{IsPaid}
use Rattle.mark_barrier.specs.Waiting.{HasRoom, IsEmpty, IsOn, Waiting}
use Rattle.shared_table.specs.declared.overview.Overview.{Overview}
use Rattle.shared_table.specs.Changes.{opened}
use Rattle.shared_table.specs.Owned.{Own}
use Rattle.shared_table.specs.Worlds.{world_at_home}
use Rattle.heap_table.specs.Overviews.{known, knowing, overview}
use Rattle.heap_table.specs.Phases.{Phase, Mark, Quiet}
use Rattle.heap_table.specs.Seats.{Seat as TableSeat, Beside, own_in}
use Rattle.write_barrier.specs.declared.main_side.Main.TheInside.{Inside}
use Rattle.write_barrier.specs.Cycles.{IsQuietOverview, MayOpenWith, HasOpened}
use Rattle.write_barrier.specs.Layouts.{HasLayouts, IsUnmarked}
use Rattle.write_barrier.specs.Model.{mutator_of, without_words, IsTold}
use Rattle.write_barrier.specs.MutatorState.{Mutator}
use Rattle.write_barrier.specs.Pauses.{with_marks}
use Rattle.write_barrier.specs.Seats.{Marks, marks_by, marks_in}
use Rattle.write_barrier.proofs.CycleSteps.{KnowsLayouts}
use Rattle.write_barrier.proofs.KnownSeats.{mutator_knowing, read_alike, told_knowing_on}

-- what no cell with a colour means for what is known
known_unmarked : (shared : Option Beside) (many : ℕ) → IsTrue (is_some shared) → IfSome shared (IsUnmarked many)
    → ((known shared).colours ≡ replicate many white) × ((known shared).board ≡ empty_board)
known_unmarked (Some beside) many some none = (none.colours, none.board)
known_unmarked None many some none = absurd (false≢true some)

module _ (main : Inside) (told : IsTold main) (quiet : main.seat.phase ≡ Quiet) where
  -- colours and board are known
  pub quiet_home : (overview main.seat).home ≡ true
  quiet_home = told.home ∙ ap (λ (many : ℕ). many == 0) (told.clean quiet).out

  -- what the seat knows
  pub quiet_overview : KnowsLayouts main.seat → HasLayouts (mutator_of main)
      → IsQuietOverview (mutator_of main) (overview main.seat)
  quiet_overview knows own =
      let unmarked = known_unmarked main.seat.shared (eden_start main.seat.space) knows.shared
      (told.clean quiet).unmarked in
      record {
        phase = quiet;
        home = quiet_home;
        old = refl;
        words = refl;
        layouts = sym (read_alike main told knows own);
        colours = unmarked.0;
        board = unmarked.1;
        out = (told.clean quiet).out;
        lent = refl;
      }

-- a cycle that may begin, by what the caller chose
pub chosen_here : (fits : Own → ℕ → Overview → Cycle → Type 0) (main : Inside) (now : Mutator) (made : ℕ)
    → mutator_of main ≡ now → IsTold main → KnowsLayouts main.seat → now.seat.phase ≡ Quiet → HasLayouts now
    → ((any : Overview) → IsQuietOverview now any → (cycle : Cycle) × MayOpenWith fits now made any cycle)
    → (cycle : Cycle) × fits (own_in main.seat) made (overview main.seat) cycle
    × Fresh (world_at_home (opened (overview main.seat) cycle))
chosen_here fits main now made is told knows quiet own chosen =
    let at_rest : main.seat.phase ≡ Quiet = ap (λ (one : Mutator). one.seat.phase) is ∙ quiet in
    let here = quiet_overview main told at_rest knows (subst HasLayouts (sym is) own) in
    let begins = subst (λ (one : Mutator). (cycle : Cycle) × MayOpenWith fits one made (overview main.seat) cycle)
    (sym is) (chosen (overview main.seat) (subst (λ (one : Mutator). IsQuietOverview one (overview main.seat)) is here))
    in (begins.0, begins.1.0, begins.1.1)

-- no cell is on empty lists
none_on : (grey : Waiting) (at : ℕ) → IsEmpty grey → IsOn grey at → ⊥
none_on grey at empty on = elim on [
  | inl listed ↦ in_none grey.list.addresses at empty.list listed
  | inr over ↦ in_none grey.passed.addresses at empty.passed over
]

-- the lists of an open cycle are empty at first
begun_paid : (main : Inside) (grey : Waiting) (cycle : Cycle) → HasRoom grey (eden_start main.seat.space)
    → IsEmpty grey
    → IsPaid (without_words (knowing main.seat main.seat.table (opened (overview main.seat) cycle))) grey
begun_paid main grey cycle room empty = record {
  lists = record {
    room = room;
    waits = λ at on. absurd (in_none [] at refl on);
    was = λ at on. absurd (none_on grey at empty on);
    born = λ at on. absurd (none_on grey at empty on);
    passed = λ at on. absurd (in_none grey.passed.addresses at empty.passed on);
  };
  owed = refl;
}

-- the mutator with the cycle that begins
abbrev pub begun : Inside → TableSeat → Inside
begun main seat = record main { seat = seat }

-- it keeps what it has to, whether it has a list or not
begun_by : (main : Inside) (list : Option Waiting) (cycle : Cycle) → main.grey ≡ list → IsTold main
    → main.seat.phase ≡ Quiet → IsTrue (is_some main.seat.shared)
    → IsTold (record main { seat = knowing main.seat main.seat.table (opened (overview main.seat) cycle); grey = list })
begun_by main (Some grey) cycle is told quiet shared =
    let next : Overview = opened (overview main.seat) cycle in
    told_knowing_on main next shared grey told refl refl told.home
    (begun_paid main grey cycle
    (subst (λ (l : Option Waiting). IfSome l (λ one. HasRoom one (eden_start main.seat.space))) is told.lists)
    (subst (λ (l : Option Waiting). IfSome l IsEmpty) is (told.clean quiet).listed))
begun_by main None cycle is told quiet shared =
    absurd (false≢true (ap (λ (l : Option Waiting). is_some l) (sym is) ∙ told.listed ∙ shared))

-- so where the seat has opened one
pub begun_told : (main : Inside) (seat : TableSeat) (cycle : Cycle) → IsTold main → main.seat.phase ≡ Quiet
    → IsTrue (is_some main.seat.shared)
    → seat ≡ knowing main.seat main.seat.table (opened (overview main.seat) cycle) → IsTold (begun main seat)
begun_told main seat cycle told quiet shared is =
    subst (λ (one : TableSeat). IsTold (begun main one)) (sym is) (begun_by main main.grey cycle refl told quiet shared)

-- a cycle was opened
pub begun_opens : (fits : Own → ℕ → Overview → Cycle → Type 0) (main : Inside) (now : Mutator) (seat : TableSeat)
    (made : ℕ) → mutator_of main ≡ now → IsTold main → KnowsLayouts main.seat → now.seat.phase ≡ Quiet
    → HasLayouts now
    → ((cycle : Cycle) × fits (own_in main.seat) made (overview main.seat) cycle
    × Fresh (world_at_home (opened (overview main.seat) cycle))
    × (seat ≡ knowing main.seat main.seat.table (opened (overview main.seat) cycle)))
    → HasOpened fits now (mutator_of (begun main seat)) made
begun_opens fits main now seat made is told knows quiet own begins =
    let at_rest : main.seat.phase ≡ Quiet = ap (λ (one : Mutator). one.seat.phase) is ∙ quiet in
    subst (λ (one : Mutator). HasOpened fits one (mutator_of (begun main seat)) made) is (record {
      any = overview main.seat;
      quiet = quiet_overview main told at_rest knows (subst HasLayouts (sym is) own);
      cycle = begins.0;
      begins = (begins.1, begins.2);
      is = ap (λ (one : TableSeat). mutator_of (begun main one)) begins.3
          ∙ mutator_knowing main (opened (overview main.seat) begins.0) knows.shared main.grey
          ∙ ap (λ (one : Option Marks). with_marks (mutator_of main) Mark begins.0 one)
          (sym (ap (λ (one : Phase). marks_in one (marks_by (known main.seat.shared))) at_rest));
    })
