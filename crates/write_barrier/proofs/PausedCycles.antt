-- A cycle waits, is told, changes while it waits, and goes on.
use Rattle.std.proofs.Common.{◌≡◌, inl, inr, ℕ, Bool, true, List, [], Option, Some, None, IsTrue}
use Rattle.std.proofs.Common.{eqb-true, slice_index, slice_set, option_map, refl, sym, ap, subst, ◌∙◌}
use Rattle.std.specs.Prelude.{is_some, IsSomeAnd}
use Rattle.std.proofs.lemmas.Bool.{cases_eq}
use Rattle.std.proofs.lemmas.List.{get_or-set_other, get_or-set_same}
use Rattle.cell_layout.specs.Cells.{layouts_in}
use Rattle.mark_laws.specs.Runs.{IsSoundAndBorn}
use Rattle.mark_laws.specs.Types.{Spot}
use Rattle.mark_laws.proofs.Starts.{black_within}
use Rattle.mark_world.specs.declared.views.MainView.{MainView}
use Rattle.mark_world.specs.Steps.{black}
use Rattle.mark_barrier.specs.Paid.{IsPaid}
use Rattle.mark_barrier.specs.Waiting.{Waiting}
use Rattle.shared_table.specs.declared.overview.Overview.{Overview}
use Rattle.shared_table.specs.Changes.{paused}
use Rattle.shared_table.specs.Spots.{with_spot}
use Rattle.shared_table.specs.Worlds.{world_at_home}
use Rattle.heap_table.specs.Overviews.{cycle_in, known, knowing, overview}
use Rattle.heap_table.specs.Phases.{Phase, Mark, Paused, Quiet}
use Rattle.heap_table.specs.Seats.{Seat as TableSeat}
use Rattle.write_barrier.specs.declared.main_side.Main.TheInside.{Inside}
use Rattle.write_barrier.specs.Model.{mutator_of, without_words, IsTold}
use Rattle.write_barrier.specs.MutatorState.{Mutator}
use Rattle.write_barrier.specs.Pauses.{HasPaused, marks_black, paused_overview}
use Rattle.write_barrier.specs.Pauses.{view_with, with_black_mark}
use Rattle.write_barrier.specs.Seats.{Marks, marks_by, marks_in}
use Rattle.write_barrier.proofs.KnownSeats.{mutator_knowing, told_kept}
use Rattle.write_barrier.proofs.ScannedCycles.{whole_here}
use Rattle.write_barrier.proofs.SeatSteps.{owed_by}

-- what holds of a value that is there goes over to what follows from it
some_on : {X : Type 0} (P Q : X → Type 0) (list : Option X) → ((one : X) → P one → Q one) → IsSomeAnd list P
    → IsSomeAnd list Q
some_on P Q (Some one) follows has = follows one has
some_on P Q None follows has = has

-- there is a value of which something holds
some_there : {X : Type 0} (P : X → Type 0) (list : Option X) → IsSomeAnd list P → IsTrue (is_some list)
some_there P (Some one) has = refl
some_there P None has = absurd has

-- a cycle that waits is there
pub paused_quiet : {phase : Phase} → phase ≡ Paused → phase ≡ Quiet → ⊥
paused_quiet waits quiet = let no : Paused ≡ Quiet = sym waits ∙ quiet in cc

-- while a cycle waits there is a shared table
pub waiting_shared : (main : Inside) → IsTold main → main.seat.phase ≡ Paused → IsTrue (is_some main.seat.shared)
waiting_shared main told waits = sym told.listed ∙ some_there (IsPaid (without_words main.seat)) main.grey
    (told.paused waits)

-- the seat waits where the mutator does
pub in_pause : (main : Inside) (now : Mutator) → mutator_of main ≡ now → now.seat.phase ≡ Paused
    → main.seat.phase ≡ Paused
in_pause main now is waits = ap (λ (one : Mutator). one.seat.phase) is ∙ waits

-- its marks are told then
pub marks_told : (main : Inside) (now : Mutator) → mutator_of main ≡ now → now.seat.phase ≡ Paused
    → now.seat.marks ≡ Some (marks_by (known main.seat.shared))
marks_told main now is waits =
    sym (ap (λ (one : Mutator). one.seat.marks) is)
    ∙ ap (λ (one : Phase). marks_in one (marks_by (known main.seat.shared))) (in_pause main now is waits)

-- What is paid goes over to another seat.
pub paid_over : (main : Inside) (next : TableSeat)
    → ((grey : Waiting) → IsPaid (without_words main.seat) grey → IsPaid (without_words next) grey)
    → IsSomeAnd main.grey (IsPaid (without_words main.seat)) → IsSomeAnd main.grey (IsPaid (without_words next))
paid_over main next follows = some_on (IsPaid (without_words main.seat)) (IsPaid (without_words next)) main.grey follows

-- the lists of grey cells stay where a cycle waits from now on
paused_paid : (seat : TableSeat) (grey : Waiting) → IsPaid (without_words seat) grey
    → IsPaid (without_words (knowing seat seat.table (paused (overview seat)))) grey
paused_paid seat grey paid = record {
  lists = record {
    room = paid.lists.room;
    waits = paid.lists.waits;
    was = paid.lists.was;
    born = paid.lists.born;
    passed = paid.lists.passed;
  };
  owed = paid.owed;
}

module _ (main : Inside) (told : IsTold main) (mark : main.seat.phase ≡ Mark)
    (home : (overview main.seat).home ≡ true) (shared : IsTrue (is_some main.seat.shared)) where
  -- what the mutator keeps once the cycle waits
  pub pause_told : (seat : TableSeat) → seat ≡ knowing main.seat main.seat.table (paused (overview main.seat))
      → IsTold (record main { seat = seat })
  pause_told seat is =
      let next : Overview = paused (overview main.seat) in
      let paid = paid_over main (knowing main.seat main.seat.table next) (paused_paid main.seat) (told.paid mark) in
      subst (λ (one : TableSeat). IsTold (record main { seat = one })) (sym is)
      (told_kept main next shared told refl told.home (λ again. paid) (λ waits. paid) (λ waits. home)
      (λ quiet. paused_quiet refl quiet))

  -- the cycle waits
  pub pauses : (now : Mutator) (seat : TableSeat) → mutator_of main ≡ now
      → layouts_in main.seat.space main.seat.table ≡ (overview main.seat).layouts
      → (overview main.seat).view.owed ≡ [] → IsSoundAndBorn (world_at_home (overview main.seat))
      → seat ≡ knowing main.seat main.seat.table (paused (overview main.seat))
      → HasPaused now (mutator_of (record main { seat = seat }))
  pauses now seat of same owed whole is =
      subst (λ (one : Mutator). HasPaused one (mutator_of (record main { seat = seat }))) of (record {
        marks = marks_by (known main.seat.shared);
        is = ap (λ (one : TableSeat). mutator_of (record main { seat = one })) is
            ∙ mutator_knowing main (paused (overview main.seat)) shared main.grey;
        whole = whole_here main same owed whole;
      })

-- a colour that is put black leaves black what was
black_stays : (colours : List ℕ) (at other : ℕ) → slice_index colours other ≡ black
    → slice_index (slice_set colours at black) other ≡ black
black_stays colours at other is = elim (cases_eq other at) [
  | inl same ↦
      ap (λ (a : ℕ). slice_index (slice_set colours at black) a) same
      ∙ get_or-set_same colours at black 0
      (black_within colours at (ap (λ (a : ℕ). slice_index colours a) (sym same) ∙ is))
  | inr else ↦ get_or-set_other colours at other black 0 else ∙ is
]

-- what the main seat knows with a cell made black
abbrev put_overview : TableSeat → ℕ → Overview
put_overview seat at = with_spot (overview seat) (Spot.Colour at) black

-- the lists of grey cells stay where a cell is put black
put_paid : (seat : TableSeat) (at : ℕ) (grey : Waiting) → IsPaid (without_words seat) grey
    → IsPaid (without_words (knowing seat seat.table (put_overview seat at))) grey
put_paid seat at grey paid = record {
  lists = record {
    room = paid.lists.room;
    waits = paid.lists.waits;
    was = paid.lists.was;
    born = paid.lists.born;
    passed = λ one on home. black_stays (overview seat).colours at one (paid.lists.passed one on home);
  };
  owed = paid.owed;
}

module _ (main : Inside) (told : IsTold main) (waits : main.seat.phase ≡ Paused) where
  -- there is a shared table
  abbrev shared : IsTrue (is_some main.seat.shared)
  shared = waiting_shared main told waits

  -- what the mutator keeps once a cell was put black
  pub put_told : (seat : TableSeat) (at : ℕ) → seat ≡ knowing main.seat main.seat.table (put_overview main.seat at)
      → IsTold (record main { seat = seat })
  put_told seat at is =
      let next : Overview = put_overview main.seat at in
      let paid = paid_over main (knowing main.seat main.seat.table next) (put_paid main.seat at) (told.paused waits) in
      subst (λ (one : TableSeat). IsTold (record main { seat = one })) (sym is)
      (told_kept main next shared told refl told.home (λ again. paid) (λ again. paid) (λ again. told.waits waits)
      (λ quiet. paused_quiet waits quiet))

  -- one cell is black among the marks
  pub puts_black : (now : Mutator) (seat : TableSeat) (at : ℕ) → mutator_of main ≡ now
      → seat ≡ knowing main.seat main.seat.table (put_overview main.seat at)
      → mutator_of (record main { seat = seat }) ≡ with_black_mark now at
  puts_black now seat at of is =
      let marks : Marks = marks_by (known main.seat.shared) in
      subst (λ (one : Mutator). mutator_of (record main { seat = seat }) ≡ with_black_mark one at) of
      (ap (λ (one : TableSeat). mutator_of (record main { seat = one })) is
      ∙ mutator_knowing main (put_overview main.seat at) shared main.grey
      ∙ ap (λ (one : Option Marks). record (mutator_of main) { seat = record (mutator_of main).seat { marks = one } })
      (ap (λ (one : Phase). marks_in one (marks_black at marks)) waits
      ∙ sym (ap (λ (one : Phase). option_map (marks_black at) (marks_in one marks)) waits)))

  -- the view of the cycle, in which nothing is owed
  view_paid : (overview main.seat).view ≡ view_with (cycle_in main.seat) (marks_by (known main.seat.shared))
  view_paid =
      ap (λ (debts : List ℕ). record (overview main.seat).view { owed = debts })
      (owed_by main.seat main.grey (told.paused waits))

  -- all that the main seat knows is told
  pub overview_told : layouts_in main.seat.space main.seat.table ≡ (overview main.seat).layouts
      → overview main.seat ≡ paused_overview (mutator_of main) (marks_by (known main.seat.shared))
  overview_told same =
      let all : Overview = overview main.seat in
      let at_home : all.home ≡ true = told.waits waits in
      let none : all.out ≡ 0 = eqb-true all.out 0 (sym told.home ∙ at_home) in
      let layouts : List ℕ = layouts_in main.seat.space main.seat.table in
      ap (λ (one : Phase). record all { phase = one }) waits
      ∙ ap (λ (one : Bool). record all { phase = Paused; home = one }) at_home
      ∙ ap (λ (one : List ℕ). record all { phase = Paused; home = true; layouts = one }) (sym same)
      ∙ ap (λ (one : MainView). record all { phase = Paused; home = true; layouts = layouts; view = one }) view_paid
      ∙ ap (λ (one : ℕ). record all {
        phase = Paused;
        home = true;
        layouts = layouts;
        view = view_with (cycle_in main.seat) (marks_by (known main.seat.shared));
        out = one;
      }) none
