-- Seats that were lent, and taken back.
use Rattle.std.proofs.Common.{◌≡◌, ◌==◌, ◌<◌, ◌+◌, ◌-◌, inl, inr, ℕ, Bool, true, List, Option, Some, None, IsTrue}
use Rattle.std.proofs.Common.{refl, sym, ap, subst, ◌∙◌, arith, eq-eqb}
use Rattle.std.specs.Prelude.{is_some}
use Rattle.std.proofs.lemmas.Bool.{cases_lt, false≢true}
use Rattle.core_parts.proofs.Tested.{not_equal}
use Rattle.mark_laws.specs.Types.{HelperView}
use Rattle.mark_barrier.specs.Paid.{IsPaid}
use Rattle.mark_barrier.specs.Waiting.{Waiting}
use Rattle.shared_table.specs.Changes.{home_with, lending, taking}
use Rattle.heap_table.specs.Overviews.{known, knowing, overview}
use Rattle.heap_table.specs.Phases.{Mark}
use Rattle.heap_table.specs.Seats.{Seat as TableSeat}
use Rattle.write_barrier.specs.declared.main_side.Main.TheInside.{Inside}
use Rattle.write_barrier.specs.Model.{mutator_of, without_words, IsTold}
use Rattle.write_barrier.specs.Seats.{Marks, marks_by, marks_in, seat_back, seat_lent, told_of}
use Rattle.write_barrier.proofs.KnownSeats.{marks_of, mutator_knowing, told_knowing_on}
use Rattle.write_barrier.proofs.SeatSteps.{no_list, no_marks, paid_list, paid_without}

-- the list is as before a seat was lent
lent_paid : (seat : TableSeat) (grey : Waiting) → IsPaid seat grey
    → IsPaid (without_words (knowing seat seat.table (lending (overview seat)))) grey
lent_paid seat grey paid = record {
  lists = record {
    room = paid.lists.room;
    waits = paid.lists.waits;
    was = paid.lists.was;
    born = paid.lists.born;
    passed = λ at on home. absurd (false≢true home);
  };
  owed = paid.owed;
}

module _ (main : Inside) (seat : TableSeat) (shared : IsTrue (is_some main.seat.shared))
    (is : seat ≡ knowing main.seat main.seat.table (lending (overview main.seat))) where
  -- the mutator with a seat more out
  pub lent_is : mutator_of (record main { seat = seat })
      ≡ record (mutator_of main) { seat = seat_lent (told_of main.seat) }
  lent_is =
      ap (λ (one : TableSeat). mutator_of (record main { seat = one })) is
      ∙ mutator_knowing main (lending (overview main.seat)) shared main.grey

  -- it keeps what it kept
  pub lent_told : (grey : Waiting) → main.grey ≡ Some grey → IsTold main → main.seat.phase ≡ Mark
      → IsPaid main.seat grey → IsTold (record main { seat = seat })
  lent_told grey has told mark paid =
      subst (λ (one : TableSeat). IsTold (record main { seat = one })) (sym is)
      (subst (λ (l : Option Waiting). IsTold (record main {
        seat = knowing main.seat main.seat.table (lending (overview main.seat));
        grey = l;
      })) (sym has)
      (told_knowing_on main (lending (overview main.seat)) shared grey told mark refl
      (sym (not_equal ((overview main.seat).out + 1) 0 (omega arith))) (lent_paid main.seat grey paid)))

-- so whether there is a list, since there is one in an open cycle
pub lent_told_by : (main : Inside) (seat : TableSeat) → IsTrue (is_some main.seat.shared)
    → seat ≡ knowing main.seat main.seat.table (lending (overview main.seat)) → (list : Option Waiting)
    → main.grey ≡ list → IsTold main → main.seat.phase ≡ Mark → IsTold (record main { seat = seat })
lent_told_by main seat shared is (Some grey) has told mark =
    lent_told main seat shared is grey has told mark (paid_list main grey told has mark)
lent_told_by main seat shared is None has told mark = absurd (no_list main told has mark)

module _ (main : Inside) (seat : TableSeat) (grey : Waiting) (view : HelperView)
    (shared : IsTrue (is_some main.seat.shared)) (told : IsTold main) (mark : main.seat.phase ≡ Mark)
    (some : 0 < (overview main.seat).out)
    (taken : 1 < (overview main.seat).out
    → seat ≡ knowing main.seat main.seat.table (taking (overview main.seat) view))
    (last : (overview main.seat).out ≡ 1 → (colours : List ℕ) × (board : List ℕ)
    × (seat ≡ knowing main.seat main.seat.table (home_with (taking (overview main.seat) view) colours board))) where
  abbrev out : ℕ
  out = (overview main.seat).out

  -- with others out, colours and board are as unknown as if it was not the last one
  still_out : 1 < out → (overview main.seat).home ≡ (out == 1)
  still_out more =
      told.home ∙ not_equal out 0 (omega (arith, more)) ∙ sym (not_equal out 1 (omega (arith, more)))

  -- no marks are told of it, as before
  no_marks_back : (home : Bool) (marks : Marks) → record (mutator_of main) {
    seat = record (told_of main.seat) { home = home; out = out - 1; marks = marks_in main.seat.phase marks };
  } ≡ record (mutator_of main) { seat = record (told_of main.seat) { home = home; out = out - 1 } }
  no_marks_back home marks =
      ap (λ (one : Option Marks). record (mutator_of main) {
        seat = record (told_of main.seat) { home = home; out = out - 1; marks = one };
      }) (no_marks mark marks ∙ sym (no_marks mark (marks_by (known main.seat.shared))))

  -- the mutator with a seat fewer out
  pub back_is : mutator_of (record main { seat = seat; grey = Some grey })
      ≡ record (mutator_of main) { seat = seat_back (told_of main.seat) }
  back_is = elim (cases_lt 1 out) [
    | inl more ↦
        ap (λ (one : TableSeat). mutator_of (record main { seat = one; grey = Some grey })) (taken more)
        ∙ mutator_knowing main (taking (overview main.seat) view) shared (Some grey)
        ∙ no_marks_back (overview main.seat).home (marks_of (taking (overview main.seat) view))
        ∙ ap (λ (home : Bool). record (mutator_of main) {
          seat = record (told_of main.seat) { home = home; out = out - 1 };
        }) (still_out more)
    | inr few ↦
        let one_out : out ≡ 1 = omega (arith, some, few) in
        let (colours, board, is) = last one_out in
        ap (λ (one : TableSeat). mutator_of (record main { seat = one; grey = Some grey })) is
        ∙ mutator_knowing main (home_with (taking (overview main.seat) view) colours board) shared (Some grey)
        ∙ no_marks_back true (marks_of (home_with (taking (overview main.seat) view) colours board))
        ∙ ap (λ (home : Bool). record (mutator_of main) {
          seat = record (told_of main.seat) { home = home; out = out - 1 };
        }) (sym (eq-eqb out 1 one_out))
  ]

  -- it keeps what it kept
  pub back_told : IsPaid seat grey → IsTold (record main { seat = seat; grey = Some grey })
  back_told paid = elim (cases_lt 1 out) [
    | inl more ↦
        let next = taking (overview main.seat) view in
        subst (λ (one : TableSeat). IsTold (record main { seat = one; grey = Some grey })) (sym (taken more))
        (told_knowing_on main next shared grey told mark refl
        (told.home ∙ not_equal out 0 (omega (arith, more)) ∙ sym (not_equal (out - 1) 0 (omega (arith, more))))
        (paid_without (subst (λ (one : TableSeat). IsPaid one grey) (taken more) paid)))
    | inr few ↦
        let one_out : out ≡ 1 = omega (arith, some, few) in
        let (colours, board, is) = last one_out in
        let next = home_with (taking (overview main.seat) view) colours board in
        subst (λ (one : TableSeat). IsTold (record main { seat = one; grey = Some grey })) (sym is)
        (told_knowing_on main next shared grey told mark refl (sym (eq-eqb (out - 1) 0 (omega (arith, one_out))))
        (paid_without (subst (λ (one : TableSeat). IsPaid one grey) is paid)))
  ]
