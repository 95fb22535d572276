-- What the mutator is, and what it keeps, once its seat knows something else of the shared table.
use Rattle.std.proofs.Common.{◌≡◌, ◌==◌, true, Option, Some, IsTrue, refl, sym, ap, subst}
use Rattle.std.proofs.Common.{◌∙◌}
use Rattle.std.specs.Prelude.{is_some, IsSome, IsSomeAnd}
use Rattle.atomic_table.specs.Seated.{TableId}
use Rattle.cell_layout.specs.Cells.{layouts_in}
use Rattle.mark_barrier.specs.Paid.{IsPaid}
use Rattle.mark_barrier.specs.Waiting.{Waiting}
use Rattle.heap_table.specs.Overviews.{cycle_in, knowing, overview}
use Rattle.heap_table.specs.Phases.{Mark, Paused, Quiet}
use Rattle.heap_table.specs.Seats.{Seat as TableSeat}
use Rattle.shared_table.specs.declared.overview.Overview.{Overview}
use Rattle.write_barrier.specs.declared.main_side.Main.TheInside.{Inside}
use Rattle.write_barrier.specs.Layouts.{AreLayouts, HasLayouts}
use Rattle.write_barrier.specs.Model.{mutator_of, without_words, IsTold}
use Rattle.write_barrier.specs.MutatorState.{Mutator}
use Rattle.write_barrier.specs.Seats.{Marks, Seat, marks_in, told_of}
use Rattle.write_barrier.proofs.CycleSteps.{KnowsLayouts, layouts_by}
use Rattle.write_barrier.proofs.SeatSteps.{mark_paused, mark_quiet, named_some, read_same, table_there}

-- the marks of a cycle that waits, by what the main seat knows
abbrev pub marks_of : Overview → Marks
marks_of main = record { colours = main.colours; board = main.board; grey = main.view.grey; log = main.view.log }

-- there is a shared table where it is named
pub shared_there : (main : Inside) (now : Mutator) → mutator_of main ≡ now → IsSome now.seat.shared
    → IsTrue (is_some main.seat.shared)
shared_there main now is some =
    sym (named_some main.seat.shared)
    ∙ subst (λ (one : Mutator). IsTrue (is_some one.seat.shared)) (sym is) some

-- the layout words of the heap are those that helpers read
pub read_alike : (main : Inside) → IsTold main → KnowsLayouts main.seat → HasLayouts (mutator_of main)
    → layouts_in main.seat.space main.seat.table ≡ (overview main.seat).layouts
read_alike main told knows own =
    layouts_by main.seat.space main.seat.table main.shapes main.seat.shared knows.counted own knows.shared knows.long
    told.layouts

module _ (main : Inside) (next : Overview) (shared : IsTrue (is_some main.seat.shared)) where
  -- the seat with another knowledge of the shared table
  abbrev pub known_seat : TableSeat
  known_seat = knowing main.seat main.seat.table next

  -- what is told of it
  told_knowing : told_of known_seat ≡ record (told_of main.seat) {
    phase = next.phase;
    home = next.home;
    out = next.out;
    lent = next.lent;
    marks = marks_in next.phase (marks_of next);
  }
  told_knowing =
      ap (λ (one : Option TableId). record (told_of known_seat) { shared = one })
      (sym (table_there main.seat.shared shared))

  -- the mutator with it
  pub mutator_knowing : (grey : Option Waiting) → mutator_of (record main { seat = known_seat; grey = grey })
      ≡ record (mutator_of main) {
        seat = record (told_of main.seat) {
          phase = next.phase;
          home = next.home;
          out = next.out;
          lent = next.lent;
          marks = marks_in next.phase (marks_of next);
        };
        cycle = cycle_in known_seat;
      }
  mutator_knowing grey =
      ap (λ (one : Seat). record (mutator_of main) { seat = one; cycle = cycle_in known_seat }) told_knowing

  -- it keeps what it kept, in an open cycle
  pub told_knowing_on : (grey : Waiting) → IsTold main → next.phase ≡ Mark
      → next.layouts ≡ (overview main.seat).layouts → next.home ≡ (next.out == 0)
      → IsPaid (without_words known_seat) grey → IsTold (record main { seat = known_seat; grey = Some grey })
  told_knowing_on grey told mark layouts home paid = record {
    bound = told.bound;
    layouts = read_same (λ all. AreLayouts all 0 main.shapes) main.seat.shared known_seat.shared shared refl layouts
        told.layouts;
    listed = refl;
    lists = paid.lists.room;
    home = home;
    paid = λ again. paid;
    paused = λ waits. absurd (mark_paused mark waits);
    waits = λ waits. absurd (mark_paused mark waits);
    clean = λ quiet. absurd (mark_quiet mark quiet);
  }

  -- it keeps what it kept, in a cycle that is open or waits, with the lists that it has
  pub told_kept : IsTold main → next.layouts ≡ (overview main.seat).layouts → next.home ≡ (next.out == 0)
      → (next.phase ≡ Mark → IsSomeAnd main.grey (IsPaid (without_words known_seat)))
      → (next.phase ≡ Paused → IsSomeAnd main.grey (IsPaid (without_words known_seat)))
      → (next.phase ≡ Paused → next.home ≡ true) → (next.phase ≡ Quiet → ⊥)
      → IsTold (record main { seat = known_seat })
  told_kept told layouts home paid paused waits busy = record {
    bound = told.bound;
    layouts = read_same (λ all. AreLayouts all 0 main.shapes) main.seat.shared known_seat.shared shared refl layouts
        told.layouts;
    listed = told.listed ∙ shared;
    lists = told.lists;
    home = home;
    paid = paid;
    paused = paused;
    waits = waits;
    clean = λ quiet. absurd (busy quiet);
  }
