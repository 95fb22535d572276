-- A cycle is closed before its marking has ended.
use Rattle.std.proofs.Common.{◌≡◌, ◌==◌, ℕ, Bool, true, List, Option, Some, None, IfSome, IsTrue, replicate}
use Rattle.std.proofs.Common.{eqb-true, sym, ap, subst, ◌∙◌}
use Rattle.std.specs.Prelude.{is_some}
use Rattle.atomic_table.specs.Seated.{TableId}
use Rattle.page_space.specs.Extents.{Space, eden_start}
use Rattle.core_parts.specs.Boards.{empty_board}
use Rattle.mark_world.specs.Cycles.{Cycle}
use Rattle.mark_world.specs.Steps.{white}
use Rattle.mark_barrier.specs.Paid.{IsDropped}
use Rattle.mark_barrier.specs.Waiting.{HasRoom, IsEmpty, Waiting}
use Rattle.heap_table.specs.Overviews.{cycle_in, known, unopened}
use Rattle.heap_table.specs.Phases.{Phase, Mark, Quiet}
use Rattle.heap_table.specs.Seats.{Seat as TableSeat, Beside}
use Rattle.write_barrier.specs.declared.main_side.Main.TheInside.{Inside}
use Rattle.write_barrier.specs.Cycles.{in_cycle}
use Rattle.write_barrier.specs.Layouts.{AreLayouts, IsUnmarked}
use Rattle.write_barrier.specs.Model.{mutator_of, IsTold}
use Rattle.write_barrier.specs.Seats.{Marks, Seat, marks_by, marks_in, table_of, told_of}
use Rattle.write_barrier.proofs.SeatSteps.{mark_quiet, no_marks, quiet_paused, read_same, table_there}

-- no cell has a colour, by what is known
unmarked_by : (shared : Option Beside) (many : ℕ) → (known shared).colours ≡ replicate many white
    → (known shared).board ≡ empty_board → IfSome shared (IsUnmarked many)
unmarked_by (Some beside) many colours board = record { colours = colours; board = board }
unmarked_by None many colours board = tt

module _ (main : Inside) (seat : TableSeat) (grey : Waiting) (told : IsTold main)
    (shared : IsTrue (is_some main.seat.shared)) (drops : IsDropped main.seat seat)
    (empty : IsEmpty grey) (room : HasRoom grey (eden_start main.seat.space)) where
  -- what is told of the seat
  told_drops : main.seat.phase ≡ Mark → told_of seat ≡ record (told_of main.seat) { phase = Quiet }
  told_drops mark =
      let old : Seat = told_of main.seat in
      let new : Seat = told_of seat in
      let named : table_of seat ≡ table_of main.seat =
      table_there seat.shared drops.shared ∙ ap (λ (id : TableId). Some id) drops.id
      ∙ sym (table_there main.seat.shared shared) in
      ap (λ (one : Option Marks). record new { marks = one })
      (ap (λ (one : Phase). marks_in one (marks_by (known seat.shared))) drops.phase
      ∙ sym (no_marks mark (marks_by (known main.seat.shared))))
      ∙ ap (λ (one : Space). record new { space = one; marks = old.marks }) drops.space
      ∙ ap (λ (one : Phase). record new { space = old.space; phase = one; marks = old.marks }) drops.phase
      ∙ ap (λ (one : List ℕ). record new { space = old.space; phase = Quiet; table = one; marks = old.marks })
      drops.table
      ∙ ap (λ (one : Option TableId). record new {
        space = old.space;
        phase = Quiet;
        table = old.table;
        shared = one;
        marks = old.marks;
      }) named
      ∙ ap (λ (one : Bool). record old { phase = Quiet; home = one; out = new.out; lent = new.lent }) drops.home
      ∙ ap (λ (one : ℕ). record old { phase = Quiet; out = one; lent = new.lent }) drops.out
      ∙ ap (λ (one : ℕ). record old { phase = Quiet; lent = one }) drops.lent

  -- the mutator knows of no cycle
  pub mutator_drops : main.seat.phase ≡ Mark → mutator_of (record main { seat = seat; grey = Some grey })
      ≡ in_cycle (mutator_of main) Quiet unopened
  mutator_drops mark =
      ap (λ (one : Seat). record (mutator_of main) { seat = one; cycle = cycle_in seat }) (told_drops mark)
      ∙ ap (λ (one : Cycle). record (mutator_of main) {
        seat = record (told_of main.seat) { phase = Quiet };
        cycle = one;
      }) drops.cycle

  -- it keeps what it has to
  pub told_drops_on : (known main.seat.shared).home ≡ true
      → IsTold (record main { seat = seat; grey = Some grey })
  told_drops_on home =
      let none : (known seat.shared).out ≡ 0 =
      drops.out ∙ eqb-true (known main.seat.shared).out 0 (sym told.home ∙ home) in
      record {
        bound = told.bound ∙ sym (ap eden_start drops.space);
        layouts = read_same (λ all. AreLayouts all 0 main.shapes) main.seat.shared seat.shared shared drops.shared
            drops.layouts told.layouts;
        listed = sym drops.shared;
        lists = subst (λ (s : Space). HasRoom grey (eden_start s)) (sym drops.space) room;
        home = drops.home ∙ told.home ∙ ap (λ (many : ℕ). many == 0) (sym drops.out);
        paid = λ mark. absurd (mark_quiet mark drops.phase);
        paused = λ waits. absurd (quiet_paused drops.phase waits);
        waits = λ waits. absurd (quiet_paused drops.phase waits);
        clean = λ quiet. record {
          out = none;
          listed = empty;
          unmarked = unmarked_by seat.shared (eden_start seat.space)
              (drops.colours ∙ sym (ap (λ (s : Space). replicate (eden_start s) white) drops.space)) drops.board;
        };
      }
