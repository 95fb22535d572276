-- One place more is taken from at each turn.
use Rattle.std.proofs.Common.{◌≡◌, ◌∙◌, length, sym, subst, arith}
use Rattle.page_space.specs.Extents.{Space, board_words, eden_start}
use Rattle.heap_table.specs.Overviews.{cycle_in, overview}
use Rattle.heap_table.specs.Seats.{Seat}
use Rattle.mark_barrier.specs.Paid.{IsPaid, StepsTo}
use Rattle.mark_barrier.specs.Waiting.{HasRoom}
use Rattle.mark_barrier.proofs.Dropped.{all_emptied, emptied_more}
use Rattle.mark_barrier.proofs.Steps.{same_steps, steps_after}
use Rattle.mark_barrier.proofs.grey_cells.GreyCells.take_all.Goals as goal

pub loop-place-init : goal.loop-place-init
loop-place-init c =
    let now : Seat = c.args.seat.now in
    let same = sym c.whole.ensures.same in
    record {
      paid = subst (λ (s : Seat). IsPaid s c.args.self.now) same c.requires.paid;
      steps = subst (λ (s : Seat). StepsTo now s now.table (cycle_in now)) same
          (same_steps now (c.layouts_fit.ensures.shared c.requires.mark));
      long = subst (λ (s : Seat). length (overview s).board ≡ board_words) same
          c.whole.ensures.whole.0.sizes.board.count;
      none = λ k low. absurd (omega (arith, low));
    }

pub take-requires-clause-mark : goal.take-requires-clause-mark
take-requires-clause-mark c = c.loop-place.invariant.steps.moves.phase ∙ c.requires.mark

pub loop-place-preserved : goal.loop-place-preserved
loop-place-preserved c =
    let now : Seat = c.args.seat.now in
    let before = c.loop-place.invariant in
    let after = c.take.ensures in
    record {
      paid = after.paid;
      steps = steps_after now c.loop-place.seat c.take.new.seat now.table (cycle_in now) before.steps after.steps;
      long = after.steps.board.count ∙ before.long;
      none = emptied_more (overview c.loop-place.seat).board (overview c.take.new.seat).board c.loop-place.place
          (omega (arith, before.long, c.loop-place-test.true)) after.takes.board before.none;
    }

pub returns-clause-room : goal.returns-clause-room
returns-clause-room c =
    subst (λ (s : Space). HasRoom c.loop-place.self (eden_start s)) c.loop-place.invariant.steps.moves.space
    c.loop-place.invariant.paid.lists.room

pub returns-clause-empty : goal.returns-clause-empty
returns-clause-empty c =
    all_emptied (overview c.loop-place.seat).board board_words c.loop-place.invariant.long (λ k low.
    c.loop-place.invariant.none k (omega (arith, low, c.loop-place-test.false)))
