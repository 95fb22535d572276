-- The cell is published, and the list stays.
use Rattle.std.proofs.Common.{◌≡◌, sym, ap, subst, ◌∙◌, arith}
use Rattle.mark_world.specs.declared.event.Event.TheVariants as event
use Rattle.mark_world.specs.Steps.{black}
use Rattle.heap_table.specs.Overviews.{cycle_in, overview, stepped}
use Rattle.heap_table.specs.Seats.{Seat}
use Rattle.mark_barrier.specs.CycleSteps.{published}
use Rattle.mark_barrier.specs.Paid.{IsBlackened, IsPaid, StepsTo}
use Rattle.mark_barrier.proofs.Listed.{publish_paid}
use Rattle.mark_barrier.proofs.Steps.{black_there, publish_steps}
use Rattle.mark_barrier.proofs.grey_cells.GreyCells.publish.Goals as goal

module _ (c : goal.After-new_black) where
  made : c.new_black.new.self ≡ stepped c.args.seat.now (event.NewBlack c.args.a) black
  made = c.new_black.ensures.made ∙ ap (λ (s : Seat). stepped s (event.NewBlack c.args.a) black)
      c.colour-colour.ensures.same

pub returns-clause-paid : goal.returns-clause-paid
returns-clause-paid c =
    subst (λ (s : Seat). IsPaid s c.args.self.now) (sym (made c))
    (publish_paid c.args.seat.now c.args.self.now c.args.a c.colour-colour.result c.colour-colour.ensures.home
    c.requires.paid)

pub returns-clause-steps : goal.returns-clause-steps
returns-clause-steps c =
    let before : Seat = c.args.seat.now in
    subst (λ (s : Seat). StepsTo before s before.table (published (cycle_in before) c.args.a)) (sym (made c))
    (publish_steps before c.args.a c.colour-colour.result c.colour-colour.ensures.home)

pub returns-clause-black : goal.returns-clause-black
returns-clause-black c =
    let before : Seat = c.args.seat.now in
    subst (λ (s : Seat). IsBlackened s c.args.a) (sym (made c))
    (black_there before c.args.a (overview (stepped before (event.NewBlack c.args.a) black)).view
    (omega (arith, c.colours_fit.ensures.counted, c.requires.may.page)))
