-- The marker's seat is of the table, and a seat that comes back leaves the cells as they are.
use Rattle.std.proofs.Common.{◌≡◌, ◌∙◌, Option, IfSome, inl, inr, subst, sym, arith}
use Rattle.std.proofs.lemmas.Bool.{cases_eq}
use Rattle.shared_table.specs.Seats.{Helping, Side}
use Rattle.table_tests.specs.Grids.{IsOpenGrid}
use Rattle.table_tests.proofs.CellSteps.{back_grid, home_grid}
use Rattle.table_tests.proofs.crews.give_back.Goals as goal

pub take_back-requires-clause-own : goal.take_back-requires-clause-own
take_back-requires-clause-own c =
    subst (λ (o : Option Helping). IfSome o (λ seat. seat.table ≡ c.args.side.now.table))
    (sym c.detach.ensures.seat ∙ c.in-Some.is) c.requires.seated.seat

pub returns-in-Some-clause-grid : goal.returns-in-Some-clause-grid
returns-in-Some-clause-grid c = elim (cases_eq c.args.side.now.main.out 1) [
  | inl last ↦
      let (colours, board, is) = c.take_back.ensures.last last in
      subst (λ (side : Side). IsOpenGrid side.main c.args.count) (sym is)
      (home_grid c.args.side.now.main c.args.count c.in-Some.seat.lent.view colours board c.requires.grid)
  | inr more ↦
      subst (λ (side : Side). IsOpenGrid side.main c.args.count)
      (sym (c.take_back.ensures.taken (omega (arith, more, c.requires.some))))
      (back_grid c.args.side.now.main c.args.count c.in-Some.seat.lent.view c.requires.grid)
]
