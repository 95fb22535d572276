-- The first cell was white, so it waits once it is shaded.
use Rattle.std.proofs.Common.{ℕ, Contains, ap, subst, sym, arith}
use Rattle.core_parts.proofs.Joining.{in_found, joined_in}
use Rattle.mark_world.specs.Steps.{joined_if_white}
use Rattle.shared_table.specs.Colours.{number_of}
use Rattle.shared_table.specs.Seats.{Side}
use Rattle.table_tests.specs.Grids.{IsWholeGrid}
use Rattle.table_tests.proofs.CellSteps.{given_whole, shaded_whole}
use Rattle.table_tests.proofs.crews.give_root.Goals as goal

pub shade-requires-clause-may : goal.shade-requires-clause-may
shade-requires-clause-may c =
    in_found c.args.side.now.main.view.born 0 (c.requires.whole.grid.born 0 c.requires.some)

pub give_board-requires-clause-may : goal.give_board-requires-clause-may
give_board-requires-clause-may c = record {
  on_board = omega arith;
  had = subst (λ (side : Side). Contains side.main.view.grey 0) (sym c.shade.ensures.shaded)
      (subst (λ (colour : ℕ). Contains (joined_if_white c.args.side.now.main.view.grey colour 0) 0)
      (sym (ap number_of c.in-White.is)) (joined_in c.args.side.now.main.view.grey 0));
}

pub returns-in-White-clause-whole : goal.returns-in-White-clause-whole
returns-in-White-clause-whole c =
    subst (λ (side : Side). IsWholeGrid side.main c.args.count 0) (sym c.give_board.ensures.given)
    (given_whole c.shade.new.self.main c.args.count 0 0 0 c.give_board.result
    (subst (λ (side : Side). IsWholeGrid side.main c.args.count 0) (sym c.shade.ensures.shaded)
    (shaded_whole c.args.side.now.main c.args.count 0 0 (number_of c.shade.result) c.requires.whole)))

pub returns-in_default-clause-whole : goal.returns-in_default-clause-whole
returns-in_default-clause-whole c =
    subst (λ (side : Side). IsWholeGrid side.main c.args.count 0) (sym c.shade.ensures.shaded)
    (shaded_whole c.args.side.now.main c.args.count 0 0 (number_of c.shade.result) c.requires.whole)
