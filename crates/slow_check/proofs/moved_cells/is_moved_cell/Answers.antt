use Rattle.std.proofs.Common.{Some, None, refl, sym, ◌∙◌, ◌≡◌}
use Rattle.heap_model.specs.Images.{image_heap}
use Rattle.slow_check.specs.Moves.{to_of}
use Rattle.slow_check.proofs.CellsMoved.{moved_where_it_comes}
use Rattle.slow_check.proofs.moved_cells.is_moved_cell.Goals as goal

pub returns-in-Some : goal.returns-in-Some
returns-in-Some c =
    let same = moved_where_it_comes (image_heap c.args.old.now) (image_heap c.args.new.now) (to_of c.args.moves.now)
    c.args.cell c.in-Some.now (sym c.in-Some.ensures) in (
      λ yes. same.0 (c.comes_to.ensures.0 yes),
      λ moved. c.comes_to.ensures.1 (same.1 moved),
    )

-- the cell went
pub returns-in-None : goal.returns-in-None
returns-in-None c = (
  λ yes now stays.
      let nowhere : None ≡ Some now = c.in-None.ensures ∙ stays in
      cc,
  λ moved. refl,
)
