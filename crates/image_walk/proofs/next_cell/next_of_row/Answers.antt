use Rattle.std.proofs.Common.{sym, ◌∙◌}
use Rattle.std.proofs.lemmas.Bool.{false≢true}
use Rattle.heap_model.specs.Images.{image_heap}
use Rattle.image_walk.proofs.CellsOnward.{next_there, none_unused}
use Rattle.image_walk.proofs.next_cell.next_of_row.Goals as goal

pub returns-then-is_used-clause-cell : goal.returns-then-is_used-clause-cell
returns-then-is_used-clause-cell c =
    next_there (image_heap c.args.image.now) c.args.at c.args.end c.cell_there.result c.requires.rows
    c.requires.boundary c.requires.within (c.is_used.ensures.0 c.if-is_used.true) c.cell_there.ensures.cell

pub returns-else-is_used-clause-cell : goal.returns-else-is_used-clause-cell
returns-else-is_used-clause-cell c =
    none_unused (image_heap c.args.image.now) c.args.at c.args.end c.requires.rows c.requires.within
    (λ used. false≢true (sym c.if-is_used.false ∙ c.is_used.ensures.1 used))
