use Rattle.cell_layout.proofs.CellsThere.{no_cell_with}
use Rattle.cell_layout.proofs.cells.cell_at.Goals as goal

pub returns-in-None-clause-none : goal.returns-in-None-clause-none
returns-in-None-clause-none g c =
    no_cell_with c.args.regions.now (g.W.Reads.words c.args.words.now) c.args.a c.load-word.result
    (rw c.load-word.ensures.kept at c.in-None.ensures.cell) c.load-word.ensures.loaded
