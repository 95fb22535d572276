use Rattle.cell_layout.proofs.CellsThere.{no_layout_past, no_layout_behind, layout_as_parsed}
use Rattle.cell_layout.proofs.cells.layout_of.Goals as goal
use Rattle.std.proofs.Common.{arith}

pub returns-then-shape-ge-COUNT-clause-layout : goal.returns-then-shape-ge-COUNT-clause-layout
returns-then-shape-ge-COUNT-clause-layout g c =
    no_layout_past c.args.regions.now (g.W.Reads.words c.args.words.now) c.args.shape c.if-shape-ge-COUNT.true

pub returns-then-at-count-clause-layout : goal.returns-then-at-count-clause-layout
returns-then-at-count-clause-layout g c =
    no_layout_behind c.args.regions.now (g.W.Reads.words c.args.words.now) c.args.shape (omega arith) (omega arith)

pub returns-clause-layout : goal.returns-clause-layout
returns-clause-layout g c =
    layout_as_parsed c.args.regions.now (g.W.Reads.words c.args.words.now) c.args.shape c.load.result c.parse.result
    (omega arith) (rw c.layout_at-at.ensures.at at c.load.ensures.loaded) c.parse.ensures.parses c.parse.ensures.one
