use Rattle.std.proofs.Common.{sym, ◌∙◌, arith}
use Rattle.std.proofs.lemmas.Bool.{false≢true}
use Rattle.heap_model.specs.Images.{image_heap}
use Rattle.heap_check.proofs.BrokenWalks.{broken_there, broken_past}
use Rattle.heap_check.proofs.rows.step_at.Goals as goal

pub returns-then-cell-bound : goal.returns-then-cell-bound
returns-then-cell-bound c =
    let found = c.in-Some.ensures.cell in
    broken_past (image_heap c.args.image.now) c.args.bound c.args.at c.in-Some.cell c.requires.before
    (λ stops. false≢true (sym c.if-may_end.false ∙ c.may_end.ensures.1 stops)) found.0 found.1
    (omega (arith, c.if-cell-bound.true, c.requires.before))

pub returns-in-None : goal.returns-in-None
returns-in-None c =
    broken_there (image_heap c.args.image.now) c.args.bound c.args.at c.requires.before
    (λ stops. false≢true (sym c.if-may_end.false ∙ c.may_end.ensures.1 stops)) c.in-None.ensures.cell
