use Rattle.std.proofs.Common.{◌∙◌, sym}
use Rattle.std.proofs.lemmas.Bool.{false≢true}
use Rattle.heap_model.specs.Images.{image_heap}
use Rattle.heap_check.proofs.StartFlags.{found_there, none_there}
use Rattle.heap_check.proofs.finding.find.Goals as goal

pub returns-then-is_start : goal.returns-then-is_start
returns-then-is_start c =
    found_there (image_heap c.args.image.now) c.args.starts.now c.args.address c.cell_there.result c.requires.marks
    (c.is_start.ensures.0 c.if-is_start.true) c.cell_there.ensures.cell

pub returns-else-is_start : goal.returns-else-is_start
returns-else-is_start c =
    none_there (image_heap c.args.image.now) c.args.starts.now c.args.address c.requires.marks
    (λ flag. false≢true (sym c.if-is_start.false ∙ c.is_start.ensures.1 flag))
