use Rattle.std.proofs.Common.{◌∙◌, sym}
use Rattle.heap_model.specs.Images.{image_heap}
use Rattle.heap_check.proofs.StartFlags.{nothing_there}
use Rattle.heap_check.proofs.finding.referent.Goals as goal

pub returns-in-None-find : goal.returns-in-None-find
returns-in-None-find c =
    nothing_there (image_heap c.args.image.now) c.args.word c.in-Some.at (sym c.address.ensures ∙ c.in-Some.is)
    c.in-None-find.ensures
