use Rattle.heap_model.specs.Images.{image_heap}
use Rattle.heap_check.proofs.WholeFlaws.{sizes_by_layouts, used_flaw, length_flaw}
use Rattle.heap_check.proofs.checker.flaw_of_sizes.Goals as goal

pub returns : goal.returns
returns c =
    sizes_by_layouts (image_heap c.args.image.now) c.flaw_of_layouts.result c.in_default.ensures
    c.in_default-flaw_of_length.ensures c.paths_fit.ensures.good c.flaw_of_layouts.ensures

pub returns-in-Some : goal.returns-in-Some
returns-in-Some c = used_flaw (image_heap c.args.image.now) c.in-Some.flaw c.in-Some.ensures

pub returns-in-Some-flaw_of_length : goal.returns-in-Some-flaw_of_length
returns-in-Some-flaw_of_length c =
    length_flaw (image_heap c.args.image.now) c.in-Some-flaw_of_length.flaw c.in_default.ensures
    c.in-Some-flaw_of_length.ensures
