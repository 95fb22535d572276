use Rattle.std.proofs.Common.{ℕ, arith, get_or}
use Rattle.shape_tree.specs.Shapes.{shape_path}
use Rattle.heap_model.specs.Images.{image_heap}
use Rattle.heap_model.specs.Types.{Path}
use Rattle.heap_check.proofs.FieldSlots.{FieldFits, field_asked}
use Rattle.heap_check.proofs.JoinedFinds.{first_in_span, read_there, fit_more, fit_all}
use Rattle.heap_check.proofs.fields.flaw_of_places.Goals as goal

pub loop-at-preserved : goal.loop-at-preserved
loop-at-preserved c =
    let heap = image_heap c.args.image.now in
    let path : Path = shape_path heap.paths c.args.shape in
    fit_more heap c.args.span (FieldFits heap path c.args.first) c.as_slice.result.now c.loop-at.at c.as_slice.ensures
    c.loop-at.invariant c.in_default.ensures

pub returns-in-Some : goal.returns-in-Some
returns-in-Some c =
    let heap = image_heap c.args.image.now in
    let path : Path = shape_path heap.paths c.args.shape in
    let read = c.as_slice.result.now in
    let at : ℕ = c.loop-at.at in
    first_in_span heap c.args.span (FieldFits heap path c.args.first) (field_asked path c.args.first) at
    (get_or read at 0) c.in-Some.flaw (omega arith) (omega arith)
    (read_there heap.words read at c.as_slice.ensures (omega (arith, c.requires.is.within))) c.loop-at.invariant
    c.in-Some.ensures

pub returns : goal.returns
returns c =
    let heap = image_heap c.args.image.now in
    let path : Path = shape_path heap.paths c.args.shape in
    fit_all heap c.args.span (FieldFits heap path c.args.first) c.loop-at.at (omega arith) c.loop-at.invariant
