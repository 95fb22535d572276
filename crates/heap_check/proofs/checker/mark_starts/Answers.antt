use Rattle.std.proofs.lemmas.Result.{err_from_is_err_and}
use Rattle.heap_model.specs.Images.{image_heap}
use Rattle.heap_check.proofs.MarkedStarts.{marks_starts}
use Rattle.heap_check.proofs.WholeFlaws.{rows_flaw, survivors_flaw}
use Rattle.heap_check.proofs.checker.mark_starts.Goals as goal

pub returns-in_err-survivors-clause-flaw : goal.returns-in_err-survivors-clause-flaw
returns-in_err-survivors-clause-flaw c =
    let p = err_from_is_err_and c.from_residual.result c.from_residual.ensures.1 in
    rw (p.1, p.2)
    (rows_flaw (image_heap c.args.image.now) c.in_err-survivors.field-0.0 c.in_default.ensures.0 c.in_default.ensures.1
    c.in_err-survivors.ensures.breaks)

pub returns-in-Some-flaw_of_survivors-clause-flaw : goal.returns-in-Some-flaw_of_survivors-clause-flaw
returns-in-Some-flaw_of_survivors-clause-flaw c =
    survivors_flaw (image_heap c.args.image.now) c.in-Some-flaw_of_survivors.flaw c.in_default.ensures.1
    c.in_ok-survivors.ensures.marks.blank c.in-Some-flaw_of_survivors.ensures

-- the parts are judged one after another; the flags tell where cells start
pub returns-in-None-clause-rows : goal.returns-in-None-clause-rows
returns-in-None-clause-rows c =
    let rows = c.in_ok-survivors.ensures.marks in (
      record { sized = c.in_default.ensures.1; rows = c.in-None.ensures; blank = rows.blank },
      marks_starts {heap = image_heap c.args.image.now} rows.are c.requires.starts rows.marks,
    )
