use Rattle.std.proofs.Common.{refl}
use Rattle.heap_check.specs.Cells.{BreaksNumber}
use Rattle.heap_check.proofs.JoinedFinds.{first_by}
use Rattle.heap_check.proofs.NumberFlaws.{numbers_there}
use Rattle.heap_check.proofs.stores.flaw_of_number.Goals as goal

pub returns : goal.returns
returns c =
    first_by (BreaksNumber c.args.cell) _ _ _ _
    (BreaksNumber.numbered c.requires.unnumbered c.if-cell-eq0.false)
    (numbers_there c.args.cell) refl c.word.ensures c.word-2.ensures
