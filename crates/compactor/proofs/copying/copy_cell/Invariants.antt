-- The words before an offset are copied.
use Rattle.compactor.specs.Copying.{Copies}
use Rattle.compactor.proofs.copying.copy_cell.Given as goal

abbrev pub invariant-loop-offset : goal.invariant-loop-offset
invariant-loop-offset l = record { copies : Copies l.fn.main l.main l.moves l.cell l.to l.offset }
