-- With no cell on the lists none waits.
use Rattle.mark_barrier.proofs.Scanned.{none_waits}
use Rattle.mark_barrier.proofs.grey_cells.GreyCells.scan.Goals as goal

pub returns-clause-grey : goal.returns-clause-grey
returns-clause-grey c =
    none_waits c.blacken_listed.new.seat c.blacken_listed.new.grey c.blacken_listed.ensures.paid
    c.blacken_listed.ensures.none
