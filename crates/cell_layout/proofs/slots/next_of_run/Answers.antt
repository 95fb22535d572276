use Rattle.cell_layout.proofs.NextSlots.{first_of_run, none_of_run}
use Rattle.std.proofs.Common.{arith}
use Rattle.cell_layout.proofs.slots.next_of_run.Goals as goal

pub returns-then-offset-slots : goal.returns-then-offset-slots
returns-then-offset-slots c =
    first_of_run c.args.slots c.args.from c.max-offset.result c.max-offset.ensures (omega arith)

pub returns-else-offset-slots : goal.returns-else-offset-slots
returns-else-offset-slots c =
    none_of_run c.args.slots c.args.from c.max-offset.result c.max-offset.ensures (omega arith)
