use Rattle.std.proofs.lemmas.Bool.{cases_eq}
use Rattle.heap_run.specs.Texts.{sink_fault_status}
use Rattle.heap_run.proofs.Answering.{Taken-unopened}
use Rattle.heap_run.proofs.program.give_up.Goals as goal

pub returns-clause-taken : goal.returns-clause-taken
returns-clause-taken g c =
    Taken-unopened _ _ _ _ c.conclude-status.result c.args.last c.conclude-status.ensures.written
    c.conclude-status.ensures.failed (cases_eq c.conclude-status.result sink_fault_status)
