use Rattle.heap_run.proofs.Answering.{keeps-comes, reads-comes, opened-comes}
use Rattle.heap_run.proofs.FullKept.{full_has_no_room}
use Rattle.heap_run.proofs.laws.laws_of_answers.Goals as goal

pub returns : goal.returns
returns c = record { kept = keeps-comes; whole = reads-comes; opened = opened-comes; full = full_has_no_room }
