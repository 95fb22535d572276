use Rattle.heap_script.proofs.Judged.{finishes_unflawed}
use Rattle.heap_run.proofs.Inspections.{is_for_heap}
use Rattle.heap_run.proofs.opened.Opened.run.Goals as goal

pub run_script-finished-requires-clause-for_heap : goal.run_script-finished-requires-clause-for_heap
run_script-finished-requires-clause-for_heap g c κs within =
    let (inspects, sizes, ready) = c.requires in
    is_for_heap c.args.self.heap inspects c.args.self.inspection ready.inspected

pub returns-clause-finishes : goal.returns-clause-finishes
returns-clause-finishes g c =
    let ran = c.run_script-finished in
    let (found, ended, inspected, told, judged) = ran.ensures.finishes in
    let (none, finishes, ends) =
    finishes_unflawed found c.args.self.heap ran.new.heap c.args.self.inspection ran.new.inspection inspected told
    judged in
    (ran.new.inspection, ended, none, finishes, ends)
