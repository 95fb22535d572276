use Rattle.write_barrier.proofs.SlotCycles.{quiet_idle}
use Rattle.collector.proofs.script_heap.Heap.serve.Goals as goal

pub grant_run-requires-clause-quiet : goal.grant_run-requires-clause-quiet
grant_run-requires-clause-quiet c =
    let (graph, shown) = c.requires.shown in
    quiet_idle (rw (← c.self.view_is) at shown.quiet)

pub grant_run-requires-clause-shown : goal.grant_run-requires-clause-shown
grant_run-requires-clause-shown c =
    let (graph, shown) = c.requires.shown in
    (graph, rw (← c.self.view_is) at shown.main)
