use Rattle.std.proofs.Common.{false}
use Rattle.collector.proofs.Keeping.{cycled_shows}
use Rattle.collector.proofs.script_heap.Heap.end_cycle.Goals as goal

pub returns-clause-shows : goal.returns-clause-shows
returns-clause-shows c = λ graph shown.
    let after = rw (← c.self.view_is) at (c.collect_all.ensures.shows graph shown) in
    cycled_shows _ false graph after
