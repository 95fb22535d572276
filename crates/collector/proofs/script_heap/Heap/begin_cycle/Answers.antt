use Rattle.collector.proofs.script_heap.Heap.begin_cycle.Goals as goal

pub returns-then-not-self-clause-begun : goal.returns-then-not-self-clause-begun
returns-then-not-self-clause-begun c = λ none graph shown.
    rw (← c.self-then-not-self.view_is) at (c.promote_all.ensures.begun graph shown)
