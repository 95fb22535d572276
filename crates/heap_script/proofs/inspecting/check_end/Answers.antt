use Rattle.heap_script.proofs.inspecting.check_end.Goals as goal

pub judge-requires-clause-shown : goal.judge-requires-clause-shown
judge-requires-clause-shown g c =
    let (graph, shown) = c.requires.shown in (graph, c.collect_all.ensures.shows graph shown)
