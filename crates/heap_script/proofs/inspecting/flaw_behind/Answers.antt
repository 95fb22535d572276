use Rattle.std.proofs.Common.{subst, sym, false}
use Rattle.collector.specs.States.{HeapState, HeapShows}
use Rattle.collector.proofs.Keeping.{noted_shows}
use Rattle.heap_script.proofs.inspecting.flaw_behind.Goals as goal

pub judge-requires-clause-shown : goal.judge-requires-clause-shown
judge-requires-clause-shown g c =
    let (graph, shown) = c.requires.shown in (
      graph,
      subst (λ (one : HeapState). HeapShows one graph) (sym c.take_collected.ensures.taken)
          (noted_shows c.args.heap.now false graph shown),
    )
