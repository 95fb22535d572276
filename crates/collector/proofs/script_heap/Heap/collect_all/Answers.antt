-- What is live is marked and kept, all else is swept, and what is left is scavenged: that is a full collection.
use Rattle.std.proofs.Common.{ℕ, ap}
use Rattle.std.specs.Vec.{vec_capacity}
use Rattle.write_barrier.proofs.SlotCycles.{quiet_idle}
use Rattle.collector.specs.States.{Rest}
use Rattle.collector.proofs.CollectedAll.{swept_shows}
use Rattle.collector.proofs.script_heap.Heap.collect_all.Goals as goal

pub mark_sweep-requires : goal.mark_sweep-requires
mark_sweep-requires c =
    let (graph, shown) = c.requires.shown in
    record {
      quiet = quiet_idle (rw (← c.self.view_is) at shown.quiet);
      shown = (graph, rw (← c.self.view_is) at shown.main);
      rows = rw (← c.self.view_is) at shown.rows;
      bound = rw (← c.self.view_is) at shown.marks;
    }

pub collect-requires : goal.collect-requires
collect-requires c =
    let (graph, were) = c.requires.shown in
    let shown = rw (← c.self.view_is) at were in
    let old : Rest = record {
      places = vec_capacity c.self.inside.list;
      marks = c.self.inside.marking.bound;
      in_cycle = c.self.inside.in_cycle;
    } in
    let bound = ap (λ (marks : ℕ). record old { marks = marks }) c.mark_sweep.ensures.bound in
    let swept = c.mark_sweep.ensures.collected graph shown.main in
    record { shown = (graph, swept_shows _ _ graph shown bound swept) }

pub returns-clause-collected : goal.returns-clause-collected
returns-clause-collected c =
    rw (← c.self.view_is)
    (λ graph shown.
    c.laws_of_collections.ensures c.self.inside.main c.mark_sweep.new.main c.collect.new.self.main graph shown.main
    shown.rows (c.mark_sweep.ensures.collected graph shown.main) c.collect.ensures.scavenged c.collect.ensures.rooms)
