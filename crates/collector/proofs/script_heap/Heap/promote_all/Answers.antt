use Rattle.std.proofs.Common.{arith}
use Rattle.collector.specs.Born.{BeginsCycle}
use Rattle.collector.proofs.MadeRoom.{some_shown}
use Rattle.collector.proofs.script_heap.Heap.promote_all.Goals as goal

pub collect_all-requires : goal.collect_all-requires
collect_all-requires c = record {
  shown = rw c.survivors.ensures.same (some_shown c.collect.ensures.shows c.requires.shown);
}

pub returns-then-survivors-gt0-clause-begun : goal.returns-then-survivors-gt0-clause-begun
returns-then-survivors-gt0-clause-begun c = λ graph shown.
    let collects = rw c.survivors.ensures.same at (c.collect_all.ensures.collected graph) in (
      BeginsCycle.collects_all c.collect.new.self.main c.collect.ensures.scavenged c.collect.ensures.rooms
          (omega (arith, c.if-survivors-gt0.true, c.survivors.ensures.words))
          (collects (c.collect.ensures.shows graph shown)),
      c.collect_all.ensures.noted,
    )

pub returns-else-survivors-gt0-clause-begun : goal.returns-else-survivors-gt0-clause-begun
returns-else-survivors-gt0-clause-begun c = λ graph shown.
    rw c.survivors.ensures.same (
      BeginsCycle.promotes_all c.collect.ensures.scavenged c.collect.ensures.rooms
          (omega (arith, c.if-survivors-gt0.false, c.survivors.ensures.words)),
      c.collect.ensures.noted,
    )

pub returns-then-survivors-gt0-clause-shows : goal.returns-then-survivors-gt0-clause-shows
returns-then-survivors-gt0-clause-shows c = λ graph shown.
    c.collect_all.ensures.shows graph (rw c.survivors.ensures.same (c.collect.ensures.shows graph shown))
