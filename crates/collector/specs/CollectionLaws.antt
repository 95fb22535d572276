-- What marking, clearing and sweeping leave, and a scavenge then that promotes all that lives.
use Rattle.std.specs.Prelude.{◌≡◌, true, length}
use Rattle.object_graph.specs.Graphs.{Graph}
use Rattle.write_barrier.specs.MutatorState.{Mutator, MainShows}
use Rattle.scavenger.specs.Laws.{KeepsGraphs}
use Rattle.scavenger.specs.Scavenged.{Scavenges}
use Rattle.collector.specs.MarkSwept.{MarkSweeps}
use Rattle.collector.specs.Collected.{CollectsAll}

-- Both together are a full collection, where each page had a row of free runs.
abbrev pub SweptAndScavengedIsCollected : Type 0
SweptAndScavengedIsCollected =
    (old mid new : Mutator) (graph : Graph) → MainShows old graph → length old.free ≡ old.seat.space.sizes.pages
    → MarkSweeps old mid graph → Scavenges mid new true → KeepsGraphs mid new → CollectsAll old new graph
