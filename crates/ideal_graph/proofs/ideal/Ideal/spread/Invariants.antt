use Rattle.std.proofs.Common.{◌≡◌, length}
use Rattle.object_graph.specs.Reach.{rounds}
use Rattle.ideal_graph.proofs.ideal.Ideal.spread.Given as goal

abbrev pub invariant-loop-turn : goal.invariant-loop-turn
invariant-loop-turn l = (l.marks ≡ rounds l.self.graph l._turn) × (length l.next ≡ length l.marks)
