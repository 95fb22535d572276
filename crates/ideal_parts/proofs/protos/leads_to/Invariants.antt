use Rattle.std.proofs.Common.{◌≡◌, ◌-◌, length}
use Rattle.object_graph.specs.Prototypes.{leads_to}
use Rattle.ideal_parts.proofs.protos.leads_to.Given as goal

abbrev pub invariant-loop-turn : goal.invariant-loop-turn
invariant-loop-turn l =
    leads_to l.objects (length l.objects) l.number l.other
    ≡ leads_to l.objects (length l.objects - l._turn) l.at l.other
