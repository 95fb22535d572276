use Rattle.std.proofs.Common.{◌≡◌, ◌-◌}
use Rattle.object_graph.specs.Prototypes.{field_along}
use Rattle.ideal_parts.specs.Lookups.{seen_plain}
use Rattle.ideal_parts.proofs.protos.field_along.Given as goal

abbrev pub invariant-loop-turn : goal.invariant-loop-turn
invariant-loop-turn l =
    field_along l.objects l.most (seen_plain l.plain) l.name
    ≡ field_along l.objects (l.most - l._turn) (seen_plain l.at) l.name
