use Rattle.std.proofs.Common.{◌∙◌, sym}
use Rattle.ideal_parts.specs.Lookups.{seen_plain}
use Rattle.ideal_parts.proofs.AlongProtos.{field_on}
use Rattle.ideal_parts.proofs.protos.field_along.Goals as goal

pub loop-turn-preserved : goal.loop-turn-preserved
loop-turn-preserved c =
    let turn = c.loop-turn._turn in
    let none = sym c.value_under.ensures ∙ c.in_default.is in
    c.loop-turn.invariant
    ∙ field_on c.args.objects.now c.args.most turn (seen_plain c.loop-turn.at) c.args.name c.proto_at.result
    c.in-Some-proto_at.next c.loop-turn-test.true none c.proto_at.ensures c.in-Some-proto_at.is
