use Rattle.std.proofs.Common.{◌∙◌, sym, length}
use Rattle.ideal_parts.proofs.AlongProtos.{leads_on}
use Rattle.ideal_parts.proofs.protos.leads_to.Goals as goal

pub loop-turn-preserved : goal.loop-turn-preserved
loop-turn-preserved c =
    let objects = c.args.objects.now in
    let leads = sym c.proto_of.ensures ∙ c.in-Some.is in
    c.loop-turn.invariant
    ∙ leads_on objects (length objects) c.loop-turn._turn c.loop-turn.at c.args.other c.in-Some.next
    c.loop-turn-test.true c.if-at-other.false leads
