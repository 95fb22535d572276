use Rattle.mark_core.proofs.Passing.{test_tells}
use Rattle.mark_core.proofs.naming.was_read.Goals as goal

pub returns : goal.returns
returns c =
    test_tells c.args.snap.now.slots c.args.offset c.has_slot.result (cc (c.has_slot.ensures, c.as_slice.ensures))
