-- The marker's list has its room still.
use Rattle.std.proofs.Common.{◌∙◌}
use Rattle.table_tests.proofs.Marked.{room_stays}
use Rattle.table_tests.proofs.kinds.run.Goals as goal

pub returns-in-Some-clause-bound : goal.returns-in-Some-clause-bound
returns-in-Some-clause-bound c =
    room_stays c.args.marker.now c.attach.new.self c.mark_some-outcome.new.self c.detach.new.self c.lend.result
    c.args.turns c.mark_some-outcome.result c.attach.ensures c.mark_some-outcome.ensures c.detach.ensures.free
    ∙ c.requires.room

pub returns-in_default-clause-bound : goal.returns-in_default-clause-bound
returns-in_default-clause-bound c =
    room_stays c.args.marker.now c.attach.new.self c.mark_some-outcome.new.self c.detach.new.self c.lend.result
    c.args.turns c.mark_some-outcome.result c.attach.ensures c.mark_some-outcome.ensures c.detach.ensures.free
    ∙ c.requires.room
