use Rattle.std.proofs.Common.{rules}
use Rattle.scav_core.proofs.Tested.{follow_all, follow_not}
use Rattle.scav_core.proofs.possible.follows.Goals as goal

pub returns-then-word_or_0-word : goal.returns-then-word_or_0-word
returns-then-word_or_0-word c =
    follow_not c.args.words.now c.args.first c.args.list.now c.loop-offset.offset c.loop-offset-test.true (search rules)

pub returns : goal.returns
returns c = follow_all c.args.words.now c.args.first c.args.list.now (search rules)
