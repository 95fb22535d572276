-- Words of 0 meet the rule.
use Rattle.std.proofs.Common.{rules}
use Rattle.shared_table.proofs.Beginnings.{begins}
use Rattle.shared_table.proofs.rule.SharedTable.open.Goals as goal

pub of_words-requires : goal.of_words-requires
of_words-requires c = begins c.args.counts c.as_slice.result.now (search rules)
