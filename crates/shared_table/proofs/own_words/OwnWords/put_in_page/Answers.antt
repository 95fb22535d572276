-- Pages stand before the marks.
use Rattle.std.proofs.Common.{arith}
use Rattle.shared_table.proofs.PageEnds.{pages_before_marks}
use Rattle.shared_table.proofs.own_words.OwnWords.put_in_page.Goals as goal

pub put-requires : goal.put-requires
put-requires c = omega (arith, pages_before_marks c.args.self.now.space, c.requires)
