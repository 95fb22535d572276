use Rattle.std.proofs.Common.{arith, ◌∙◌}
use Rattle.script_text.proofs.Cut.{last-ends_empty}
use Rattle.script_text.proofs.lines.ends_empty.Goals as goal

pub returns-in-len1-up : goal.returns-in-len1-up
returns-in-len1-up c = c.is_empty.ensures ∙ last-ends_empty c.args.pieces.now _ (omega arith)
