-- The line of the `repeat` is told where it ends.
use Rattle.std.proofs.Common.{◌≡◌, ◌<◌, length, get_or, set, ap, ◌∙◌, arith}
use Rattle.std.proofs.lemmas.List.{get_or_read}
use Rattle.script_text.specs.declared.script.Line.{Line}
use Rattle.script_text.specs.declared.script.What.TheVariants.{End}
use Rattle.script_text.specs.Blocks.{ended}
use Rattle.script_text.specs.Scripts.{line}
use Rattle.script_text.proofs.Ending.{with_end-set}
use Rattle.script_text.proofs.blocks.end_repeat.Goals as goal

pub returns : goal.returns
returns c =
    let lines = c.args.lines.now.items in
    let at = c.args.repeat_at in
    let none : Line = line 0 (End 0) in
    let lt : at < length lines = omega (arith, c.requires, c.args.lines.now.ok) in
    let found : c.index-line.result.now ≡ get_or lines at none = get_or_read lines _ _ lt c.index-line.ensures none in
    ap (λ what. set lines at (line c.index-line.result.now.number what)) c.ended.ensures
    ∙ ap (λ l. set lines at (line l.number (ended c.args.end_at l.what))) found
    ∙ with_end-set c.args.end_at at lines none lt
