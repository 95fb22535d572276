-- The innermost open `repeat` is a line.
use Rattle.std.proofs.Common.{rules, ◌≡◌, slice_get, Some, arith}
use Rattle.script_text.proofs.Ending.{first_below}
use Rattle.script_text.proofs.numbering.Numbered.close_at.Goals as goal

pub end_repeat-requires : goal.end_repeat-requires
end_repeat-requires c =
    let top : slice_get c.args.self.now.opened 0 ≡ Some c.in-End-Some.repeat_at = search rules in
    omega (arith, first_below _ c.args.self.now.opened c.in-End-Some.repeat_at c.requires top, c.args.self.now.lines.ok)
