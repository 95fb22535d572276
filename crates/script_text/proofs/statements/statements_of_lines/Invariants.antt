use Rattle.std.proofs.Common.{◌≡◌, ◌+◌, [], map, drop}
use Rattle.script_text.specs.Gathered.{gathered}
use Rattle.script_text.specs.Grammar.{stated_from}
use Rattle.script_text.specs.Shown.{stated_shown}
use Rattle.script_text.proofs.statements.statements_of_lines.Given as goal

abbrev pub invariant-loop-i : goal.invariant-loop-i
invariant-loop-i l =
    gathered (map stated_shown l.statements.stated.items)
    (stated_from l.opening.version (l.opening.skipped + l.i + 1) l.statements.opened
    (map (λ line. line.now) (drop l.i l.lines)))
    ≡ stated_from l.opening.version (l.opening.skipped + 1) [] (map (λ line. line.now) l.lines)
