use Rattle.std.proofs.Common.{◌≡◌, ◌+◌, map, drop}
use Rattle.script_text.specs.Versions.{opening_from}
use Rattle.script_text.proofs.versions.opening_of.Given as goal

abbrev pub invariant-loop-i : goal.invariant-loop-i
invariant-loop-i l =
    opening_from (l.i + 1) (map (λ line. line.now) (drop l.i l.lines)) ≡ opening_from 1 (map (λ line. line.now) l.lines)
