use Rattle.std.proofs.Common.{◌≡◌, ◌++◌, length, map, take}
use Rattle.script_text.proofs.statement.as_many.Given as goal

abbrev pub invariant-loop-i : goal.invariant-loop-i
invariant-loop-i l = record {
  room : length l.taken ≡ 3;
  taken : map (λ token. token.now) (take l.i l.taken) ++ l.tokens ≡ l.initial.tokens;
}
