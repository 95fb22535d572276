use Rattle.std.proofs.Common.{◌≡◌, length}
use Rattle.script_text.proofs.Operands.{Reads}
use Rattle.script_text.proofs.statement.written_all.Given as goal

abbrev pub invariant-loop-i : goal.invariant-loop-i
invariant-loop-i l = record { room : length l.operands ≡ 3; reads : Reads l.operands l.place-items l.tokens l.i }
