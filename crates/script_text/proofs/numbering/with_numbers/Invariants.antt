use Rattle.script_text.proofs.Advancing.{AreLines}
use Rattle.script_text.proofs.numbering.with_numbers.Given as goal

abbrev pub invariant-loop-i : goal.invariant-loop-i
invariant-loop-i l = AreLines l.stated l.i l.all.names.variables l.all.names.fields l.all.opened l.all.lines.items
