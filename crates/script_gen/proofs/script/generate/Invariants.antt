-- What is written, with the lines of the forms that are left, is the script up to its `end`; and the lists are short.
use Rattle.std.proofs.Common.{◌≡◌, ◌++◌, ◌-◌}
use Rattle.std.specs.List.{flat_map}
use Rattle.script_gen.specs.Lines.{line_text}
use Rattle.script_gen.specs.Generated.{form_lines}
use Rattle.script_gen.proofs.Lengths.{AreShortBefore}
use Rattle.script_gen.proofs.script.generate.Given as goal

abbrev pub invariant-loop-number : goal.invariant-loop-number
invariant-loop-number l =
    record {
      written : l.out.items ++ flat_map line_text (form_lines (l.n - l.number) l.number l.kept)
          ≡ l.initial.out.items ++ flat_map line_text (form_lines l.n 0 l.initial.kept);
      short : AreShortBefore l.number l.kept;
    }
