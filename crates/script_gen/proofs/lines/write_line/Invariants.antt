-- What is written, with what is left to write, is the whole; so is what is drawn.
use Rattle.std.proofs.Common.{◌≡◌, ◌∷◌, ◌++◌, drop}
use Rattle.std.specs.List.{flat_map}
use Rattle.script_gen.specs.Lines.{drawn_words, state_after}
use Rattle.script_gen.proofs.lines.write_line.Given as goal

abbrev pub invariant-loop-operand : goal.invariant-loop-operand
invariant-loop-operand l =
    record {
      written :
          l.out.items ++ flat_map (λ word. 32 ∷ word) (drawn_words (drop l.operand-index l.operands) l.kept.state)
          ≡ l.initial.out.items ++ flat_map (λ word. 32 ∷ word) (drawn_words l.operands l.initial.kept.state);
      drawn : state_after (drop l.operand-index l.operands) l.kept.state ≡ state_after l.operands l.initial.kept.state;
      lengths : l.kept.lengths ≡ l.initial.kept.lengths;
    }
