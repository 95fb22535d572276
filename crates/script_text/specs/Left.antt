-- What is left to execute of a script.
use Rattle.std.specs.Prelude.{◌≡◌, ℕ, suc, ◌+◌, List, [], ◌∷◌, ◌++◌, length, take, drop, None}
use Rattle.heap_command.specs.Executed.{Executed}
use Rattle.script_text.specs.declared.script.Line.{Line}
use Rattle.script_text.specs.Sound.{depth_of}
use Rattle.script_text.specs.Unrolled.{executed, turns, executed_lines}
use Rattle.script_text.specs.Whole.{end_line, IsPaired}

-- What is left to execute of these lines, from the line at a place on, where so many turns are left of each open block
-- after the present one, the innermost first. Outside blocks it is the lines from there on, as they are executed.
-- Inside a block it is the rest of its lines and its `end`, then its turns that are left, then what is left behind its
-- `end`.
pub data IsLeft (lines : List Line) : ℕ → List ℕ → List Executed → Type 0 where
  outside : (at : ℕ) (rest : List Line) → drop at lines ≡ rest → depth_of 0 (take at lines) ≡ 0 → IsPaired at rest
      → IsLeft lines at [] (executed_lines rest)
  inside : (at repeat_at turns_left last : ℕ) (outer : List ℕ) (rest body after : List Line) (later : List Executed)
      → drop at lines ≡ rest ++ (end_line last repeat_at ∷ after) → depth_of 0 (take at lines) ≡ suc (length outer)
      → IsPaired at rest
      → drop (suc repeat_at) lines ≡ body ++ (end_line last repeat_at ∷ after) → IsPaired (suc repeat_at) body
      → IsLeft lines (suc (at + length rest)) outer later
      → IsLeft lines at (turns_left ∷ outer)
      (executed_lines rest
      ++ (executed last None ∷ (turns turns_left (executed_lines body ++ (executed last None ∷ [])) ++ later)))

-- This is left to execute: a step, and then the rest, which is what is left from the line at a place on, where so many
-- turns are left of each open block.
pub record Goes (lines : List Line) (at : ℕ) (turns_left : List ℕ) (all : List Executed)
    (first : Executed) : Type 0 where
  pub rest : List Executed
  pub is : all ≡ first ∷ rest
  pub left : IsLeft lines at turns_left rest
