-- Lines whose blocks are matched: each `repeat` has its `end`.
use Rattle.std.specs.Prelude.{◌≡◌, ℕ, suc, ◌+◌, List, [], ◌∷◌, ◌++◌, length}
use Rattle.heap_command.specs.declared.command.Command.{Command}
use Rattle.script_text.specs.declared.script.Line.{Line}
use Rattle.script_text.specs.declared.script.What.TheVariants.{Run, Repeat, End}

-- a line that runs this command
abbrev pub run_line : ℕ → Command → Line
run_line number command = record { number = number; what = Run command }

-- a line that begins a block
abbrev pub repeat_line : ℕ → ℕ → ℕ → Line
repeat_line number times end_at = record { number = number; what = Repeat times end_at }

-- a line that ends a block
abbrev pub end_line : ℕ → ℕ → Line
end_line number repeat_at = record { number = number; what = End repeat_at }

-- lines in which each `repeat` has its `end`
pub data AreBlocks : List Line → Type 0 where
  none : AreBlocks []
  run : (number : ℕ) (command : Command) (lines : List Line) → AreBlocks lines
      → AreBlocks (run_line number command ∷ lines)
  block : (number times end_at last repeat_at : ℕ) (body rest : List Line) → AreBlocks body → AreBlocks rest
      → AreBlocks (repeat_line number times end_at ∷ (body ++ (end_line last repeat_at ∷ rest)))

-- Lines of which the first stands at this place, counted from 0. Each `repeat` has its `end` behind the lines of its
-- block, and each of the two names the place of the other.
pub data IsPaired : ℕ → List Line → Type 0 where
  none : (at : ℕ) → IsPaired at []
  run : (at number : ℕ) (command : Command) (lines : List Line) → IsPaired (suc at) lines
      → IsPaired at (run_line number command ∷ lines)
  block : (at number times end_at last : ℕ) (body rest : List Line) → end_at ≡ suc (at + length body)
      → IsPaired (suc at) body → IsPaired (suc end_at) rest
      → IsPaired at (repeat_line number times end_at ∷ (body ++ (end_line last at ∷ rest)))
