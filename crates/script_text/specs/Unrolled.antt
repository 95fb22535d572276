-- The lines of a script in the order of execution.
use Rattle.std.specs.Prelude.{ℕ, zero, suc, List, [], ◌∷◌, ◌++◌, Option, Some, None}
use Rattle.heap_command.specs.declared.command.Command.{Command}
use Rattle.heap_command.specs.Executed.{Executed}
use Rattle.script_text.specs.declared.script.Line.{Line}
use Rattle.script_text.specs.declared.script.What.{What}
use Rattle.script_text.specs.declared.script.What.TheVariants.{Run, Repeat, End}

-- a line that runs this command, or none
abbrev pub executed : ℕ → Option Command → Executed
executed number command = record { number = number; command = command }

-- so many times the same lines
abbrev pub turns : ℕ → List Executed → List Executed
turns zero lines = []
turns (suc n) lines = lines ++ turns n lines

-- a `repeat` that is open: the lines before it, its number, and how many turns it makes
pub record Block : Type 0 where
  pub before : List Executed
  pub number : ℕ
  pub times : ℕ

-- a block that ends at this line: the `repeat`, and then in each turn its lines and the `end`
abbrev pub unrolled_block : Block → List Executed → ℕ → List Executed
unrolled_block block body number =
    block.before ++ executed block.number None ∷ turns block.times (body ++ executed number None ∷ [])

-- Lines in the order of execution: those before them in the innermost open block are `so_far`. A `repeat` is itself,
-- then its turns; one of no turn is one line. This is of lines whose blocks are matched.
abbrev pub unrolled_from : List Block → List Executed → List Line → List Executed
unrolled_from blocks so_far [] = so_far
unrolled_from blocks so_far (line ∷ lines) =
    unrolled_by blocks so_far line.number line.what (λ blocks' so_far'. unrolled_from blocks' so_far' lines)
  where
    unrolled_by : List Block → List Executed → ℕ → What
        → (List Block → List Executed → List Executed) → List Executed
    unrolled_by blocks so_far number (Run command) next = next blocks (so_far ++ executed number (Some command) ∷ [])
    unrolled_by blocks so_far number (Repeat times end_at) next =
        next (record { before = so_far; number = number; times = times } ∷ blocks) []
    unrolled_by [] so_far number (End repeat_at) next = next [] so_far
    unrolled_by (block ∷ blocks) so_far number (End repeat_at) next = next blocks (unrolled_block block so_far number)

-- the lines of a script in the order of execution
abbrev pub executed_lines : List Line → List Executed
executed_lines lines = unrolled_from [] [] lines
