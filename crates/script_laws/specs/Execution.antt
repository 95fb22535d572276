-- The order of execution, of lines whose blocks are matched.
use Rattle.std.specs.Prelude.{◌≡◌, ℕ, suc, ◌≤◌, List, [], ◌∷◌, ◌++◌, length, take, Some, None}
use Rattle.std.specs.Prelude.{Ok, slice_get}
use Rattle.heap_command.specs.declared.command.Command.{Command}
use Rattle.heap_command.specs.Executed.{Executed}
use Rattle.script_text.specs.declared.script.Line.{Line}
use Rattle.script_text.specs.Scripts.{ScriptText}
use Rattle.script_text.specs.Grammar.{reading}
use Rattle.script_text.specs.Sound.{depth_of, IsMatched}
use Rattle.script_text.specs.Unrolled.{executed, turns, executed_lines}
use Rattle.script_text.specs.Whole.{run_line, repeat_line, end_line, AreBlocks, IsPaired}
use Rattle.script_text.specs.Left.{IsLeft, Goes}

-- the lines of a script that was read are whole
abbrev pub ScriptsAreWhole : Type 0
ScriptsAreWhole =
    (source : List ℕ) (script : ScriptText) → reading source ≡ Ok script → AreBlocks script.lines

-- a command is executed once, and then what follows it
abbrev pub UnrollsRuns : Type 0
UnrollsRuns =
    (number : ℕ) (command : Command) (lines : List Line) → AreBlocks lines
    → executed_lines (run_line number command ∷ lines) ≡ executed number (Some command) ∷ executed_lines lines

-- A block is executed as its `repeat`, and then so many times its lines and its `end`. Then comes what follows it.
abbrev pub UnrollsBlocks : Type 0
UnrollsBlocks =
    (number times end_at last repeat_at : ℕ) (body rest : List Line) → AreBlocks body → AreBlocks rest
    → executed_lines (repeat_line number times end_at ∷ (body ++ (end_line last repeat_at ∷ rest)))
    ≡ executed number None ∷ (turns times (executed_lines body ++ (executed last None ∷ [])) ++ executed_lines rest)

-- all lines are left at the beginning
abbrev pub AllIsLeft : Type 0
AllIsLeft = (lines : List Line) → IsPaired 0 lines → IsLeft lines 0 [] (executed_lines lines)

-- past the last line nothing is left, and no block is open
abbrev pub NothingIsLeft : Type 0
NothingIsLeft =
    (lines : List Line) (at : ℕ) (turns_left : List ℕ) (left : List Executed) → IsLeft lines at turns_left left
    → slice_get lines at ≡ None → (turns_left ≡ []) × (left ≡ [])

-- a command is a step, and the next line follows
abbrev pub GoesPastCommands : Type 0
GoesPastCommands =
    (lines : List Line) (at : ℕ) (turns_left : List ℕ) (left : List Executed) (number : ℕ) (command : Command)
    → IsLeft lines at turns_left left → slice_get lines at ≡ Some (run_line number command)
    → Goes lines (suc at) turns_left left (executed number (Some command))

-- a `repeat` with turns is a step, and its first line follows
abbrev pub GoesIntoBlocks : Type 0
GoesIntoBlocks =
    (lines : List Line) (at : ℕ) (turns_left : List ℕ) (left : List Executed) (number more end_at : ℕ)
    → IsLeft lines at turns_left left → slice_get lines at ≡ Some (repeat_line number (suc more) end_at)
    → Goes lines (suc at) (more ∷ turns_left) left (executed number None)

-- a `repeat` of no turn is a step, and the line behind its `end` follows
abbrev pub GoesPastBlocks : Type 0
GoesPastBlocks =
    (lines : List Line) (at : ℕ) (turns_left : List ℕ) (left : List Executed) (number end_at : ℕ)
    → IsLeft lines at turns_left left → slice_get lines at ≡ Some (repeat_line number 0 end_at)
    → Goes lines (suc end_at) turns_left left (executed number None)

-- an `end` with a turn left is a step, and the first line of its block follows
abbrev pub GoesBack : Type 0
GoesBack =
    (lines : List Line) (at more : ℕ) (turns_left : List ℕ) (left : List Executed) (number repeat_at : ℕ)
    → IsLeft lines at (suc more ∷ turns_left) left → slice_get lines at ≡ Some (end_line number repeat_at)
    → Goes lines (suc repeat_at) (more ∷ turns_left) left (executed number None)

-- an `end` with no turn left is a step, and the line behind it follows
abbrev pub GoesOut : Type 0
GoesOut =
    (lines : List Line) (at : ℕ) (turns_left : List ℕ) (left : List Executed) (number repeat_at : ℕ)
    → IsLeft lines at (0 ∷ turns_left) left → slice_get lines at ≡ Some (end_line number repeat_at)
    → Goes lines (suc at) turns_left left (executed number None)

-- no `end` stands outside blocks
abbrev pub EndsStandInBlocks : Type 0
EndsStandInBlocks =
    (lines : List Line) (at : ℕ) (left : List Executed) (number repeat_at : ℕ) → IsLeft lines at [] left
    → slice_get lines at ≡ Some (end_line number repeat_at) → ⊥

-- for each open block there is a number of turns
abbrev pub CountsOpenBlocks : Type 0
CountsOpenBlocks =
    (lines : List Line) (at : ℕ) (turns_left : List ℕ) (left : List Executed) → IsLeft lines at turns_left left
    → depth_of 0 (take at lines) ≡ length turns_left

-- of matched lines at most four blocks are open
abbrev pub FewBlocksAreOpen : Type 0
FewBlocksAreOpen =
    (lines : List Line) (at : ℕ) (turns_left : List ℕ) (left : List Executed) → IsMatched lines
    → IsLeft lines at turns_left left → length turns_left ≤ 4
