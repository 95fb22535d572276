-- The run of a list of executed lines.
use Rattle.std.specs.Prelude.{◌≡◌, ℕ, ◌≤◌, List, [], ◌∷◌, ◌++◌, length, take, drop, Option, Some, None}
use Rattle.std.specs.Prelude.{option_and_then, ◌==◌, nat_lt, if◌then◌else◌}
use Rattle.heap_command.specs.declared.command.FaultWord.{FaultWord}
use Rattle.heap_command.specs.declared.command.Command.{Command}
use Rattle.heap_command.specs.Executed.{Executed}
use Rattle.object_graph.specs.Graphs.{Graph, start}
use Rattle.object_graph.specs.Meaning.{Limits, Outcome, done, fault, meaning}

-- the graph and the bytes after some lines
pub record Told : Type 0 where
  pub graph : Graph
  pub bytes : List ℕ

-- nothing was run
abbrev pub untold : Told
untold = record { graph = start; bytes = [] }

-- what was told, and what this outcome adds; nothing where it is a fault
abbrev pub told_with : Told → Outcome → Option Told
told_with so_far (done graph text) = Some (record { graph = graph; bytes = so_far.bytes ++ text })
told_with so_far (fault word) = None

-- one executed line more
abbrev pub tell : Limits → List (List ℕ) → Told → Option Command → Option Told
tell limits names so_far None = Some so_far
tell limits names so_far (Some command) = told_with so_far (meaning limits names so_far.graph command)

-- some executed lines more, in order; nothing where one of them faults
abbrev pub run_from : Limits → List (List ℕ) → Told → List Executed → Option Told
run_from limits names so_far [] = Some so_far
run_from limits names so_far (line ∷ lines) =
    option_and_then (λ next. run_from limits names next lines) (tell limits names so_far line.command)

-- The graph and the bytes after these executed lines, the first of a script's; nothing where one of them faults.
-- A script's run after n lines is that of its first n.
abbrev pub run_of : Limits → List (List ℕ) → List Executed → Option Told
run_of limits names lines = run_from limits names untold lines

-- the most executed lines
abbrev pub lines_most : ℕ
lines_most = 20000000

-- how a run ends: no line is next, the next line has a fault, or it would be one line too many
pub data Ending : Type 0 where
  end : Ending
  fault_at : ℕ → FaultWord → Ending
  limit_at : ℕ → Ending

-- the end that an outcome makes of a run at the line of this number: its fault, if it is one
abbrev pub fault_in : ℕ → Outcome → Option Ending
fault_in number (done graph text) = None
fault_in number (fault word) = Some (fault_at number word)

-- the end at the line of this number: the fault of its command, if it runs one and that has a fault
abbrev pub fault_of : Limits → List (List ℕ) → Graph → ℕ → Option Command → Option Ending
fault_of limits names graph number None = None
fault_of limits names graph number (Some command) = fault_in number (meaning limits names graph command)

-- how a run ends at these lines, where no more than the most lines were executed
abbrev pub ending_here : Limits → List (List ℕ) → Graph → ℕ → List Executed → Option Ending
ending_here limits names graph executed [] = Some end
ending_here limits names graph executed (next ∷ more) =
    if executed == lines_most then Some (limit_at next.number) else fault_of limits names graph next.number next.command

-- How a run ends after so many lines, with these lines still to be executed; nothing where it goes on. At the most
-- executed lines a next line is one too many, whatever it would do; and no run is past them.
abbrev pub ending : Limits → List (List ℕ) → Graph → ℕ → List Executed → Option Ending
ending limits names graph executed lines =
    if nat_lt lines_most executed then None else ending_here limits names graph executed lines

-- the run of these lines ends after the first n of them, with this told, in this way
pub record EndsAfter
    (limits : Limits) (names : List (List ℕ)) (lines : List Executed) (n : ℕ) (so_far : Told) (how : Ending)
    : Type 0 where
  pub within : n ≤ length lines
  pub said : run_of limits names (take n lines) ≡ Some so_far
  pub ends : ending limits names so_far.graph n (drop n lines) ≡ Some how
