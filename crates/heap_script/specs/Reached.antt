-- How far a script was run on a heap: the lines that were executed, and the graph that they lead to.
use Rattle.std.specs.Prelude.{◌≡◌, ℕ, ◌≤◌, List, length, take, drop, Some}
use Rattle.heap_command.specs.Executed.{Executed}
use Rattle.object_graph.specs.Limits.{ideal_limits}
use Rattle.object_graph.specs.Run.{Told, run_of, lines_most, Ending, EndsAfter}
use Rattle.script_text.specs.Scripts.{ScriptText}
use Rattle.script_text.specs.Unrolled.{executed_lines}
use Rattle.heap_model.specs.Heaps.{Heap}
use Rattle.heap_model.specs.Showing.{Shows}

-- the executed lines of the script that are left after the first so many
abbrev pub left_after : ScriptText → ℕ → List Executed
left_after script executed = drop executed (executed_lines script.lines)

-- the run of the script ends after so many lines, with this told, in this way
abbrev pub EndsAs : ScriptText → ℕ → Told → Ending → Type 0
EndsAs script executed so_far ended =
    EndsAfter ideal_limits script.fields (executed_lines script.lines) executed so_far ended

-- The script was run for so many lines, of which none faulted, and the heap, which has a root for each variable of the
-- script, shows the graph after them.
pub record RanTo (script : ScriptText) (heap : Heap) (executed : ℕ) : Type 0 where
  pub within : executed ≤ length (executed_lines script.lines)
  pub few : executed ≤ lines_most
  pub variables : heap.space.variables ≡ length script.variables
  pub so_far : Told
  pub said : run_of ideal_limits script.fields (take executed (executed_lines script.lines)) ≡ Some so_far
  pub shown : Shows heap so_far.graph
