-- For which lines the heap was fully collected. It notes that, until it is asked whether it was.
use Rattle.std.specs.Prelude.{◌≡◌, ◌||◌, ◌+◌, Bool, true, false, ℕ, List, Option, Some, None, Result, Ok, Err}
use Rattle.std.specs.Prelude.{slice_get}
use Rattle.heap_model.specs.Types.{Command, FaultWord}
use Rattle.heap_command.specs.Executed.{Executed}
use Rattle.heap_command.specs.declared.command.FaultWord.TheVariants.{WeakFull}
use Rattle.object_graph.specs.Graphs.{Graph}
use Rattle.script_text.specs.Scripts.{ScriptText}
use Rattle.script_text.specs.Unrolled.{executed_lines}
use Rattle.write_barrier.specs.MutatorState.{Mutator, heap_of}
use Rattle.collector.specs.Born.{begins_fully}
use Rattle.collector.specs.States.{HeapState, with_cycle}
use Rattle.mutator.specs.declared.stop.Stop.{Stop}
use Rattle.mutator.specs.declared.stop.Stop.TheVariants.{Fault, NoRoom, NoClear}
use Rattle.heap_script.specs.Collecting.{Collects, CarriesAsked, CarriesAtLast, CarriesCommand}
use Rattle.heap_script.specs.Cycles.{cycle_after_line}
use Rattle.heap_script.specs.Progress.{CarriesLine}
use Rattle.heap_script.specs.Reached.{RanTo}

-- whether the heap was fully collected, by what a command finds of it
abbrev pub found_fully : {names : List (List ℕ)} {old mid : Mutator} {graph : Graph} {command : Command}
    → Collects names old mid graph command → Bool
found_fully (Collects.unchanged same) = false
found_fully (Collects.scavenged need sound lacks makes) = false
found_fully (Collects.collected fully) = true
found_fully (Collects.granted last need fully lacks serves) = true

-- whether it was before a fault: before `weakfull` alone
abbrev pub faults_fully : FaultWord → Bool
faults_fully WeakFull = true
faults_fully _ = false

-- whether it was for a command that stopped so
abbrev pub stops_fully : Stop → Bool
stops_fully (Fault word) = faults_fully word
stops_fully (NoRoom need) = true
stops_fully (NoClear entries) = true

-- whether it was for a command of the collector's, which came to this
abbrev pub asked_fully : {names : List (List ℕ)} {in_cycle : Bool} {old new : Mutator} {graph : Graph}
    {command : Command} {text : List ℕ} → CarriesAsked names in_cycle old new graph command text → Bool
asked_fully (CarriesAsked.scavenges is scavenges keeps carried) = false
asked_fully (CarriesAsked.begins is none begins carried) = begins_fully begins
asked_fully (CarriesAsked.finishes is there collects carried) = true
asked_fully (CarriesAsked.collects_all asks collects carried) = true
asked_fully (CarriesAsked.collects_nothing none same carried) = false

-- whether it was for any other command, which came to this
abbrev pub last_fully : (names : List (List ℕ)) (old new : Mutator) (graph : Graph) (command : Command)
    (text : List ℕ) (result : Result (Unit {0}) Stop) → CarriesAtLast names old new graph command text result → Bool
last_fully names old new graph command text (Ok _) carried = found_fully carried.collects
last_fully names old new graph command text (Err stop) stopped = stops_fully stop

-- whether it was for a command, which came to this
abbrev pub command_fully : {names : List (List ℕ)} {in_cycle : Bool} {old new : Mutator} {graph : Graph}
    {command : Command} {text : List ℕ} {result : Result (Unit {0}) Stop}
    → CarriesCommand names in_cycle old new graph command text result → Bool
command_fully (CarriesCommand.asked is asked) = asked_fully asked
command_fully {names = names} {old = old} {new = new} {graph = graph} {command = command} {text = text}
    {result = result} (CarriesCommand.apart apart carried) =
    last_fully names old new graph command text result carried

-- whether it was for a line, which came to this; for one that runs no command it never is
abbrev pub line_fully : (names : List (List ℕ)) (in_cycle : Bool) (old new : Mutator) (graph : Graph)
    (command : Option Command) (text : List ℕ) (result : Result (Unit {0}) Stop)
    → CarriesLine names in_cycle old new graph command text result → Bool
line_fully names in_cycle old new graph None text result carried = false
line_fully names in_cycle old new graph (Some command) text result carried = command_fully carried

-- A command of the collector's was carried out, and the heap notes whether it was fully collected for it, beside what
-- it noted before.
pub record NotesAsked (names : List (List ℕ)) (old new : HeapState) (graph : Graph) (command : Command)
    (text : List ℕ) : Type 0 where
  pub carries : CarriesAsked names old.rest.in_cycle old.main new.main graph command text
  pub noted : new.collected ≡ (asked_fully carries || old.collected)

-- The same of any other command, which was carried out at last, or stopped for good.
pub record NotesAtLast (names : List (List ℕ)) (old new : HeapState) (graph : Graph) (command : Command)
    (text : List ℕ) (result : Result (Unit {0}) Stop) : Type 0 where
  pub carries : CarriesAtLast names old.main new.main graph command text result
  pub noted : new.collected
      ≡ (last_fully names old.main new.main graph command text result carries || old.collected)

-- The same of a line.
pub record NotesLine (names : List (List ℕ)) (old new : HeapState) (graph : Graph) (command : Option Command)
    (text : List ℕ) (result : Result (Unit {0}) Stop) : Type 0 where
  pub carries : CarriesLine names old.rest.in_cycle old.main new.main graph command text result
  pub noted : new.collected
      ≡ (line_fully names old.rest.in_cycle old.main new.main graph command text result carries || old.collected)

-- The line of a script behind the first so many came to this, on a heap that shows the graph after those. It led to
-- another heap, which notes whether it was fully collected for the line, beside what the first one noted.
pub record NotesNext (script : ScriptText) (executed : ℕ) (old new : HeapState) (result : Result (Unit {0}) Stop)
    : Type 0 where
  pub before : RanTo script (heap_of old.main) executed
  pub line : Executed
  pub next : slice_get (executed_lines script.lines) executed ≡ Some line
  pub text : List ℕ
  pub notes : NotesLine script.fields old new before.so_far.graph line.command text result
  pub rest : new.rest ≡ with_cycle old.rest (cycle_after_line old.rest.in_cycle line.command)

-- The lines of a script after the first so many led from a heap to another, up to the count that stands last, and no
-- full collection is noted after any. That the first ones led to the heap is not said.
pub data Passes (script : ScriptText) (start : HeapState) (from : ℕ) : HeapState → ℕ → Type 0 where
  none : Passes script start from start from
  one_more : (old new : HeapState) (executed : ℕ) → Passes script start from old executed
      → NotesNext script executed old new (Ok tt) → new.collected ≡ false
      → Passes script start from new (executed + 1)
