-- How far a run has come between two of its lines.
use Rattle.std.specs.Prelude.{◌≡◌, ℕ, Bool, List, [], ◌++◌, Option, Some, None, Result, Ok, Err}
use Rattle.heap_model.specs.Types.{Command}
use Rattle.heap_command.specs.declared.command.Command.TheVariants as command
use Rattle.heap_command.specs.declared.command.FaultWord.TheVariants.{WeakFull}
use Rattle.object_graph.specs.Graphs.{Graph}
use Rattle.object_graph.specs.Run.{Told}
use Rattle.script_text.specs.declared.script.What.{What}
use Rattle.script_text.specs.declared.script.What.TheVariants.{Run}
use Rattle.script_text.specs.Scripts.{ScriptText}
use Rattle.mutator.specs.declared.stop.Stop.{Stop}
use Rattle.mutator.specs.declared.stop.Stop.TheVariants as stop
use Rattle.write_barrier.specs.MutatorState.{Mutator, heap_of}
use Rattle.collector.specs.Born.{Opening}
use Rattle.collector.specs.States.{HeapState, HeapShows}
use Rattle.byte_ends.specs.Faults.{Rose}
use Rattle.byte_ends.specs.Sink.{Appends}
use Rattle.heap_script.specs.declared.finished.How.{How}
use Rattle.heap_script.specs.declared.finished.How.TheVariants.{Fault, HeapFull, SinkFault}
use Rattle.heap_script.specs.declared.finished.Finished.{Finished}
use Rattle.heap_script.specs.Collecting.{CarriesCommand}
use Rattle.heap_script.specs.Stages.{Stage, Collections, uncollected, stage_of}
use Rattle.heap_script.specs.Reached.{RanTo}
use Rattle.heap_script.specs.Spending.{Spends}
use Rattle.heap_script.specs.Runs.{EndsRun, IsDue, CutsOff}

-- how many objects a command makes
abbrev pub objects_made : Command → ℕ
objects_made (command.New x cap) = 1
objects_made (command.List x) = 1
objects_made (command.Weak x) = 1
objects_made _ = 0

-- the command that a line runs, if it runs one
abbrev pub command_in : What → Option Command
command_in (Run command) = Some command
command_in _ = None

-- how many objects a line makes
abbrev pub made_by : Option Command → ℕ
made_by None = 0
made_by (Some command) = objects_made command

-- a line that runs a command does with the heap what the command does, once room is made for it if need be, and one
-- that runs none does nothing
abbrev pub CarriesLine : List (List ℕ) → Bool → Mutator → Mutator → Graph → Option Command → List ℕ
    → Result (Unit {0}) Stop → Type 0
CarriesLine names in_cycle old new graph None text result = (new ≡ old) × (text ≡ []) × (result ≡ Ok tt)
CarriesLine names in_cycle old new graph (Some command) text result =
    CarriesCommand names in_cycle old new graph command text result

-- what became of a line, whatever the place where the run goes on: it was executed, or this stopped it
abbrev pub outcome_of : Result ℕ Stop → Result (Unit {0}) Stop
outcome_of (Ok place) = Ok tt
outcome_of (Err stop) = Err stop

-- How a run ends at a line whose command was not carried out. A weak map that is full of pairs behind a full collection
-- is the fault `weakfull`.
abbrev pub how_of : Stop → How
how_of (stop.Fault word) = Fault word
how_of (stop.NoRoom need) = HeapFull need
how_of (stop.NoClear entries) = Fault WeakFull

-- of these bytes the first were handed to the sink, and the others wait
pub record Handed (old new : List ℕ → Type 0) (waiting all : List ℕ) : Type 0 where
  pub handed : List ℕ
  pub taken : Appends old new handed
  pub bytes : handed ++ waiting ≡ all

-- The run came to this, and what it told was handed on or waits. Or the sink failed between two lines, where an output
-- was due and no collection came since the last line, and a front of what was told was written.
abbrev pub Halts : Bool → ScriptText → Stage → Collections → List ℕ → Finished → Told → (List ℕ → Type 0)
    → (List ℕ → Type 0) → ℕ → ℕ → How → Type 0
Halts counted script stage collections waiting finished so_far old new faults_old faults_new (SinkFault need) =
    ((finished.line ≡ 0) × (need ≡ 0) × (collections ≡ uncollected) × IsDue script finished.executed)
    × CutsOff old new so_far.bytes × Rose faults_old faults_new
Halts counted script stage collections waiting finished so_far old new faults_old faults_new came =
    EndsRun counted script stage.heap stage.rows collections finished.executed so_far came finished.line
    × Handed old new waiting so_far.bytes × (faults_new ≡ faults_old)

-- The run before its last bytes are handed on, which is to count its heap or not: how far it came, which collections
-- came since the last line, which cycle is open, what it spent, what the heap shows, and how it halted.
pub record Pauses (counted : Bool) (script : ScriptText) (heap : HeapState) (waiting : List ℕ) (finished : Finished)
    (old new : List ℕ → Type 0) (faults_old faults_new : ℕ) : Type 0 where
  pub reached : RanTo script (heap_of heap.main) finished.executed
  pub collections : Collections
  pub opened : Option Opening
  pub spends : Spends script (stage_of heap.main) finished.executed collections opened
  pub shown : HeapShows heap reached.so_far.graph
  pub halts : Halts counted script (stage_of heap.main) collections waiting finished reached.so_far old new faults_old
      faults_new finished.how
