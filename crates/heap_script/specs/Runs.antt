-- How the run of a script on a heap ends, and what its sink takes.
use Rattle.std.specs.Prelude.{◌≡◌, ◌≢◌, ◌⊎◌, ℕ, ◌+◌, ◌<◌, ◌≤◌, List}
use Rattle.std.specs.Prelude.{[], ◌++◌, length, take, slice_get, Option, Some, None, Bool, true, false, nat_lt}
use Rattle.std.specs.Prelude.{if◌then◌else◌}
use Rattle.heap_model.specs.Types.{FaultWord, Run}
use Rattle.heap_command.specs.Executed.{Executed}
use Rattle.heap_command.specs.declared.command.FaultWord.TheVariants.{WeakFull}
use Rattle.object_graph.specs.Graphs.{Graph}
use Rattle.object_graph.specs.Limits.{ideal_limits}
use Rattle.object_graph.specs.Reach.{reached_objects, reached_entries}
use Rattle.object_graph.specs.Run.{Told, run_of, lines_most, end, fault_at, limit_at, ending}
use Rattle.script_text.specs.Scripts.{ScriptText}
use Rattle.script_text.specs.Unrolled.{executed_lines}
use Rattle.heap_model.specs.Heaps.{Heap}
use Rattle.heap_model.specs.Collectable.{AreFreeRuns}
use Rattle.live_cells.specs.Exact.{Exact, Fits}
use Rattle.live_cells.specs.Fitting.{DeadIsFree}
use Rattle.scavenger.specs.Laws.{IsStuck}
use Rattle.collector.specs.Born.{Opening}
use Rattle.heap_check.specs.declared.counts.Counts.{Counts}
use Rattle.mutator.specs.declared.output.TheConstants.{OUTPUT_BYTES, ROOM}
use Rattle.byte_ends.specs.Faults.{Rose}
use Rattle.byte_ends.specs.Sink.{Appends, AppendsSome}
use Rattle.heap_script.specs.declared.finished.How.{How}
use Rattle.heap_script.specs.declared.finished.How.TheVariants as how
use Rattle.heap_script.specs.declared.finished.Finished.{Finished}
use Rattle.heap_script.specs.Stages.{Stage, Collections, uncollected, fully_collected, finally_collected}
use Rattle.heap_script.specs.Reached.{left_after, RanTo, EndsAs}
use Rattle.heap_script.specs.Spending.{HoldsOfNeed, Spends}

-- The heap, which shows a graph and whose pages have these free runs, is full for so many words: it keeps exactly what
-- can be reached, and they fit nowhere beside that. Eden is empty, each word of a page that is not kept is in a free
-- run, and each young cell is longer than each free run.
pub record IsFull (heap : Heap) (rows : List (List Run)) (graph : Graph) (need : ℕ) : Type 0 where
  pub exact : Exact heap graph
  pub full : Fits heap need → ⊥
  pub empty : heap.used ≡ 0
  pub dead : DeadIsFree heap rows
  pub stuck : IsStuck heap rows

-- The run does not end after so many lines: one is next, and it neither faults nor stands at the limit. It has this
-- number, and its command needs so many words, for which the heap is full, though it was fully collected since the last
-- line.
pub record FullAt (script : ScriptText) (heap : Heap) (rows : List (List Run)) (collections : Collections)
    (executed : ℕ) (so_far : Told) (line need : ℕ) : Type 0 where
  pub goes_on : ending ideal_limits script.fields so_far.graph executed (left_after script executed) ≡ None
  pub at : Executed
  pub next : slice_get (executed_lines script.lines) executed ≡ Some at
  pub number : at.number ≡ line
  pub needs : HoldsOfNeed heap so_far.graph at.command (λ words. need ≡ words)
  pub full : IsFull heap rows so_far.graph need
  pub collected : collections ≡ fully_collected

-- `weakfull` comes after a full collection, which came since the map was full of pairs; any other fault comes before
-- the heap is collected for its line.
abbrev pub FaultsBehind : FaultWord → Collections → Type 0
FaultsBehind word collections =
    ((word ≢ WeakFull) × (collections ≡ uncollected)) ⊎ ((word ≡ WeakFull) × (collections ≡ fully_collected))

-- these are the counts of what of the graph can be reached: its objects, and the entries whose map and key can
abbrev pub HasCounts : Graph → Counts → Type 0
HasCounts graph counts = (counts.objects ≡ reached_objects graph) × (counts.entries ≡ reached_entries graph)

-- After so many lines the run comes to an end, in this way and at this line, on a heap whose pages have these free
-- runs, behind these collections since the last line: none, but where it, or a weak map, is full. A run that is to
-- count its heap comes to the end of its script behind one full collection more, with the counts of what can be
-- reached. No flaw is found, and a sink that fails is no end of a script.
abbrev pub EndsRun : Bool → ScriptText → Heap → List (List Run) → Collections → ℕ → Told → How → ℕ → Type 0
EndsRun counted script heap rows collections executed so_far how.End line =
    (counted ≡ false) × (line ≡ 0) × (collections ≡ uncollected) × EndsAs script executed so_far end
EndsRun counted script heap rows collections executed so_far (how.Counted counts) line =
    (counted ≡ true) × (line ≡ 0) × (collections ≡ finally_collected) × EndsAs script executed so_far end
    × HasCounts so_far.graph counts
EndsRun counted script heap rows collections executed so_far (how.Fault word) line =
    FaultsBehind word collections × EndsAs script executed so_far (fault_at line word)
EndsRun counted script heap rows collections executed so_far (how.HeapFull need) line =
    FullAt script heap rows collections executed so_far line need
EndsRun counted script heap rows collections executed so_far (how.SinkFault need) line = ⊥
EndsRun counted script heap rows collections executed so_far how.LineLimit line =
    (collections ≡ uncollected) × EndsAs script executed so_far (limit_at line)
EndsRun counted script heap rows collections executed so_far (how.Flawed flaw) line = ⊥

-- the words that were wanted where the run came to this, or 0
abbrev pub need_at : How → ℕ
need_at (how.HeapFull need) = need
need_at (how.SinkFault need) = need
need_at _ = 0

-- Of the bytes that the output holds before a line, those that wait on while it is executed: none where they fill the
-- output, since they are handed on, and else all. They fill it where it may lack room for what one more command writes.
abbrev pub waiting_of : List ℕ → List ℕ
waiting_of held = if nat_lt OUTPUT_BYTES (length held + ROOM) then [] else held

-- the line behind the first so many tells these bytes
pub record TellsAt (script : ScriptText) (executed : ℕ) (text : List ℕ) : Type 0 where
  pub before : Told
  pub said_before : run_of ideal_limits script.fields (take executed (executed_lines script.lines)) ≡ Some before
  pub after : Told
  pub said_after : run_of ideal_limits script.fields (take (executed + 1) (executed_lines script.lines)) ≡ Some after
  pub adds : after.bytes ≡ before.bytes ++ text

-- What the output holds after so many lines: nothing before the first one, and then what each line tells, behind what
-- waited while it was executed.
pub data OutputHolds (script : ScriptText) : ℕ → List ℕ → Type 0 where
  nothing : OutputHolds script 0 []
  one_more : (executed : ℕ) (held text : List ℕ) → OutputHolds script executed held → TellsAt script executed text
      → OutputHolds script (executed + 1) (waiting_of held ++ text)

-- After so many lines an output is due: what it holds fills it, and one line more is to be executed, which may be.
pub record IsDue (script : ScriptText) (executed : ℕ) : Type 0 where
  pub held : List ℕ
  pub holds : OutputHolds script executed held
  pub fills : OUTPUT_BYTES < length held + ROOM
  pub next : executed < length (executed_lines script.lines)
  pub few : executed < lines_most

-- The sink failed while what waited was handed on. It took a front of what was told, not all of it; no more is missing
-- than one output holds.
pub record CutsOff (old new : List ℕ → Type 0) (bytes : List ℕ) : Type 0 where
  pub some : AppendsSome old new bytes
  pub near : length bytes ≤ some.count + OUTPUT_BYTES

-- the run ended by a sink that failed
abbrev pub IsCut : How → Type 0
IsCut (how.SinkFault need) = Unit {0}
IsCut _ = ⊥

-- Where the sink failed: between two lines, which is the line 0 and the need 0, where an output is due just there, and
-- no collection came since the last line. Or at an end with this line and this need.
abbrev pub FailedAt : Bool → ScriptText → Heap → List (List Run) → Collections → ℕ → Told → ℕ → ℕ → Type 0
FailedAt counted script heap rows collections executed so_far line need =
    ((line ≡ 0) × (need ≡ 0) × (collections ≡ uncollected) × IsDue script executed)
    ⊎ ((came : How) × EndsRun counted script heap rows collections executed so_far came line × (need ≡ need_at came))

-- What was told was written, and the run came to this. Or the sink failed, and a front of what was told was written.
abbrev pub Writes : Bool → ScriptText → Heap → List (List Run) → Collections → Finished → Told → (List ℕ → Type 0)
    → (List ℕ → Type 0) → ℕ → ℕ → How → Type 0
Writes counted script heap rows collections finished so_far old new faults_old faults_new (how.SinkFault need) =
    FailedAt counted script heap rows collections finished.executed so_far finished.line need
    × CutsOff old new so_far.bytes × Rose faults_old faults_new
Writes counted script heap rows collections finished so_far old new faults_old faults_new came =
    EndsRun counted script heap rows collections finished.executed so_far came finished.line
    × Appends old new so_far.bytes × (faults_new ≡ faults_old)

-- The run of a script, which is to count its heap or not: how far it came, what it spent, which runs of pages are free,
-- how it ended, and what the sink took, which may have taken these bytes before and after, with so many faults.
pub record Finishes (counted : Bool) (script : ScriptText) (stage : Stage) (finished : Finished)
    (old new : List ℕ → Type 0) (faults_old faults_new : ℕ) : Type 0 where
  pub reached : RanTo script stage.heap finished.executed
  pub collections : Collections
  pub opened : Option Opening
  pub spends : Spends script stage finished.executed collections opened
  pub free : AreFreeRuns stage.heap stage.rows
  pub writes : Writes counted script stage.heap stage.rows collections finished reached.so_far old new faults_old
      faults_new finished.how
