-- How the heap of a run is inspected: at its end, and after lines for which it was fully collected.
use Rattle.std.specs.Prelude.{◌≡◌, ℕ, Bool, true, false, Option, Some, None, Result, Ok, Err, IfOk, is_err}
use Rattle.std.specs.Result.{result_err}
use Rattle.object_graph.specs.Graphs.{Graph}
use Rattle.object_graph.specs.Run.{end}
use Rattle.page_space.specs.Extents.{Space}
use Rattle.script_text.specs.Scripts.{ScriptText}
use Rattle.mutator.specs.declared.stop.Stop.{Stop}
use Rattle.write_barrier.specs.MutatorState.{Mutator, heap_of}
use Rattle.collector.specs.Collected.{CollectsAll}
use Rattle.collector.specs.States.{HeapState, HeapShows, with_collected}
use Rattle.heap_check.specs.declared.counts.Counts.{Counts}
use Rattle.heap_check.specs.declared.flaw.Flaw.{Flaw}
use Rattle.heap_script.specs.declared.inspecting.Inspection.{Inspection}
use Rattle.heap_script.specs.declared.inspecting.Inspection.TheVariants.{Nothing, Counts as ByCensus, Checks}
use Rattle.heap_script.specs.declared.finished.How.{How}
use Rattle.heap_script.specs.declared.finished.How.TheVariants.{End, Counted, Flawed}
use Rattle.heap_script.specs.Runs.{HasCounts}
use Rattle.heap_script.specs.Stages.{Collections}
use Rattle.heap_script.specs.Executing.{counted_more}
use Rattle.heap_script.specs.Noting.{NotesNext}
use Rattle.heap_script.specs.Reached.{RanTo, EndsAs}

-- the run is to count its heap at the end
abbrev pub counts_at_end : Inspection Space → Bool
counts_at_end Nothing = false
counts_at_end ByCensus = true
counts_at_end (Checks space) = true

-- the inspection with the regions of its judge in place of the judge
abbrev pub plan_of : {J : Type 0} → (J → Space) → Inspection J → Inspection Space
plan_of regions Nothing = Nothing
plan_of regions ByCensus = ByCensus
plan_of regions (Checks judge) = Checks (regions judge)

-- a judge, if there is one, is for the regions of the heap
abbrev pub IsFor : HeapState → Inspection Space → Type 0
IsFor heap Nothing = Unit {0}
IsFor heap ByCensus = Unit {0}
IsFor heap (Checks space) = space ≡ heap.main.seat.space

-- The judge, in the first state, judged a heap, and was in the second then; it answered with this flaw, or with none.
abbrev pub Finds : {J : Type 0} → (J → J → Mutator → Result Counts Flaw → Type 0) → J → J → Mutator → Option Flaw
    → Type 0
Finds Judged old new main found =
    (answer : Result Counts Flaw) × Judged old new main answer × (found ≡ result_err answer)

-- Where a full collection came, the heap is judged, if there is a judge, and the flaw that it answers with is this one.
-- Else nothing is judged.
abbrev pub JudgesAfter : {J : Type 0} → (J → J → Mutator → Result Counts Flaw → Type 0) → Bool → Mutator
    → Inspection J → Inspection J → Option Flaw → Type 0
JudgesAfter {J} Judged true main (Checks judge) later found =
    (next : J) × (later ≡ Checks next) × Finds Judged judge next main found
JudgesAfter Judged collected main inspection later found = (later ≡ inspection) × (found ≡ None)

-- The first so many lines of a script led from one heap to another, and the judge from one state to another. After each
-- line, whether it was executed or stopped, the heap was judged if a full collection was noted, and the note was taken;
-- so it was once the heap was fully collected at the end of the script. The judge answered with no flaw each time, but
-- the last time perhaps with this one. Nothing comes after a line that stopped, after that collection, or after a flaw:
-- `ended` says of the first two that one of them came.
pub data HasInspected {J : Type 0} (Judged : J → J → Mutator → Result Counts Flaw → Type 0) (script : ScriptText)
    (start : HeapState) (before : Inspection J) : (ended : Bool) → ℕ → HeapState → Inspection J → Option Flaw
    → Type 0 where
  nothing : HasInspected Judged script start before false 0 start before None
  line : (executed : ℕ) (old new : HeapState) (inspection later : Inspection J) (found : Option Flaw)
      → HasInspected Judged script start before false executed old inspection None
      → (result : Result (Unit {0}) Stop) → NotesNext script executed old new result
      → JudgesAfter Judged new.collected new.main inspection later found
      → HasInspected Judged script start before (is_err result) (counted_more executed result)
      (with_collected new false) later found
  at_end : (executed : ℕ) (old new : HeapState) (inspection later : Inspection J) (found : Option Flaw)
      → HasInspected Judged script start before false executed old inspection None
      → (reached : RanTo script (heap_of old.main) executed) → EndsAs script executed reached.so_far end
      → CollectsAll old.main new.main reached.so_far.graph
      → JudgesAfter Judged true new.main inspection later found
      → HasInspected Judged script start before true executed new later found

-- to what a run comes that came to this, and whose judge answered with this flaw, or with none
abbrev pub how_found : Option Flaw → How → How
how_found None how = how
how_found (Some flaw) how = Flawed flaw

-- to what a run comes at the end of its script, by the answer of its judge
abbrev pub how_judged : Result Counts Flaw → How
how_judged (Ok counts) = Counted counts
how_judged (Err flaw) = Flawed flaw

-- The heap, which shows a graph, was fully collected and shows it still, and these are the counts of what can be
-- reached.
pub record EndsCounted (old new : HeapState) (graph : Graph) (how : How) : Type 0 where
  pub collects : CollectsAll old.main new.main graph
  pub shows : HeapShows new graph
  pub counts : Counts
  pub is : how ≡ Counted counts
  pub counted : HasCounts graph counts

-- The same by a judge, which judged the heap that is left: the run comes to the counts, or to the flaw that the judge
-- answered with.
pub record EndsJudged {J : Type 0} (Judged : J → J → Mutator → Result Counts Flaw → Type 0) (judge next : J)
    (old new : HeapState) (graph : Graph) (how : How) : Type 0 where
  pub collects : CollectsAll old.main new.main graph
  pub shows : HeapShows new graph
  pub answer : Result Counts Flaw
  pub judged : Judged judge next new.main answer
  pub is : how ≡ how_judged answer
  pub counted : IfOk answer (HasCounts graph)

-- A run came to this, or, where it was to count its heap and that was the end of its script, to the counts, or to a
-- flaw.
abbrev pub InspectsEnd : {J : Type 0} → (J → J → Mutator → Result Counts Flaw → Type 0) → Inspection J → Inspection J
    → HeapState → HeapState → Graph → How → How → Type 0
InspectsEnd Judged ByCensus later old new graph End came = (later ≡ ByCensus) × EndsCounted old new graph came
InspectsEnd {J} Judged (Checks judge) later old new graph End came =
    (next : J) × (later ≡ Checks next) × EndsJudged Judged judge next old new graph came
InspectsEnd Judged inspection later old new graph how came = (later ≡ inspection) × (came ≡ how) × (new ≡ old)

-- After so many lines of a script, the heap to which they led was fully collected, and the judge judged what is left,
-- last of all, and answered this. It had found no flaw before.
pub record JudgesLast {J : Type 0} (Judged : J → J → Mutator → Result Counts Flaw → Type 0) (script : ScriptText)
    (start : HeapState) (before later : Inspection J) (executed : ℕ) (main : Mutator) (graph : Graph)
    (answer : Result Counts Flaw) : Type 0 where
  pub heap : HeapState
  pub judge : J
  pub next : J
  pub lines : HasInspected Judged script start before false executed heap (Checks judge) None
  pub collects : CollectsAll heap.main main graph
  pub is : later ≡ Checks next
  pub judged : Judged judge next main answer

-- Where a run that has a judge collected its heap at the end of its script, after so many lines, the judge judged what
-- is left, last of all, and answered with the counts of what can be reached.
abbrev pub JudgesEnd : {J : Type 0} → (J → J → Mutator → Result Counts Flaw → Type 0) → ScriptText → HeapState
    → Inspection J → Inspection J → ℕ → Mutator → Graph → Collections → Type 0
JudgesEnd {J} Judged script start (Checks judge) later executed main graph Collections.finally_collected =
    (counts : Counts) × HasCounts graph counts
    × JudgesLast Judged script start (Checks judge) later executed main graph (Ok counts)
JudgesEnd Judged script start before later executed main graph collections = Unit {0}
