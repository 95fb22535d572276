-- What becomes of a run whose judge answered with a flaw, or with none.
use Rattle.std.specs.Prelude.{◌≡◌, ℕ, Bool, List, Option, Some, None, Result}
use Rattle.object_graph.specs.Graphs.{Graph}
use Rattle.script_text.specs.Scripts.{ScriptText}
use Rattle.byte_ends.specs.Faults.{Rose}
use Rattle.collector.specs.States.{HeapState, HeapShows}
use Rattle.write_barrier.specs.MutatorState.{Mutator}
use Rattle.heap_check.specs.declared.counts.Counts.{Counts}
use Rattle.heap_check.specs.declared.flaw.Flaw.{Flaw}
use Rattle.heap_script.specs.declared.inspecting.Inspection.{Inspection}
use Rattle.heap_script.specs.declared.finished.How.TheVariants.{Flawed, SinkFault}
use Rattle.heap_script.specs.declared.finished.Finished.{Finished}
use Rattle.heap_script.specs.Stages.{Stage}
use Rattle.heap_script.specs.Runs.{Finishes}
use Rattle.heap_script.specs.Progress.{Pauses}
use Rattle.heap_script.specs.Inspecting.{JudgesEnd}

-- Before its last bytes are handed on: a run whose judge answered with a flaw comes to that, the sink did not fail, and
-- the heap shows some graph; what the run wrote and counted is left open. Any other run pauses.
pub data PausesFound (counted : Bool) (script : ScriptText) (heap : HeapState) (waiting : List ℕ) (finished : Finished)
    (old new : List ℕ → Type 0) (faults_old faults_new : ℕ) : Option Flaw → Type 0 where
  unflawed : Pauses counted script heap waiting finished old new faults_old faults_new
      → PausesFound counted script heap waiting finished old new faults_old faults_new None
  flawed : (flaw : Flaw) (graph : Graph) → finished.how ≡ Flawed flaw → HeapShows heap graph
      → faults_new ≡ faults_old
      → PausesFound counted script heap waiting finished old new faults_old faults_new (Some flaw)

-- At its end: a run whose judge answered with a flaw comes to that where the sink did not fail, and else to a failed
-- sink, with a need of 0; what the run wrote and counted is left open. Any other run finishes.
pub data FinishesFound (counted : Bool) (script : ScriptText) (stage : Stage) (finished : Finished)
    (old new : List ℕ → Type 0) (faults_old faults_new : ℕ) : Option Flaw → Type 0 where
  unflawed : Finishes counted script stage finished old new faults_old faults_new
      → FinishesFound counted script stage finished old new faults_old faults_new None
  flawed : (flaw : Flaw) → finished.how ≡ Flawed flaw → faults_new ≡ faults_old
      → FinishesFound counted script stage finished old new faults_old faults_new (Some flaw)
  cut : (flaw : Flaw) → finished.how ≡ SinkFault 0 → Rose faults_old faults_new
      → FinishesFound counted script stage finished old new faults_old faults_new (Some flaw)

-- Of a run that finished so and found no flaw: what it left at the end of its script was judged, if it has a judge.
abbrev pub EndIsJudged : {J : Type 0} → (J → J → Mutator → Result Counts Flaw → Type 0) → HeapState → Inspection J
    → Inspection J → Mutator → {counted : Bool} {script : ScriptText} {stage : Stage} {finished : Finished}
    {old new : List ℕ → Type 0} {faults_old faults_new : ℕ} {found : Option Flaw}
    → FinishesFound counted script stage finished old new faults_old faults_new found → Type 0
EndIsJudged Judged start before later main {script = script} {finished = finished}
    (FinishesFound.unflawed finishes) =
    JudgesEnd Judged script start before later finished.executed main finishes.reached.so_far.graph finishes.collections
EndIsJudged Judged start before later main (FinishesFound.flawed flaw is steady) = Unit {0}
EndIsJudged Judged start before later main (FinishesFound.cut flaw is rose) = Unit {0}
