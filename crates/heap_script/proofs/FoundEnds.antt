-- To what a run comes at its end whose judge answered, once its last bytes are handed on.
use Rattle.std.proofs.Common.{◌≡◌, ◌∙◌, ℕ, Bool, List, Option, ap, subst}
use Rattle.script_text.specs.Scripts.{ScriptText}
use Rattle.collector.specs.States.{HeapState}
use Rattle.byte_ends.specs.Faults.{Rose}
use Rattle.byte_ends.specs.Sink.{Appends}
use Rattle.heap_check.specs.declared.flaw.Flaw.{Flaw}
use Rattle.heap_script.specs.declared.finished.How.{How}
use Rattle.heap_script.specs.declared.finished.How.TheVariants as ways
use Rattle.heap_script.specs.declared.finished.Finished.{Finished}
use Rattle.heap_script.specs.declared.inspecting.Inspection.{Inspection}
use Rattle.heap_script.specs.Found.{PausesFound, FinishesFound, EndIsJudged}
use Rattle.heap_script.specs.Inspecting.{HasInspected}
use Rattle.heap_script.specs.Runs.{CutsOff, need_at}
use Rattle.heap_script.specs.Stages.{stage_of}
use Rattle.heap_script.proofs.Finishing.{finished_by, Finishes-cut, Finishes-written, Finishes-failed}
use Rattle.heap_script.proofs.FinalJudgements.{Answering, PauseIsJudged, not_final}

module _ {J : Type 0} (Judged : Answering J) (start : HeapState) (before later : Inspection J) (counted : Bool)
    (script : ScriptText) (heap : HeapState) (waiting : List ℕ) where
  -- what a run comes to at its end, and that it was judged there
  abbrev pub EndsFound : Finished → (List ℕ → Type 0) → (List ℕ → Type 0) → ℕ → ℕ → Option Flaw → Type 0
  EndsFound finished old new fo fn found =
      (finishes : FinishesFound counted script (stage_of heap.main) finished old new fo fn found)
      × EndIsJudged Judged start before later heap.main finishes

  -- the same with what was inspected before
  pub with_inspected : {finished : Finished} {old new : List ℕ → Type 0} {fo fn : ℕ} (found : Option Flaw)
      (ended : Bool) → HasInspected Judged script start before ended finished.executed heap later found
      → EndsFound finished old new fo fn found → (found : Option Flaw) × (ended : Bool)
      × HasInspected Judged script start before ended finished.executed heap later found
      × (finishes : FinishesFound counted script (stage_of heap.main) finished old new fo fn found)
      × EndIsJudged Judged start before later heap.main finishes
  with_inspected found ended inspected (finishes, judged) = (found, ended, inspected, finishes, judged)

  -- the sink failed between two lines
  pub found_cut : {found : Option Flaw} (how : How) (line n need : ℕ) (old new : List ℕ → Type 0) (fo fn : ℕ)
      → how ≡ ways.SinkFault need → PausesFound counted script heap waiting (finished_by how line n) old new fo fn found
      → EndsFound (finished_by how line n) old new fo fn found
  found_cut how line n need old new fo fn is (PausesFound.unflawed p) =
      let (finishes, none) = Finishes-cut counted script heap waiting how line n need old new fo fn is p in (
        FinishesFound.unflawed finishes,
        not_final Judged script start before later n heap.main finishes.reached.so_far.graph finishes.collections
            (λ final. cc),
      )
  found_cut how line n need old new fo fn is (PausesFound.flawed flaw graph other shown steady) =
      (FinishesFound.flawed flaw other steady, tt)

  -- what waited was written
  pub found_written : {found : Option Flaw} (how : How) (line n : ℕ) (old mid new : List ℕ → Type 0) (fo fm last : ℕ)
      → ((need : ℕ) → how ≡ ways.SinkFault need → ⊥)
      → (paused : PausesFound counted script heap waiting (finished_by how line n) old mid fo fm found)
      → PauseIsJudged Judged start before later heap.main paused → Appends mid new waiting → last ≡ fm
      → EndsFound (finished_by how line n) old new fo last found
  found_written how line n old mid new fo fm last other (PausesFound.unflawed p) judged wrote same = (
    FinishesFound.unflawed
        (Finishes-written counted script heap waiting how line n old mid new fo fm last other p wrote same),
    judged,
  )
  found_written how line n old mid new fo fm last other (PausesFound.flawed flaw graph is shown steady) judged wrote
      same =
      (FinishesFound.flawed flaw is (same ∙ steady), tt)

  -- writing what waited failed
  pub found_failed : {found : Option Flaw} (how : How) (line n : ℕ) (old mid new : List ℕ → Type 0) (fo fm last : ℕ)
      → ((need : ℕ) → how ≡ ways.SinkFault need → ⊥)
      → (paused : PausesFound counted script heap waiting (finished_by how line n) old mid fo fm found)
      → PauseIsJudged Judged start before later heap.main paused → CutsOff mid new waiting → Rose fm last
      → EndsFound (finished_by (ways.SinkFault (need_at how)) line n) old new fo last found
  found_failed how line n old mid new fo fm last other (PausesFound.unflawed p) judged wrote rose = (
    FinishesFound.unflawed
        (Finishes-failed counted script heap waiting how line n old mid new fo fm last other p wrote rose),
    judged,
  )
  found_failed how line n old mid new fo fm last other (PausesFound.flawed flaw graph is shown steady) judged wrote
      rose = (
        FinishesFound.cut flaw (ap (λ (one : How). ways.SinkFault (need_at one)) is)
            (subst (λ before. Rose before last) steady rose),
        tt,
      )
