-- A run whose heap was judged: it stands where it stood.
use Rattle.std.proofs.Common.{◌≡◌, ◌≢◌, ◌∙◌, ℕ, Bool, true, false, List, refl, sym, ap, subst}
use Rattle.page_space.specs.Extents.{Space}
use Rattle.std.proofs.lemmas.Bool.{false≢true}
use Rattle.object_graph.specs.Run.{Told}
use Rattle.script_text.specs.Scripts.{ScriptText}
use Rattle.write_barrier.specs.MutatorState.{heap_of}
use Rattle.collector.specs.States.{HeapState, with_collected}
use Rattle.collector.proofs.Keeping.{noted_shows}
use Rattle.heap_script.specs.declared.finished.How.{How}
use Rattle.heap_script.specs.declared.finished.How.TheVariants as ways
use Rattle.heap_script.specs.declared.finished.Finished.{Finished}
use Rattle.heap_script.specs.Stages.{Stage, Collections, finally_collected, stage_of}
use Rattle.heap_script.specs.Reached.{RanTo}
use Rattle.heap_script.specs.Spending.{Spends}
use Rattle.heap_script.specs.declared.inspecting.Inspection.{Inspection}
use Rattle.heap_script.specs.declared.inspecting.Inspection.TheVariants.{Nothing, Counts as ByCensus, Checks}
use Rattle.heap_script.specs.Inspecting.{IsFor, EndsCounted}
use Rattle.heap_script.specs.Progress.{Halts, Pauses}
use Rattle.heap_script.specs.Between.{Running}
use Rattle.heap_script.proofs.Running.{Running-noted}
use Rattle.heap_script.proofs.Finishing.{finished_by}

-- an inspection that is for a heap is for one over the same regions
pub is_for : (heap after : HeapState) {inspection later : Inspection Space} → later ≡ inspection
    → after.main.seat.space ≡ heap.main.seat.space → IsFor heap inspection → IsFor after later
is_for heap after {inspection = Nothing} same space fits = rw same tt
is_for heap after {inspection = ByCensus} same space fits = rw same tt
is_for heap after {inspection = Checks regions} same space fits = rw same (fits ∙ sym space)

-- a run stands between two lines where it stood once the heap was judged
pub Running-judged : {script : ScriptText} {heap after : HeapState} {objects : ℕ} {waiting : List ℕ}
    {old new : List ℕ → Type 0} {at : ℕ} {ts : List ℕ} {n : ℕ} {collections : Collections}
    → Running script heap objects waiting old new at ts n collections → after ≡ with_collected heap false
    → Running script after objects waiting old new at ts n collections
Running-judged {script} {heap} {after} {objects} {waiting} {old} {new} {at} {ts} {n} {collections} r taken =
    subst (λ one. Running script one objects waiting old new at ts n collections) (sym taken) (Running-noted false r)

-- a run halts alike, whether a full collection is noted or not
Pauses-noted : {counted : Bool} {script : ScriptText} {heap : HeapState} {waiting : List ℕ} {finished : Finished}
    {old new : List ℕ → Type 0} {faults_old faults_new : ℕ} (collected : Bool)
    → Pauses counted script heap waiting finished old new faults_old faults_new
    → Pauses counted script (with_collected heap collected) waiting finished old new faults_old faults_new
Pauses-noted {heap = heap} collected p = record {
  reached = p.reached;
  collections = p.collections;
  opened = p.opened;
  spends = p.spends;
  shown = noted_shows heap collected p.reached.so_far.graph p.shown;
  halts = p.halts;
}

-- so it does once the heap was judged
pub Pauses-judged : {counted : Bool} {script : ScriptText} {heap after : HeapState} {waiting : List ℕ}
    {finished : Finished} {old new : List ℕ → Type 0} {faults_old faults_new : ℕ}
    → Pauses counted script heap waiting finished old new faults_old faults_new → after ≡ with_collected heap false
    → Pauses counted script after waiting finished old new faults_old faults_new
Pauses-judged {counted} {script} {heap} {after} {waiting} {finished} {old} {new} {faults_old} {faults_new} p taken =
    subst (λ one. Pauses counted script one waiting finished old new faults_old faults_new) (sym taken)
    (Pauses-noted false p)

-- where a run is to count its heap, one that halted anywhere but at the end of its script halts alike
halts_alike : (counted : Bool) (script : ScriptText) (stage : Stage) (collections : Collections) (waiting : List ℕ)
    (finished : Finished) (so_far : Told) (old new : List ℕ → Type 0) (fo fn : ℕ) (came : How) → came ≢ ways.End
    → Halts false script stage collections waiting finished so_far old new fo fn came
    → Halts counted script stage collections waiting finished so_far old new fo fn came
halts_alike counted script stage collections waiting finished so_far old new fo fn ways.End other halts =
    absurd (other refl)
halts_alike counted script stage collections waiting finished so_far old new fo fn (ways.Counted counts) other halts =
    absurd (false≢true halts.0.0)
halts_alike counted script stage collections waiting finished so_far old new fo fn (ways.Fault word) other halts = halts
halts_alike counted script stage collections waiting finished so_far old new fo fn (ways.HeapFull need) other halts =
    halts
halts_alike counted script stage collections waiting finished so_far old new fo fn (ways.SinkFault need) other halts =
    halts
halts_alike counted script stage collections waiting finished so_far old new fo fn ways.LineLimit other halts = halts
halts_alike counted script stage collections waiting finished so_far old new fo fn (ways.Flawed flaw) other halts =
    absurd (halts.0)

module _ {script : ScriptText} {heap after : HeapState} {waiting : List ℕ} {line n : ℕ} {old new : List ℕ → Type 0}
    {fo fn : ℕ} where
  -- it pauses as it did, behind the same collections
  pub pauses_alike : (counted : Bool) (how came : How) → how ≢ ways.End
      → (p : Pauses false script heap waiting (finished_by how line n) old new fo fn) → (came ≡ how) × (after ≡ heap)
      → (paused : Pauses counted script after waiting (finished_by came line n) old new fo fn)
      × (paused.collections ≡ p.collections)
  pauses_alike counted how came other p (is, same) =
      let here : Pauses counted script heap waiting (finished_by how line n) old new fo fn = record {
        reached = p.reached;
        collections = p.collections;
        opened = p.opened;
        spends = p.spends;
        shown = p.shown;
        halts = halts_alike counted script (stage_of heap.main) p.collections waiting (finished_by how line n)
            p.reached.so_far old new fo fn how other p.halts;
      } in
      subst
      (λ one. (paused : Pauses counted script one waiting (finished_by came line n) old new fo fn)
      × (paused.collections ≡ p.collections)) (sym same)
      (subst
      (λ one. (paused : Pauses counted script heap waiting (finished_by one line n) old new fo fn)
      × (paused.collections ≡ p.collections)) (sym is) (here, refl))

  -- At the end of a script that is counted the heap was fully collected and counted. The lines told the same.
  pub pauses_counted : (came : How) → (p : Pauses false script heap waiting (finished_by ways.End line n) old new fo fn)
      → EndsCounted heap after p.reached.so_far.graph came
      → (paused : Pauses true script after waiting (finished_by came line n) old new fo fn)
      × (paused.collections ≡ finally_collected) × (paused.reached.so_far ≡ p.reached.so_far)
  pauses_counted came p e =
      let ((none, zero, before, ends), handed, steady) = p.halts in
      let reached : RanTo script (heap_of after.main) n = record {
        within = p.reached.within;
        few = p.reached.few;
        variables = ap (λ (space : Space). space.variables) e.collects.leaves.space ∙ p.reached.variables;
        so_far = p.reached.so_far;
        said = p.reached.said;
        shown = e.collects.shows.shows;
      } in
      let paused : Pauses true script after waiting (finished_by (ways.Counted e.counts) line n) old new fo fn =
      record {
        reached = reached;
        collections = finally_collected;
        opened = p.opened;
        spends = Spends.finally (stage_of heap.main) (stage_of after.main) n p.opened
            (subst (λ one. Spends script (stage_of heap.main) n one p.opened) before p.spends) p.reached ends reached
            e.collects.leaves;
        shown = e.shows;
        halts = ((refl, zero, refl, ends, e.counted), handed, steady);
      } in
      subst
      (λ one. (paused : Pauses true script after waiting (finished_by one line n) old new fo fn)
      × (paused.collections ≡ finally_collected) × (paused.reached.so_far ≡ p.reached.so_far)) (sym e.is)
      (paused, refl, refl)
