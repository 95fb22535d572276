-- A run whose judge answered: with a flaw, to which it comes, or with none.
use Rattle.std.proofs.Common.{◌≡◌, ◌≢◌, ◌⊎◌, ◌∙◌, ℕ, Bool, true, false, List, Option, Some, None, inl, inr, refl, sym}
use Rattle.std.proofs.Common.{ap, subst, Result, Ok, Err, IfOk}
use Rattle.object_graph.specs.Graphs.{Graph}
use Rattle.page_space.specs.Extents.{Space}
use Rattle.script_text.specs.Scripts.{ScriptText}
use Rattle.collector.specs.Collected.{CollectsAll}
use Rattle.collector.specs.States.{HeapState, HeapShows}
use Rattle.mutator.specs.declared.stop.Stop.{Stop}
use Rattle.mutator.specs.declared.stop.Stop.TheVariants as stop
use Rattle.heap_check.specs.declared.counts.Counts.{Counts}
use Rattle.heap_check.specs.declared.flaw.Flaw.{Flaw}
use Rattle.heap_script.specs.declared.finished.How.{How}
use Rattle.heap_script.specs.declared.finished.How.TheVariants as ways
use Rattle.heap_script.specs.declared.finished.Finished.{Finished}
use Rattle.heap_script.specs.declared.inspecting.Inspection.{Inspection}
use Rattle.heap_script.specs.declared.inspecting.Inspection.TheVariants.{Nothing, Counts as ByCensus, Checks}
use Rattle.heap_script.specs.Found.{PausesFound}
use Rattle.heap_script.specs.Inspecting.{HasInspected, InspectsEnd, EndsJudged, JudgesLast, JudgesEnd}
use Rattle.heap_script.specs.Inspecting.{counts_at_end, plan_of, how_found, how_judged}
use Rattle.heap_script.specs.Between.{Running}
use Rattle.heap_script.specs.Progress.{Pauses, Halts, how_of}
use Rattle.heap_script.specs.Runs.{HasCounts}
use Rattle.heap_script.specs.Stages.{Collections, uncollected, finally_collected, stage_of}
use Rattle.object_graph.specs.Run.{Told}
use Rattle.heap_script.proofs.Finishing.{finished_by}
use Rattle.heap_script.proofs.FinalJudgements.{Answering, PauseIsJudged, not_final, halts_not_final, judged_first}
use Rattle.heap_script.proofs.FinalJudgements.{census_first}
use Rattle.heap_script.proofs.Judging.{pauses_alike, pauses_counted}

-- a run that stopped, while the sink did not fail, comes to that, or to a flaw
pub paused_found : (found : Option Flaw) (how : How) {script : ScriptText} {heap : HeapState} {waiting : List ℕ}
    {line n : ℕ} {old new : List ℕ → Type 0} {fo fn : ℕ} → fn ≡ fo
    → Pauses false script heap waiting (finished_by how line n) old new fo fn
    → PausesFound false script heap waiting (finished_by (how_found found how) line n) old new fo fn found
paused_found None how steady p = PausesFound.unflawed p
paused_found (Some flaw) how steady p = PausesFound.flawed flaw p.reached.so_far.graph refl p.shown steady

-- a line that stopped is no end of a script, whatever is found after it
pub stopped_not_end : (found : Option Flaw) (why : Stop) → how_found found (how_of why) ≢ ways.End
stopped_not_end (Some flaw) why is = cc
stopped_not_end None (stop.Fault word) is = cc
stopped_not_end None (stop.NoRoom need) is = cc
stopped_not_end None (stop.NoClear entries) is = cc

-- a run that goes no further between two lines, where no collection came since the last one, pauses there
pub paused_here : {script : ScriptText} {heap : HeapState} {objects : ℕ} {waiting kept : List ℕ}
    {old new last : List ℕ → Type 0} {at : ℕ} {ts : List ℕ} {n : ℕ} {fo fn : ℕ} (how : How) (line : ℕ)
    → (r : Running script heap objects waiting old new at ts n uncollected)
    → Halts false script (stage_of heap.main) uncollected kept (finished_by how line n) r.reached.so_far old last fo fn
    how
    → PausesFound false script heap kept (finished_by how line n) old last fo fn None
paused_here how line r halts =
    PausesFound.unflawed
    (record {
      reached = r.reached;
      collections = uncollected;
      opened = r.opened;
      spends = r.spends;
      shown = r.shown;
      halts = halts;
    })

-- the heap of a run shows a graph, whatever was found
pub shown_found : {found : Option Flaw} {counted : Bool} {script : ScriptText} {heap : HeapState} {waiting : List ℕ}
    {finished : Finished} {old new : List ℕ → Type 0} {fo fn : ℕ}
    → PausesFound counted script heap waiting finished old new fo fn found → (graph : Graph) × HeapShows heap graph
shown_found (PausesFound.unflawed p) = (p.reached.so_far.graph, p.shown)
shown_found (PausesFound.flawed flaw graph is shown steady) = (graph, shown)

-- a run came to the end of its script, or to something else
ends_or : (how : How) → (how ≡ ways.End) ⊎ (how ≢ ways.End)
ends_or ways.End = inl refl
ends_or (ways.Counted counts) = inr (λ e. cc)
ends_or (ways.Fault word) = inr (λ e. cc)
ends_or (ways.HeapFull need) = inr (λ e. cc)
ends_or (ways.SinkFault need) = inr (λ e. cc)
ends_or ways.LineLimit = inr (λ e. cc)
ends_or (ways.Flawed flaw) = inr (λ e. cc)

-- where it is something else, nothing is inspected
unended : {J : Type 0} (Judged : Answering J) (inspection later : Inspection J) (old new : HeapState) (graph : Graph)
    (how came : How) → how ≢ ways.End → InspectsEnd Judged inspection later old new graph how came
    → (later ≡ inspection) × (came ≡ how) × (new ≡ old)
unended Judged Nothing later old new graph how came other e = e
unended Judged ByCensus later old new graph ways.End came other e = absurd (other refl)
unended Judged ByCensus later old new graph (ways.Counted counts) came other e = e
unended Judged ByCensus later old new graph (ways.Fault word) came other e = e
unended Judged ByCensus later old new graph (ways.HeapFull need) came other e = e
unended Judged ByCensus later old new graph (ways.SinkFault need) came other e = e
unended Judged ByCensus later old new graph ways.LineLimit came other e = e
unended Judged ByCensus later old new graph (ways.Flawed flaw) came other e = e
unended Judged (Checks judge) later old new graph ways.End came other e = absurd (other refl)
unended Judged (Checks judge) later old new graph (ways.Counted counts) came other e = e
unended Judged (Checks judge) later old new graph (ways.Fault word) came other e = e
unended Judged (Checks judge) later old new graph (ways.HeapFull need) came other e = e
unended Judged (Checks judge) later old new graph (ways.SinkFault need) came other e = e
unended Judged (Checks judge) later old new graph ways.LineLimit came other e = e
unended Judged (Checks judge) later old new graph (ways.Flawed flaw) came other e = e

-- the regions of the heap stay at the end of a script
ended_space : {J : Type 0} (Judged : Answering J) (inspection later : Inspection J) (heap after : HeapState)
    (graph : Graph) (came : How) → InspectsEnd Judged inspection later heap after graph ways.End came
    → after.main.seat.space ≡ heap.main.seat.space
ended_space Judged Nothing later heap after graph came (kept, is, same) =
    ap (λ (one : HeapState). one.main.seat.space) same
ended_space Judged ByCensus later heap after graph came (kept, counted) = counted.collects.seat.space
ended_space Judged (Checks judge) later heap after graph came (next, kept, judged) = judged.collects.seat.space

-- and wherever a run came to
pub inspected_space : {J : Type 0} (Judged : Answering J) (inspection later : Inspection J) (heap after : HeapState)
    (graph : Graph) (how came : How) → InspectsEnd Judged inspection later heap after graph how came
    → after.main.seat.space ≡ heap.main.seat.space
inspected_space Judged inspection later heap after graph how came e = elim (ends_or how) [
  | inl is ↦
      ended_space Judged inspection later heap after graph came
      (subst (λ one. InspectsEnd Judged inspection later heap after graph one came) is e)
  | inr other ↦
      let (kept, was, same) = unended Judged inspection later heap after graph how came other e in
      ap (λ (one : HeapState). one.main.seat.space) same
]

-- What a run came to before its last bytes are handed on, once its end was inspected.
pub record IsInspected {J : Type 0} (Judged : Answering J) (start : HeapState) (before later : Inspection J)
    (counted : Bool) (script : ScriptText) (heap : HeapState) (waiting : List ℕ) (finished : Finished)
    (old new : List ℕ → Type 0) (fo fn : ℕ) : Type 0 where
  pub found : Option Flaw
  pub ended : Bool
  pub inspected : HasInspected Judged script start before ended finished.executed heap later found
  pub paused : PausesFound counted script heap waiting finished old new fo fn found
  pub ends : PauseIsJudged Judged start before later heap.main paused

module _ {J : Type 0} (Judged : Answering J) (regions : J → Space) (start : HeapState) (before : Inspection J)
    (script : ScriptText) (heap after : HeapState) (waiting : List ℕ) (line n : ℕ) (old new : List ℕ → Type 0)
    (fo fn : ℕ) where
  -- what is inspected of a run that came to this, by its inspection before and after
  abbrev pub Inspects : Inspection J → Inspection J → How → Type 0
  Inspects mid later came =
      IsInspected Judged start before later (counts_at_end (plan_of regions mid)) script after waiting
      (finished_by came line n) old new fo fn

  -- what is left was judged last of all, and so were the counts of what can be reached
  end_judged : (judge next : J) (counts : Counts) (graph : Graph) (collections : Collections)
      → HasInspected Judged script start before false n heap (Checks judge) None
      → CollectsAll heap.main after.main graph → Judged judge next after.main (Ok counts) → HasCounts graph counts
      → collections ≡ finally_collected
      → JudgesEnd Judged script start before (Checks next) n after.main graph collections
  end_judged judge next counts graph collections begun collects judged has is =
      let (first, from) = judged_first (Checks judge) judge refl begun in
      let last : JudgesLast Judged script start (Checks first) (Checks next) n after.main graph (Ok counts) = record {
        heap = heap;
        judge = judge;
        next = next;
        lines = subst (λ one. HasInspected Judged script start one false n heap (Checks judge) None) from begun;
        collects = collects;
        is = refl;
        judged = judged;
      } in
      subst (λ one. JudgesEnd Judged script start one (Checks next) n after.main graph collections) (sym from)
      (subst (λ one. JudgesEnd Judged script start (Checks first) (Checks next) n after.main graph one) (sym is)
      (counts, has, last))

  -- a judge answered at the end of the script
  judged_end : (judge next : J) (later : Inspection J) (came : How) (answer : Result Counts Flaw)
      → HasInspected Judged script start before false n heap (Checks judge) None
      → (p : Pauses false script heap waiting (finished_by ways.End line n) old new fo fn) → later ≡ Checks next
      → (e : EndsJudged Judged judge next heap after p.reached.so_far.graph came) → e.answer ≡ answer
      → Inspects (Checks judge) later came
  judged_end judge next later came (Ok counts) begun p kept e is =
      let judged = subst (Judged judge next after.main) is e.judged in
      let has = subst (λ (one : Result Counts Flaw). IfOk one (HasCounts p.reached.so_far.graph)) is e.counted in
      let ((none, zero, since, ends), handed, steady) = p.halts in
      let (paused, collections-is, told) =
      pauses_counted came p
      (record {
        collects = e.collects;
        shows = e.shows;
        counts = counts;
        is = e.is ∙ ap how_judged is;
        counted = has;
      }) in
      rw kept
      (record {
        found = None;
        ended = true;
        inspected = HasInspected.at_end n heap after (Checks judge) (Checks next) None begun p.reached ends e.collects
            (next, refl, (Ok counts, judged, refl));
        paused = PausesFound.unflawed paused;
        ends = end_judged judge next counts paused.reached.so_far.graph paused.collections begun
            (subst (λ (one : Told). CollectsAll heap.main after.main one.graph) (sym told) e.collects) judged
            (subst (λ (one : Told). HasCounts one.graph counts) (sym told) has) collections-is;
      })
  judged_end judge next later came (Err flaw) begun p kept e is =
      let ((none, zero, since, ends), handed, steady) = p.halts in
      rw kept
      (record {
        found = Some flaw;
        ended = true;
        inspected = HasInspected.at_end n heap after (Checks judge) (Checks next) (Some flaw) begun p.reached ends
            e.collects
            (next, refl, (Err flaw, subst (Judged judge next after.main) is e.judged, refl));
        paused = PausesFound.flawed flaw p.reached.so_far.graph (e.is ∙ ap how_judged is) e.shows steady;
        ends = tt;
      })

  -- the run came to the end of its script
  inspected_end : (mid later : Inspection J) (came : How)
      → HasInspected Judged script start before false n heap mid None
      → (p : Pauses false script heap waiting (finished_by ways.End line n) old new fo fn)
      → InspectsEnd Judged mid later heap after p.reached.so_far.graph ways.End came → Inspects mid later came
  inspected_end Nothing later came begun p (kept, is, same) =
      rw (kept, is, same)
      (record {
        found = None;
        ended = false;
        inspected = begun;
        paused = PausesFound.unflawed p;
        ends = not_final Judged script start before Nothing n heap.main p.reached.so_far.graph p.collections
            (halts_not_final script (stage_of heap.main) p.collections waiting (finished_by ways.End line n)
            p.reached.so_far old new fo fn ways.End p.halts);
      })
  inspected_end ByCensus later came begun p (kept, counted) =
      let (paused, collections-is, told) = pauses_counted came p counted in
      let ((none, zero, since, ends), handed, steady) = p.halts in
      rw kept
      (record {
        found = None;
        ended = true;
        inspected = HasInspected.at_end n heap after ByCensus ByCensus None begun p.reached ends counted.collects
            (refl, refl);
        paused = PausesFound.unflawed paused;
        ends = subst
            (λ one. JudgesEnd Judged script start one ByCensus n after.main paused.reached.so_far.graph
            paused.collections)
            (sym (census_first ByCensus refl begun)) tt;
      })
  inspected_end (Checks judge) later came begun p (next, kept, e) =
      judged_end judge next later came e.answer begun p kept e refl

  -- it came to something else
  inspected_else : {ended : Bool} (mid later : Inspection J) (how came : How) → how ≢ ways.End
      → HasInspected Judged script start before ended n heap mid None
      → (p : Pauses false script heap waiting (finished_by how line n) old new fo fn)
      → (later ≡ mid) × (came ≡ how) × (after ≡ heap) → Inspects mid later came
  inspected_else {ended = ended} mid later how came other begun p (kept, is, same) =
      let (paused, collections-is) =
      pauses_alike (counts_at_end (plan_of regions mid)) how came other p (is, same) in
      rw kept
      (record {
        found = None;
        ended = ended;
        inspected = subst (λ one. HasInspected Judged script start before ended n one mid None) (sym same) begun;
        paused = PausesFound.unflawed paused;
        ends = not_final Judged script start before mid n after.main paused.reached.so_far.graph paused.collections
            (λ final. halts_not_final script (stage_of heap.main) p.collections waiting (finished_by how line n)
            p.reached.so_far old new fo fn how p.halts (sym collections-is ∙ final));
      })

  -- so it is wherever it came to, if no flaw was found before
  inspected_none : {ended : Bool} (mid later : Inspection J) (how came : How) → (how ≡ ways.End → ended ≡ false)
      → HasInspected Judged script start before ended n heap mid None → (how ≡ ways.End) ⊎ (how ≢ ways.End)
      → (p : Pauses false script heap waiting (finished_by how line n) old new fo fn)
      → InspectsEnd Judged mid later heap after p.reached.so_far.graph how came → Inspects mid later came
  inspected_none mid later how came goes begun (inl is) =
      subst
      (λ one. (p : Pauses false script heap waiting (finished_by one line n) old new fo fn)
      → InspectsEnd Judged mid later heap after p.reached.so_far.graph one came → Inspects mid later came) (sym is)
      (inspected_end mid later came
      (subst (λ one. HasInspected Judged script start before one n heap mid None) (goes is) begun))
  inspected_none mid later how came goes begun (inr other) = λ p e.
      inspected_else mid later how came other begun p
      (unended Judged mid later heap after p.reached.so_far.graph how came other e)

  -- so a run is inspected that paused anywhere
  pub pauses_inspected : {found : Option Flaw} {ended : Bool} (mid later : Inspection J) (how came : How)
      → (how ≡ ways.End → ended ≡ false) → HasInspected Judged script start before ended n heap mid found
      → PausesFound false script heap waiting (finished_by how line n) old new fo fn found
      → ((graph : Graph) → HeapShows heap graph → InspectsEnd Judged mid later heap after graph how came)
      → Inspects mid later came
  pauses_inspected mid later how came goes begun (PausesFound.unflawed p) ends =
      inspected_none mid later how came goes begun (ends_or how) p (ends p.reached.so_far.graph p.shown)
  pauses_inspected {ended = ended} mid later how came goes begun (PausesFound.flawed flaw graph is shown steady)
      ends =
      let other : how ≢ ways.End = λ ended. cc in
      let (kept, was, same) = unended Judged mid later heap after graph how came other (ends graph shown) in
      rw kept
      (record {
        found = Some flaw;
        ended = ended;
        inspected = subst (λ one. HasInspected Judged script start before ended n one mid (Some flaw)) (sym same) begun;
        paused = PausesFound.flawed flaw graph (was ∙ is) (subst (λ one. HeapShows one graph) (sym same) shown)
            steady;
        ends = tt;
      })
