-- What a check of a whole heap answers: no flaw, and the counts of what can be reached, if the heap keeps nothing else.
-- So a run that an inspector judges comes to no flaw.
use Rattle.std.proofs.Common.{◌≡◌, ◌∙◌, ℕ, Bool, true, false, List, Option, Some, None, Result, Ok, Err, OnErr, IfOk}
use Rattle.std.proofs.Common.{refl, subst}
use Rattle.object_graph.specs.Graphs.{Graph}
use Rattle.object_graph.specs.Invariants.{IsGraph}
use Rattle.page_space.specs.Sizes.{AreWithin}
use Rattle.heap_model.specs.Heaps.{Heap}
use Rattle.heap_model.specs.Wholeness.{Whole, Blank}
use Rattle.live_cells.specs.Census.{KeepsTheCensus}
use Rattle.live_cells.specs.Exact.{Exact}
use Rattle.heap_check.specs.declared.counts.Counts.{Counts}
use Rattle.heap_check.specs.declared.flaw.Flaw.{Flaw}
use Rattle.heap_check.specs.FirstFlaws.{WholeHasNoFlaw}
use Rattle.heap_check.specs.Judging.{Judges}
use Rattle.script_text.specs.Scripts.{ScriptText}
use Rattle.page_space.specs.Extents.{Space}
use Rattle.collector.specs.States.{HeapState}
use Rattle.heap_script.specs.declared.inspecting.Inspection.{Inspection}
use Rattle.heap_script.specs.declared.inspecting.Inspection.TheVariants.{Nothing, Counts as ByCensus, Checks}
use Rattle.heap_script.specs.declared.finished.Finished.{Finished}
use Rattle.write_barrier.specs.MutatorState.{Mutator}
use Rattle.heap_script.specs.Found.{FinishesFound, EndIsJudged}
use Rattle.heap_script.specs.Inspecting.{HasInspected, JudgesAfter, JudgesEnd, counts_at_end, plan_of}
use Rattle.heap_script.specs.Inspectors.{same_space, ChecksImage}
use Rattle.heap_script.specs.Stages.{Stage}
use Rattle.heap_script.specs.Runs.{HasCounts, Finishes}

-- no flaw is found
pub judged_sound : {heap : Heap} (result : Result Counts Flaw) → WholeHasNoFlaw
    → AreWithin heap.space.sizes heap.space.variables → Whole heap → Blank heap → Judges heap result → OnErr result ⊥
judged_sound (Ok counts) law within whole blank judges = tt
judged_sound {heap} (Err flaw) law within whole blank judges = law heap flaw within whole blank judges

-- the counts are those of what can be reached
pub judged_counts : {heap : Heap} {graph : Graph} (result : Result Counts Flaw) → KeepsTheCensus → IsGraph graph
    → Exact heap graph → Judges heap result → IfOk result (HasCounts graph)
judged_counts {heap} {graph} (Ok counts) law is exact judges =
    let whole = judges.whole in
    let rows = whole.rows.rows in
    let counted = judges.counted rows whole.rows.are in
    let census = law heap graph rows is exact.keeps whole.rows.are in
    (counted.objects ∙ census.objects, counted.entries ∙ census.entries)
judged_counts (Err flaw) law is exact judges = tt

-- an inspection by an inspector is its own plan
pub same_plan : (inspection : Inspection Space) → plan_of same_space inspection ≡ inspection
same_plan Nothing = refl
same_plan ByCensus = refl
same_plan (Checks space) = refl

-- an inspector that judges finds no flaw
judges_no_flaw : (collected : Bool) (main : Mutator) (inspection later : Inspection Space) (flaw : Flaw)
    → JudgesAfter ChecksImage collected main inspection later (Some flaw) → ⊥
judges_no_flaw true main Nothing later flaw (same, none) = cc
judges_no_flaw true main ByCensus later flaw (same, none) = cc
judges_no_flaw true main (Checks space) later flaw (next, kept, (Ok counts, judged, is)) = cc
judges_no_flaw true main (Checks space) later flaw (next, kept, (Err found, judged, is)) = judged.no_flaw
judges_no_flaw false main inspection later flaw (same, none) = cc

-- nor did it ever
no_flaw : {script : ScriptText} {start heap : HeapState} {before later : Inspection Space} {ended : Bool} {n : ℕ}
    {flaw : Flaw} → HasInspected ChecksImage script start before ended n heap later (Some flaw) → ⊥
no_flaw {later = later} {flaw = flaw}
    (HasInspected.line executed old new inspection last found begun result notes judged) =
    judges_no_flaw new.collected new.main inspection later flaw judged
no_flaw {later = later} {flaw = flaw}
    (HasInspected.at_end executed old new inspection last found begun reached ends collects judged) =
    judges_no_flaw true new.main inspection later flaw judged

-- so the run finishes as it would with none, and what it left at the end of its script was judged, if it is to be
pub finishes_unflawed : (found : Option Flaw) (start heap : HeapState) (before later : Inspection Space)
    {script : ScriptText} {stage : Stage} {finished : Finished} {old new : List ℕ → Type 0} {fo fn : ℕ} {ended : Bool}
    → HasInspected ChecksImage script start before ended finished.executed heap later found
    → (told : FinishesFound (counts_at_end (plan_of same_space before)) script stage finished old new fo fn found)
    → EndIsJudged ChecksImage start before later heap.main told
    → HasInspected ChecksImage script start before ended finished.executed heap later None
    × (finishes : Finishes (counts_at_end before) script stage finished old new fo fn)
    × JudgesEnd ChecksImage script start before later finished.executed heap.main finishes.reached.so_far.graph
    finishes.collections
finishes_unflawed None start heap before later {script} {stage} {finished} {old} {new} {fo} {fn} inspected
    (FinishesFound.unflawed finishes) judged =
    let (as_planned, ends) =
    subst
    (λ (one : Inspection Space). (finishes : Finishes (counts_at_end one) script stage finished old new fo fn)
    × JudgesEnd ChecksImage script start before later finished.executed heap.main finishes.reached.so_far.graph
    finishes.collections) (same_plan before) (finishes, judged) in
    (inspected, as_planned, ends)
finishes_unflawed (Some flaw) start heap before later inspected told judged = absurd (no_flaw inspected)
