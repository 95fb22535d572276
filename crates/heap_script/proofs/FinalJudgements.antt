-- Whether what a run left at the end of its script was judged.
use Rattle.std.proofs.Common.{◌≡◌, ◌∙◌, ℕ, Bool, true, false, List, Option, Result, inl, inr, refl, sym}
use Rattle.std.proofs.lemmas.Bool.{false≢true}
use Rattle.object_graph.specs.Graphs.{Graph}
use Rattle.object_graph.specs.Run.{Told}
use Rattle.heap_model.specs.Types.{FaultWord}
use Rattle.script_text.specs.Scripts.{ScriptText}
use Rattle.write_barrier.specs.MutatorState.{Mutator}
use Rattle.collector.specs.States.{HeapState}
use Rattle.heap_check.specs.declared.counts.Counts.{Counts}
use Rattle.heap_check.specs.declared.flaw.Flaw.{Flaw}
use Rattle.heap_script.specs.declared.finished.How.{How}
use Rattle.heap_script.specs.declared.finished.How.TheVariants as ways
use Rattle.heap_script.specs.declared.finished.Finished.{Finished}
use Rattle.heap_script.specs.declared.inspecting.Inspection.{Inspection}
use Rattle.heap_script.specs.declared.inspecting.Inspection.TheVariants.{Nothing, Counts as ByCensus, Checks}
use Rattle.heap_script.specs.Found.{PausesFound}
use Rattle.heap_script.specs.Inspecting.{HasInspected, JudgesAfter, JudgesEnd}
use Rattle.heap_script.specs.Progress.{Halts}
use Rattle.heap_script.specs.Runs.{FaultsBehind}
use Rattle.heap_script.specs.Stages.{Stage, Collections, uncollected, fully_collected, finally_collected}

-- how judges answer
abbrev pub Answering : Type 0 → Type 1
Answering J = J → J → Mutator → Result Counts Flaw → Type 0

-- where no collection came at the end of a script, nothing was judged there
pub not_final : {J : Type 0} (Judged : Answering J) (script : ScriptText) (start : HeapState)
    (before later : Inspection J) (n : ℕ) (main : Mutator) (graph : Graph) (collections : Collections)
    → (collections ≡ finally_collected → ⊥) → JudgesEnd Judged script start before later n main graph collections
not_final Judged script start Nothing later n main graph collections none = tt
not_final Judged script start ByCensus later n main graph collections none = tt
not_final Judged script start (Checks judge) later n main graph Collections.finally_collected none = absurd (none refl)
not_final Judged script start (Checks judge) later n main graph Collections.uncollected none = tt
not_final Judged script start (Checks judge) later n main graph Collections.scavenged none = tt
not_final Judged script start (Checks judge) later n main graph Collections.fully_collected none = tt

-- no collection is none at the end of a script
none_not_final : {collections : Collections} → collections ≡ uncollected → collections ≡ finally_collected → ⊥
none_not_final none final =
    let same : uncollected ≡ finally_collected = sym none ∙ final in
    cc

-- nor is one for a line
fully_not_final : {collections : Collections} → collections ≡ fully_collected → collections ≡ finally_collected → ⊥
fully_not_final fully final =
    let same : fully_collected ≡ finally_collected = sym fully ∙ final in
    cc

-- nor is what comes before a fault
faults_not_final : (word : FaultWord) (collections : Collections) → FaultsBehind word collections
    → collections ≡ finally_collected → ⊥
faults_not_final word collections (inl (other, none)) final = none_not_final none final
faults_not_final word collections (inr (full, fully)) final = fully_not_final fully final

-- nor is what comes where a run halts that is not to count its heap
pub halts_not_final : (script : ScriptText) (stage : Stage) (collections : Collections) (waiting : List ℕ)
    (finished : Finished) (so_far : Told) (old new : List ℕ → Type 0) (fo fn : ℕ) (how : How)
    → Halts false script stage collections waiting finished so_far old new fo fn how
    → collections ≡ finally_collected → ⊥
halts_not_final script stage collections waiting finished so_far old new fo fn ways.End halts final =
    none_not_final halts.0.2 final
halts_not_final script stage collections waiting finished so_far old new fo fn (ways.Counted counts) halts final =
    false≢true halts.0.0
halts_not_final script stage collections waiting finished so_far old new fo fn (ways.Fault word) halts final =
    faults_not_final word collections halts.0.0 final
halts_not_final script stage collections waiting finished so_far old new fo fn (ways.HeapFull need) halts final =
    fully_not_final halts.0.collected final
halts_not_final script stage collections waiting finished so_far old new fo fn (ways.SinkFault need) halts final =
    none_not_final halts.0.2 final
halts_not_final script stage collections waiting finished so_far old new fo fn ways.LineLimit halts final =
    none_not_final halts.0.0 final
halts_not_final script stage collections waiting finished so_far old new fo fn (ways.Flawed flaw) halts final =
    absurd (halts.0)

-- a judge that is there behind a line was there before it
judged_was : {J : Type 0} (Judged : Answering J) (collected : Bool) (main : Mutator) (inspection later : Inspection J)
    (found : Option Flaw) (judge : J) → JudgesAfter Judged collected main inspection later found
    → later ≡ Checks judge → (one : J) × (inspection ≡ Checks one)
judged_was Judged true main Nothing later found judge (same, none) is = (judge, sym same ∙ is)
judged_was Judged true main ByCensus later found judge (same, none) is = (judge, sym same ∙ is)
judged_was Judged true main (Checks one) later found judge judged is = (one, refl)
judged_was Judged false main inspection later found judge (same, none) is = (judge, sym same ∙ is)

-- where a run is counted by a census behind a line, it was to be so before it
census_was : {J : Type 0} (Judged : Answering J) (collected : Bool) (main : Mutator) (inspection later : Inspection J)
    (found : Option Flaw) → JudgesAfter Judged collected main inspection later found → later ≡ ByCensus
    → inspection ≡ ByCensus
census_was Judged true main Nothing later found (same, none) is = sym same ∙ is
census_was Judged true main ByCensus later found (same, none) is = refl
census_was Judged true main (Checks one) later found (next, kept, finds) is = absurd (cc)
census_was Judged false main inspection later found (same, none) is = sym same ∙ is

-- a judge that is there at last was there from the beginning
pub judged_first : {J : Type 0} {Judged : Answering J} {script : ScriptText} {start : HeapState}
    {before : Inspection J} {ended : Bool} {n : ℕ} {heap : HeapState} {found : Option Flaw} (later : Inspection J)
    (judge : J) → later ≡ Checks judge → HasInspected Judged script start before ended n heap later found
    → (first : J) × (before ≡ Checks first)
judged_first later judge is HasInspected.nothing = (judge, is)
judged_first {Judged = Judged} later judge is
    (HasInspected.line executed old new inspection last found begun result notes judged) =
    let (one, was) = judged_was Judged new.collected new.main inspection later found judge judged is in
    judged_first inspection one was begun
judged_first {Judged = Judged} later judge is
    (HasInspected.at_end executed old new inspection last found begun reached ends collects judged) =
    let (one, was) = judged_was Judged true new.main inspection later found judge judged is in
    judged_first inspection one was begun

-- where a run is counted by a census in the end, it was to be so from the beginning
pub census_first : {J : Type 0} {Judged : Answering J} {script : ScriptText} {start : HeapState}
    {before : Inspection J} {ended : Bool} {n : ℕ} {heap : HeapState} {found : Option Flaw} (later : Inspection J)
    → later ≡ ByCensus → HasInspected Judged script start before ended n heap later found → before ≡ ByCensus
census_first later is HasInspected.nothing = is
census_first {Judged = Judged} later is
    (HasInspected.line executed old new inspection last found begun result notes judged) =
    census_first inspection (census_was Judged new.collected new.main inspection later found judged is) begun
census_first {Judged = Judged} later is
    (HasInspected.at_end executed old new inspection last found begun reached ends collects judged) =
    census_first inspection (census_was Judged true new.main inspection later found judged is) begun

-- of a run that paused so: what it left at the end of its script was judged, if it has a judge
abbrev pub PauseIsJudged : {J : Type 0} → Answering J → HeapState → Inspection J → Inspection J → Mutator
    → {counted : Bool} {script : ScriptText} {heap : HeapState} {waiting : List ℕ} {finished : Finished}
    {old new : List ℕ → Type 0} {fo fn : ℕ} {found : Option Flaw}
    → PausesFound counted script heap waiting finished old new fo fn found → Type 0
PauseIsJudged Judged start before later main {script = script} {finished = finished} (PausesFound.unflawed p) =
    JudgesEnd Judged script start before later finished.executed main p.reached.so_far.graph p.collections
PauseIsJudged Judged start before later main (PausesFound.flawed flaw graph is shown steady) = Unit {0}
