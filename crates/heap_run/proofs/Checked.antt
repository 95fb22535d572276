-- A checked run that came to counts was judged in the end, with these counts.
use Rattle.std.proofs.Common.{◌≡◌, ◌∙◌, ℕ, Bool, true, false, List, Ok, sym, ap, subst}
use Rattle.page_space.specs.Extents.{Space}
use Rattle.object_graph.specs.Graphs.{Graph}
use Rattle.object_graph.specs.Run.{Told}
use Rattle.script_text.specs.Scripts.{ScriptText}
use Rattle.heap_model.specs.Types.{Run}
use Rattle.heap_model.specs.Heaps.{Heap}
use Rattle.write_barrier.specs.MutatorState.{Mutator, heap_of}
use Rattle.collector.specs.States.{HeapState}
use Rattle.heap_check.specs.declared.counts.Counts.{Counts}
use Rattle.heap_check.specs.Judging.{Judges}
use Rattle.heap_script.specs.declared.finished.How.{How}
use Rattle.heap_script.specs.declared.finished.How.TheVariants as how
use Rattle.heap_script.specs.declared.inspecting.Inspection.{Inspection}
use Rattle.heap_script.specs.declared.inspecting.Inspection.TheVariants.{Checks}
use Rattle.heap_script.specs.Inspecting.{JudgesEnd}
use Rattle.heap_script.specs.Inspectors.{ChecksImage}
use Rattle.heap_script.specs.Runs.{HasCounts, EndsRun}
use Rattle.heap_script.specs.Stages.{Collections, finally_collected}
use Rattle.heap_run.specs.Answers.{IsChecked}
use Rattle.heap_run.specs.Opening.{inspects_for, inspection_for}

-- counts of as many objects and entries are the same
same_counts : (one other : Counts) → one.objects ≡ other.objects → one.entries ≡ other.entries → one ≡ other
same_counts one other objects entries =
    ap (λ (n : ℕ). record one { objects = n }) objects ∙ ap (λ (n : ℕ). record other { entries = n }) entries

-- where the judge answered with the counts of what can be reached, it answered with those to which the run came
judged_counts : (script : ScriptText) (start : HeapState) (space : Space) (later : Inspection Space) (n : ℕ)
    (main : Mutator) (graph : Graph) (counts : Counts)
    → JudgesEnd ChecksImage script start (Checks space) later n main graph finally_collected → HasCounts graph counts
    → IsChecked true (heap_of main) (how.Counted counts)
judged_counts script start space later n main graph counts (found, found_has, last) has =
    let same = same_counts found counts (found_has.0 ∙ sym has.0) (found_has.1 ∙ sym has.1) in
    let judged = last.judged in
    (judged.image, judged.is, subst (λ (one : Counts). Judges judged.image (Ok one)) same judged.judges)

-- so whatever a run came to, it is checked as was asked
pub checked_as_asked : (checks : Bool) (start : HeapState) (space : Space) (inspection later : Inspection Space)
    (main : Mutator) (script : ScriptText) (image : Heap) (rows : List (List Run)) (collections : Collections) (n : ℕ)
    (so_far : Told) (came : How) (line : ℕ) → inspection ≡ inspection_for (inspects_for checks) space
    → JudgesEnd ChecksImage script start inspection later n main so_far.graph collections
    → EndsRun checks script image rows collections n so_far came line → IsChecked checks (heap_of main) came
checked_as_asked false start space inspection later main script image rows collections n so_far came line is ends
    comes = tt
checked_as_asked true start space inspection later main script image rows collections n so_far (how.Counted counts)
    line is ends comes =
    let (counted, none, final, ended, has) = comes in
    let there = subst (λ (one : Inspection Space). JudgesEnd ChecksImage script start one later n main so_far.graph
    collections) is ends in
    judged_counts script start space later n main so_far.graph counts
    (subst (λ (one : Collections). JudgesEnd ChecksImage script start (Checks space) later n main so_far.graph one)
    final there) has
checked_as_asked true start space inspection later main script image rows collections n so_far _ line is ends comes = tt
