-- Lines of a script, by what the heap notes behind them: how they stand to what a judge has inspected.
use Rattle.std.proofs.Common.{◌≡◌, ◌+◌, ℕ, Bool, false, List, Option, None, Result, Ok, refl, sym, ap, subst}
use Rattle.heap_model.specs.Types.{Command}
use Rattle.script_text.specs.Scripts.{ScriptText}
use Rattle.script_text.specs.Unrolled.{executed, executed_lines}
use Rattle.script_text.specs.Left.{Goes}
use Rattle.write_barrier.specs.MutatorState.{heap_of}
use Rattle.collector.specs.States.{HeapState, with_cycle, with_collected}
use Rattle.mutator.specs.declared.stop.Stop.{Stop}
use Rattle.heap_script.specs.Cycles.{cycle_after_line}
use Rattle.heap_script.specs.Reached.{left_after, RanTo}
use Rattle.heap_script.specs.Noting.{NotesLine, NotesNext, Passes}
use Rattle.heap_script.specs.declared.inspecting.Inspection.{Inspection}
use Rattle.heap_script.specs.Inspecting.{HasInspected, JudgesAfter}
use Rattle.heap_script.proofs.FinalJudgements.{Answering}
use Rattle.heap_script.proofs.Running.{next_at}

-- a line that came to something, and is left to execute first, is the next one
pub notes_next : (script : ScriptText) (heap after : HeapState) (at' : ℕ) (ts' : List ℕ) (n number : ℕ)
    (command : Option Command) (text : List ℕ) (result : Result (Unit {0}) Stop)
    → (r : RanTo script (heap_of heap.main) n)
    → Goes script.lines at' ts' (left_after script n) (executed number command)
    → after.rest ≡ with_cycle heap.rest (cycle_after_line heap.rest.in_cycle command)
    → NotesLine script.fields heap after r.so_far.graph command text result → NotesNext script n heap after result
notes_next script heap after at' ts' n number command text result r goes rest notes = record {
  before = r;
  line = executed number command;
  next = next_at (executed_lines script.lines) n (executed number command) goes.rest goes.is;
  text = text;
  notes = notes;
  rest = rest;
}

-- where no full collection is noted, taking the note changes nothing
unnoted : (heap : HeapState) → heap.collected ≡ false → with_collected heap false ≡ heap
unnoted heap none = ap (λ (collected : Bool). record heap { collected = collected }) (sym none)

-- after lines for which no full collection is noted, nothing more is judged
pub passes_inspected : {J : Type 0} {Judged : Answering J} {script : ScriptText} {start old : HeapState}
    {before inspection : Inspection J} {n : ℕ} {new : HeapState} {m : ℕ}
    → HasInspected Judged script start before false n old inspection None → Passes script old n new m
    → HasInspected Judged script start before false m new inspection None
passes_inspected begun Passes.none = begun
passes_inspected {J} {Judged} {script} {start} {old} {before} {inspection} {n} begun
    (Passes.one_more mid new executed passed notes none) =
    let judged : JudgesAfter Judged new.collected new.main inspection inspection None =
    subst (λ (collected : Bool). JudgesAfter Judged collected new.main inspection inspection None) (sym none)
    (refl, refl) in
    subst (λ (one : HeapState). HasInspected Judged script start before false (executed + 1) one inspection None)
    (unnoted new none)
    (HasInspected.line executed mid new inspection inspection None
    (passes_inspected {n = n} {m = executed} begun passed) (Ok tt) notes judged)
