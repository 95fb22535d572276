-- A `repeat` or an `end` that is executed.
use Rattle.std.proofs.Common.{◌≡◌, ◌∙◌, ℕ, suc, ◌+◌, ◌-◌, ◌≤◌, List, [], length, drop, false, Option, Ok, refl, sym, ap}
use Rattle.std.proofs.Common.{subst}
use Rattle.std.proofs.Common.{add-zero, arith}
use Rattle.std.proofs.lemmas.List.{length-drop}
use Rattle.heap_model.specs.Types.{Command}
use Rattle.script_text.specs.declared.script.Line.{Line}
use Rattle.script_text.specs.declared.script.What.{What}
use Rattle.script_text.specs.Scripts.{ScriptText}
use Rattle.collector.specs.States.{HeapState, with_cycle}
use Rattle.mutator.specs.declared.output.TheConstants.{OUTPUT_BYTES, ROOM}
use Rattle.heap_script.specs.Between.{RunsLines, Begins}
use Rattle.heap_script.specs.Cycles.{cycle_after_line}
use Rattle.heap_script.specs.Noting.{NotesLine, Passes}
use Rattle.heap_script.specs.Progress.{made_by, command_in, CarriesLine}
use Rattle.heap_script.specs.Runs.{OutputHolds}
use Rattle.heap_script.proofs.LinesRun.{place_of, behind, by_index, one_spent, stays_within, stays_shallow}
use Rattle.heap_script.proofs.LinesRun.{RunsLines-line, passes_line, holds_line}
use Rattle.heap_script.proofs.Asking.{rest_without}

module _ {script : ScriptText} {heap : HeapState} {objects : ℕ} {out taken ts : List ℕ} {rest : List Line}
    {spare last : ℕ} (r : RunsLines script heap objects out taken ts rest spare last) {what : What}
    (begins : Begins rest what)
    {lines : List Line} (same : lines ≡ script.lines) where
  -- it is one of the lines
  pub some_jump : (1 ≤ length rest) × (length rest ≤ length lines)
  some_jump = ((by_index rest what begins.first).0, omega (arith, r.is.within, ap length same))

  -- behind it no more than four blocks are open
  pub deep_jump : length (behind lines rest ts what).turns ≤ 4
  deep_jump =
      subst (λ (all : List Line). length (behind all rest ts what).turns ≤ 4) (sym same)
      (stays_shallow r what begins.first)

  -- the run goes on among the lines, or at their end
  pub within_jump : (behind lines rest ts what).at ≤ length lines
  within_jump =
      subst (λ (all : List Line). (behind all rest ts what).at ≤ length all) (sym same)
      (stays_within r what begins.first)

  module _ (enough : length lines ≤ spare) {after : ℕ} (goes : suc after ≡ (behind lines rest ts what).at)
      {next : List Line} (from : next ≡ drop (after + 1) lines) where
    -- so many more may be executed than are left
    abbrev pub spared : ℕ
    spared = spare + after - place_of lines rest

    -- it is one of those that may be executed
    pub count_jump : spared + length next + 1 ≡ spare + length rest
    count_jump =
        let within : suc after ≤ length lines = subst (λ (n : ℕ). n ≤ length lines) (sym goes) within_jump in
        let long : length next ≡ length lines - (after + 1) = ap length from ∙ length-drop (after + 1) lines in
        ap (λ (n : ℕ). spared + n + 1) long
        ∙ one_spent spare (length lines) (length rest) after enough within some_jump.0 some_jump.1

    -- the next lines are those where the run goes on
    on_jump : next ≡ drop (behind script.lines rest ts what).at script.lines
    on_jump =
        let next_line : after + 1 ≡ suc after = omega arith in
        from ∙ ap (λ (n : ℕ). drop n lines) (next_line ∙ goes)
        ∙ ap (λ (all : List Line). drop (behind all rest ts what).at all) same

    -- it leaves the heap as it was
    stays_jump : heap.rest ≡ with_cycle heap.rest (cycle_after_line heap.rest.in_cycle (command_in what))
    stays_jump =
        subst (λ (one : Option Command). heap.rest ≡ with_cycle heap.rest (cycle_after_line heap.rest.in_cycle one))
        (sym begins.none) (rest_without heap.rest heap.rest.in_cycle refl)

    -- it is carried out
    carries_jump : CarriesLine script.fields heap.rest.in_cycle heap.main heap.main r.running.reached.so_far.graph
        (command_in what) [] (Ok tt)
    carries_jump =
        subst (λ (one : Option Command).
        CarriesLine script.fields heap.rest.in_cycle heap.main heap.main r.running.reached.so_far.graph one [] (Ok tt))
        (sym begins.none) (refl, refl, refl)

    -- it was executed
    pub RunsLines-jump : (ts' : List ℕ) → ts' ≡ (behind lines rest ts what).turns
        → RunsLines script heap objects out taken ts' next spared last
    RunsLines-jump ts' turned =
        let made : objects ≡ objects + made_by (command_in what) =
        subst (λ (one : Option Command). objects ≡ objects + made_by one) (sym begins.none) (sym (add-zero objects)) in
        RunsLines-line r what begins.first heap next spared on_jump count_jump stays_jump carries_jump objects ts' made
        (turned ∙ ap (λ (all : List Line). (behind all rest ts what).turns) same)

    -- no full collection is noted for it
    notes_jump : NotesLine script.fields heap heap r.running.reached.so_far.graph (command_in what) [] (Ok tt)
    notes_jump =
        subst (λ (one : Option Command).
        NotesLine script.fields heap heap r.running.reached.so_far.graph one [] (Ok tt))
        (sym begins.none) (record { carries = (refl, refl, refl); noted = refl })

    -- so it led on
    pub passes_jump : {start : HeapState} {from : ℕ} → heap.collected ≡ false
        → Passes script start from heap (last - (spare + length rest))
        → Passes script start from heap (last - (spared + length next))
    passes_jump none =
        passes_line r what begins.first heap next spared on_jump count_jump stays_jump carries_jump notes_jump none

    -- and wrote nothing
    pub holds_jump : length out + ROOM ≤ OUTPUT_BYTES → OutputHolds script (last - (spare + length rest)) out
        → OutputHolds script (last - (spared + length next)) out
    holds_jump = holds_line r what begins.first heap next spared on_jump count_jump stays_jump carries_jump
