-- How a run that goes no further has ended.
use Rattle.std.proofs.Common.{◌≡◌, ℕ, ◌<◌, Bool, List, [], ◌∷◌, Option, inl, inr}
use Rattle.std.proofs.Common.{Some, None, Err, false, refl, sym, ap, subst, ◌∙◌}
use Rattle.std.specs.Prelude.{slice_get}
use Rattle.heap_model.specs.Types.{Command, FaultWord}
use Rattle.heap_command.specs.Executed.{Executed}
use Rattle.heap_command.specs.declared.command.FaultWord.TheVariants.{WeakFull}
use Rattle.object_graph.specs.Graphs.{Graph}
use Rattle.object_graph.specs.Meaning.{meaning, fault}
use Rattle.object_graph.specs.Run.{lines_most, Ending, end, fault_at, limit_at, fault_in, ending}
use Rattle.script_text.specs.Scripts.{ScriptText}
use Rattle.script_text.specs.Unrolled.{executed, executed_lines}
use Rattle.script_text.specs.Left.{IsLeft, Goes}
use Rattle.script_text.proofs.Left.{at_end}
use Rattle.mutator.specs.declared.stop.Stop.{Stop}
use Rattle.mutator.specs.declared.stop.Stop.TheVariants.{Fault, NoRoom, NoClear}
use Rattle.object_graph.specs.Limits.{ideal_limits}
use Rattle.heap_model.specs.Heaps.{Heap}
use Rattle.write_barrier.specs.MutatorState.{Mutator, heap_of}
use Rattle.collector.specs.Collected.{CollectsAll}
use Rattle.collector.specs.States.{HeapState, with_cycle, with_collected}
use Rattle.collector.proofs.Keeping.{same_heap}
use Rattle.heap_script.specs.declared.finished.How.{How}
use Rattle.heap_script.specs.declared.finished.How.TheVariants as how
use Rattle.heap_script.specs.Cycles.{cycle_after_line}
use Rattle.heap_script.specs.Collecting.{IsSound, CollectsFully, HasNoPlace, FaultsOn, StopsAt, CarriesCommand}
use Rattle.heap_script.specs.Stages.{Stage, Collections, uncollected, fully_collected, stage_of}
use Rattle.heap_script.specs.Reached.{left_after, RanTo, EndsAs}
use Rattle.heap_script.specs.Runs.{EndsRun, FaultsBehind, IsFull}
use Rattle.heap_script.specs.Progress.{how_of, CarriesLine, Pauses}
use Rattle.heap_script.proofs.Asking.{rest_stays}
use Rattle.heap_script.proofs.Retrying.{fully_collects}
use Rattle.heap_script.specs.Between.{Running}
use Rattle.heap_script.proofs.GoingOn.{ending-within, ending-below, goes-on}
use Rattle.heap_script.proofs.Collected.{wants, heap_with, Running-fully}
use Rattle.heap_script.proofs.Running.{Running-noted, next_at}

-- at the limit, it ends at whatever line is next
ending-limit : (names : List (List ℕ)) (graph : Graph) (next : Executed) (more : List Executed)
    → ending ideal_limits names graph lines_most (next ∷ more) ≡ Some (limit_at next.number)
ending-limit names graph next more = refl

-- a run that has reached so many lines ends as it ends at those that are left
pub EndsAs-reached : (script : ScriptText) (heap : Heap) (n : ℕ) (how : Ending) → (r : RanTo script heap n)
    → ending ideal_limits script.fields r.so_far.graph n (left_after script n) ≡ Some how → EndsAs script n r.so_far how
EndsAs-reached script heap n how r ends = record { within = r.within; said = r.said; ends = ends }

-- no line is left
pub EndsRun-end : (script : ScriptText) (stage : Stage) (at n : ℕ) (ts : List ℕ)
    → (r : RanTo script stage.heap n) → IsLeft script.lines at ts (left_after script n)
    → slice_get script.lines at ≡ None → EndsRun false script stage.heap stage.rows uncollected n r.so_far how.End 0
EndsRun-end script stage at n ts r left none =
    let ended = at_end script.lines at ts (left_after script n) left none in
    let ends : ending ideal_limits script.fields r.so_far.graph n (left_after script n) ≡ Some end =
    ap (ending ideal_limits script.fields r.so_far.graph n) ended.1
    ∙ ending-within script.fields r.so_far.graph n [] r.few in
    (refl, refl, refl, EndsAs-reached script stage.heap n end r ends)

-- a line is left, and no more may be executed
pub EndsRun-limit : (script : ScriptText) (stage : Stage) (at' n number : ℕ) (ts' : List ℕ)
    (command : Option Command) → (r : RanTo script stage.heap n)
    → Goes script.lines at' ts' (left_after script n) (executed number command) → n ≡ lines_most
    → EndsRun false script stage.heap stage.rows uncollected n r.so_far how.LineLimit number
EndsRun-limit script stage at' n number ts' command r goes most =
    let ends : ending ideal_limits script.fields r.so_far.graph n (left_after script n) ≡ Some (limit_at number) =
    ap (ending ideal_limits script.fields r.so_far.graph n) goes.is
    ∙ ap (λ m. ending ideal_limits script.fields r.so_far.graph m (executed number command ∷ goes.rest)) most
    ∙ ending-limit script.fields r.so_far.graph (executed number command) goes.rest in
    (refl, EndsAs-reached script stage.heap n (limit_at number) r ends)

-- a command faults, behind these collections
EndsRun-faulted : (script : ScriptText) (stage : Stage) (at' n number : ℕ) (ts' : List ℕ)
    (command : Command) (word : FaultWord) (collections : Collections) → FaultsBehind word collections
    → (r : RanTo script stage.heap n) → n < lines_most
    → Goes script.lines at' ts' (left_after script n) (executed number (Some command))
    → meaning ideal_limits script.fields r.so_far.graph command ≡ fault word
    → EndsRun false script stage.heap stage.rows collections n r.so_far (how.Fault word) number
EndsRun-faulted script stage at' n number ts' command word collections behind r below goes does-is =
    let graph = r.so_far.graph in
    let ends : ending ideal_limits script.fields graph n (left_after script n) ≡ Some (fault_at number word) =
    ap (ending ideal_limits script.fields graph n) goes.is
    ∙ ending-below script.fields graph n (executed number (Some command)) goes.rest below
    ∙ ap (fault_in number) does-is in
    (behind, EndsAs-reached script stage.heap n (fault_at number word) r ends)

-- a command has no place behind a full collection
EndsRun-full : (script : ScriptText) (old main : Mutator) (at' n number : ℕ) (ts' : List ℕ) (command : Command)
    (need : ℕ) (r : RanTo script (heap_of main) n) → CollectsAll old main r.so_far.graph → n < lines_most
    → Goes script.lines at' ts' (left_after script n) (executed number (Some command))
    → IsSound script.fields r.so_far.graph command → HasNoPlace main r.so_far.graph command need
    → EndsRun false script (heap_of main) main.free fully_collected n r.so_far (how.HeapFull need) number
EndsRun-full script old main at' n number ts' command need r collects below goes sound place =
    let graph = r.so_far.graph in
    let leaves = collects.leaves in
    let filled : IsFull (heap_of main) main.free graph need = record {
      exact = leaves.exact;
      full = place.nowhere;
      empty = leaves.emptied;
      dead = leaves.dead;
      stuck = leaves.stuck;
    } in
    record {
      goes_on = goes-on script graph sound.after sound.written at' n number ts' command below goes sound.is;
      at = executed number (Some command);
      next = next_at (executed_lines script.lines) n (executed number (Some command)) goes.rest goes.is;
      number = refl;
      needs = place.lacks.needs;
      full = filled;
      collected = refl;
    }

-- A run that goes no further at a line which was not executed: it stands between two lines still, and comes to this.
pub record Stopped (script : ScriptText) (heap : HeapState) (objects : ℕ) (waiting : List ℕ)
    (old new : List ℕ → Type 0) (at : ℕ) (ts : List ℕ) (n : ℕ) (came : How) (line : ℕ) : Type 0 where
  pub collections : Collections
  pub running : Running script heap objects waiting old new at ts n collections
  pub comes : EndsRun false script (heap_of heap.main) heap.main.free collections n running.reached.so_far came line

-- so it does, whether a full collection is noted or not
Stopped-noted : {script : ScriptText} {heap : HeapState} {objects : ℕ} {waiting : List ℕ}
    {old new : List ℕ → Type 0} {at : ℕ} {ts : List ℕ} {n : ℕ} {came : How} {line : ℕ} (collected : Bool)
    → Stopped script heap objects waiting old new at ts n came line
    → Stopped script (with_collected heap collected) objects waiting old new at ts n came line
Stopped-noted collected s = record {
  collections = s.collections;
  running = Running-noted collected s.running;
  comes = s.comes;
}

-- it halts there
pub Pauses-stopped : {script : ScriptText} {heap : HeapState} {objects : ℕ} {waiting : List ℕ}
    {old new : List ℕ → Type 0} {at : ℕ} {ts : List ℕ} {n line : ℕ} (stop : Stop) {faults_old faults_new : ℕ}
    → Stopped script heap objects waiting old new at ts n (how_of stop) line → faults_new ≡ faults_old
    → Pauses false script heap waiting (record { how = how_of stop; line = line; executed = n }) old new
    faults_old faults_new
Pauses-stopped (Fault word) s steady = record {
  reached = s.running.reached;
  collections = s.collections;
  opened = s.running.opened;
  spends = s.running.spends;
  shown = s.running.shown;
  halts = (s.comes, s.running.handed, steady);
}
Pauses-stopped (NoRoom need) s steady = record {
  reached = s.running.reached;
  collections = s.collections;
  opened = s.running.opened;
  spends = s.running.spends;
  shown = s.running.shown;
  halts = (s.comes, s.running.handed, steady);
}
Pauses-stopped (NoClear entries) s steady = record {
  reached = s.running.reached;
  collections = s.collections;
  opened = s.running.opened;
  spends = s.running.spends;
  shown = s.running.shown;
  halts = (s.comes, s.running.handed, steady);
}

module _ {script : ScriptText} {heap : HeapState} {objects : ℕ} {waiting : List ℕ} {old new : List ℕ → Type 0}
    {at at' : ℕ} {ts ts' : List ℕ} {n : ℕ} (number : ℕ) (command : Command) (main : Mutator)
    (r : Running script heap objects waiting old new at ts n uncollected) (below : n < lines_most)
    (goes : Goes script.lines at' ts' (left_after script n) (executed number (Some command))) where
  -- a command that faults behind a full collection
  Stopped-full_map : (word : FaultWord) → word ≡ WeakFull
      → meaning ideal_limits script.fields r.reached.so_far.graph command ≡ fault word
      → CollectsFully script.fields heap.main main r.reached.so_far.graph command
      → Stopped script (heap_with heap main) objects waiting old new at ts n (how.Fault word) number
  Stopped-full_map word full faults fully =
      let behind = Running-fully r (wants r.reached.so_far below goes) fully in
      record {
        collections = fully_collected;
        running = behind;
        comes = EndsRun-faulted script (stage_of main) at' n number ts' command word fully_collected
            (inr (full, refl)) behind.reached below goes faults;
      }

  -- one that faults
  Stopped-faulted : (word : FaultWord) → meaning ideal_limits script.fields r.reached.so_far.graph command ≡ fault word
      → FaultsOn script.fields heap.main main r.reached.so_far.graph command word
      → Stopped script (heap_with heap main) objects waiting old new at ts n (how.Fault word) number
  Stopped-faulted word faults (FaultsOn.unchanged other same) =
      subst (λ one. Stopped script (heap_with heap one) objects waiting old new at ts n (how.Fault word) number)
      (sym same)
      (record {
        collections = uncollected;
        running = r;
        comes = EndsRun-faulted script (stage_of heap.main) at' n number ts' command word uncollected
            (inl (other, refl)) r.reached below goes faults;
      })
  Stopped-faulted word faults (FaultsOn.collected full fully) = Stopped-full_map word full faults fully

  -- one that has no place
  Stopped-without_place : (need : ℕ) → IsSound script.fields r.reached.so_far.graph command
      → CollectsFully script.fields heap.main main r.reached.so_far.graph command
      → HasNoPlace main r.reached.so_far.graph command need
      → Stopped script (heap_with heap main) objects waiting old new at ts n (how.HeapFull need) number
  Stopped-without_place need sound fully place =
      let behind = Running-fully r (wants r.reached.so_far below goes) fully in
      let (mid, collects) = fully_collects fully in
      record {
        collections = fully_collected;
        running = behind;
        comes = EndsRun-full script mid main at' n number ts' command need behind.reached collects below goes sound
            place;
      }

  -- so a command that stopped for good
  Stopped-command : (stop : Stop) → StopsAt script.fields heap.main main r.reached.so_far.graph command stop
      → Stopped script (heap_with heap main) objects waiting old new at ts n (how_of stop) number
  Stopped-command (Fault word) (faults, on) = Stopped-faulted word faults on
  Stopped-command (NoRoom need) (sound, fully, place) = Stopped-without_place need sound fully place
  Stopped-command (NoClear entries) (faults, fully) = Stopped-full_map WeakFull refl faults fully

-- a line was not executed
pub Stopped-line : (script : ScriptText) (heap after : HeapState) (objects : ℕ) (waiting : List ℕ)
    (old new : List ℕ → Type 0) (at at' : ℕ) (ts ts' : List ℕ) (n number : ℕ) (command : Option Command)
    (text : List ℕ) (stop : Stop) → (r : Running script heap objects waiting old new at ts n uncollected)
    → n < lines_most
    → Goes script.lines at' ts' (left_after script n) (executed number command)
    → after.rest ≡ with_cycle heap.rest (cycle_after_line heap.rest.in_cycle command)
    → CarriesLine script.fields heap.rest.in_cycle heap.main after.main r.reached.so_far.graph command text (Err stop)
    → Stopped script after objects waiting old new at ts n (how_of stop) number
Stopped-line script heap after objects waiting old new at at' ts ts' n number None text stop r below goes rest
    (same, nothing, is) =
    absurd (cc)
Stopped-line script heap after objects waiting old new at at' ts ts' n number (Some command) text stop r below goes
    rest (CarriesCommand.asked is asked) =
    absurd (cc)
Stopped-line script heap after objects waiting old new at at' ts ts' n number (Some command) text stop r below goes
    rest (CarriesCommand.apart apart stops) =
    let kept = with_collected (heap_with heap after.main) after.collected in
    subst (λ one. Stopped script one objects waiting old new at ts n (how_of stop) number)
    (same_heap after kept refl (sym (rest ∙ rest_stays heap.rest command apart)) refl)
    (Stopped-noted after.collected (Stopped-command number command after.main r below goes stop stops))
