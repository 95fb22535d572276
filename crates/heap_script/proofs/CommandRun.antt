-- A command that is executed.
use Rattle.std.proofs.Common.{◌≡◌, ◌∙◌, ℕ, suc, ◌+◌, ◌-◌, ◌≤◌, List, [], length, drop, false, Some, Ok, refl, sym}
use Rattle.std.proofs.Common.{subst}
use Rattle.std.proofs.Common.{arith}
use Rattle.std.proofs.lemmas.List.Elements.{All-get_or}
use Rattle.object_graph.specs.Graphs.{Graph}
use Rattle.heap_model.specs.Types.{Command}
use Rattle.heap_command.specs.declared.command.Command.TheVariants as command
use Rattle.heap_command.specs.Commands.{IsWithin}
use Rattle.script_text.specs.declared.script.Line.{Line}
use Rattle.script_text.specs.declared.script.What.TheVariants.{Run}
use Rattle.script_text.specs.Scripts.{ScriptText}
use Rattle.script_text.specs.Sound.{NamesWithin, what_at}
use Rattle.collector.specs.States.{HeapState, HeapShows, with_cycle}
use Rattle.mutator.specs.CarriesOut.{field_numbers}
use Rattle.mutator.specs.declared.output.TheConstants.{OUTPUT_BYTES, ROOM}
use Rattle.heap_script.specs.Between.{RunsLines}
use Rattle.heap_script.specs.Collecting.{Tries, Collects, CarriesCommand}
use Rattle.heap_script.specs.Cycles.{cycle_after_line}
use Rattle.heap_script.specs.Noting.{Passes}
use Rattle.heap_script.specs.Progress.{objects_made, CarriesLine}
use Rattle.heap_script.specs.Runs.{OutputHolds}
use Rattle.heap_script.proofs.LinesRun.{place_of, behind_first, by_index, one_less, below, reads}
use Rattle.heap_script.proofs.LinesRun.{RunsLines-line, passes_line, holds_line}
use Rattle.heap_script.proofs.Asking.{rest_stays}
use Rattle.heap_script.proofs.Ways.{past_end}

-- what names only fields below a count names only fields below a greater one
within_more : (variables fields most : ℕ) (one : Command) → fields ≤ most → IsWithin variables fields one
    → IsWithin variables most one
within_more variables fields most (command.Set x f v) few (bound, named, value) =
    (bound, omega (arith, few, named), value)
within_more variables fields most (command.Get y x f) few (into, bound, named) =
    (into, bound, omega (arith, few, named))
within_more variables fields most (command.Del x f) few (bound, named) = (bound, omega (arith, few, named))
within_more variables fields most _ few within = within

-- a command that is executed names only what the heap has
pub names_known : {script : ScriptText} {heap : HeapState} {objects : ℕ} {out taken ts : List ℕ} {rest : List Line}
    {spare last : ℕ} → RunsLines script heap objects out taken ts rest spare last → (one : Command)
    → what_at rest 0 ≡ Some (Run one) → IsWithin heap.main.seat.space.variables field_numbers one
names_known {script} {heap} {rest = rest} r one does =
    let names = NamesWithin (length script.variables) (length script.fields) in
    let named = All-get_or (λ (line : Line). names line.what) script.lines (place_of script.lines rest) past_end
    (below r (Run one) does) r.numbered in
    subst (λ (variables : ℕ). IsWithin variables field_numbers one) (sym r.running.reached.variables)
    (within_more (length script.variables) (length script.fields) field_numbers one r.fields
    (subst names (reads r (Run one) does) named))

module _ {script : ScriptText} {heap : HeapState} {objects : ℕ} {out taken ts : List ℕ} {rest : List Line}
    {spare last : ℕ} (r : RunsLines script heap objects out taken ts rest spare last) (command : Command)
    (does : what_at rest 0 ≡ Some (Run command)) (after : HeapState) (next : List Line) (on : next ≡ drop 1 rest)
    (same : after.rest ≡ heap.rest)
    (came : (names : List (List ℕ)) (graph : Graph) → HeapShows heap graph → objects ≡ length graph.objects
    → Tries names heap.main after.main graph command [] (Ok tt)) where
  -- the command was tried on the heap as it was
  tries : Tries script.fields heap.main after.main r.running.reached.so_far.graph command [] (Ok tt)
  tries = came script.fields r.running.reached.so_far.graph r.running.shown r.running.made

  -- it left open whether a cycle is
  stays_command : after.rest ≡ with_cycle heap.rest (cycle_after_line heap.rest.in_cycle (Some command))
  stays_command = same ∙ sym (rest_stays heap.rest command tries.apart)

  -- it came through
  abbrev carries_command : CarriesLine script.fields heap.rest.in_cycle heap.main after.main
      r.running.reached.so_far.graph
      (Some command) [] (Ok tt)
  carries_command =
      CarriesCommand.apart tries.apart
      (record {
        found = heap.main;
        apart = tries.apart;
        collects = Collects.unchanged refl;
        shows = r.running.shown.main;
        unfull = tries.asks;
        carries = tries.carries;
      })

  -- the next lines are those behind it
  on_command : next ≡ drop (suc (place_of script.lines rest)) script.lines
  on_command = on ∙ behind_first script.lines rest r.is

  -- they are one less
  count_command : spare + length next + 1 ≡ spare + length rest
  count_command = one_less spare rest next (by_index rest (Run command) does).0 on

  -- a command was executed
  pub RunsLines-command : (objects' : ℕ) → objects' ≡ objects + objects_made command
      → RunsLines script after objects' out taken ts next spare last
  RunsLines-command objects' made =
      RunsLines-line r (Run command) does after next spare on_command count_command stays_command carries_command
      objects' ts made refl

  -- no full collection came for it
  pub passes_command : {start : HeapState} {from : ℕ} → after.collected ≡ heap.collected → heap.collected ≡ false
      → Passes script start from heap (last - (spare + length rest))
      → Passes script start from after (last - (spare + length next))
  passes_command noted none =
      passes_line r (Run command) does after next spare on_command count_command stays_command carries_command
      (record { carries = carries_command; noted = noted }) (noted ∙ none)

  -- and it wrote nothing
  pub holds_command : length out + ROOM ≤ OUTPUT_BYTES → OutputHolds script (last - (spare + length rest)) out
      → OutputHolds script (last - (spare + length next)) out
  holds_command =
      holds_line r (Run command) does after next spare on_command count_command stays_command carries_command
