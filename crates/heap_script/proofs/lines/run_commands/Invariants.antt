use Rattle.std.proofs.Common.{◌≡◌, ◌≤◌, ℕ, ◌-◌, ◌+◌, List, false, length}
use Rattle.script_text.specs.Scripts.{ScriptText}
use Rattle.collector.specs.States.{HeapState}
use Rattle.mutator.specs.declared.output.TheConstants.{OUTPUT_BYTES, ROOM}
use Rattle.heap_script.specs.Runs.{OutputHolds}
use Rattle.heap_script.specs.Between.{RunsLines}
use Rattle.heap_script.specs.Noting.{Passes}
use Rattle.heap_script.proofs.lines.run_commands.Given as goal

abbrev pub invariant-loop-command : goal.invariant-loop-command
invariant-loop-command g l = record {
  runs : (script : ScriptText) (out taken ts : List ℕ) (spare last : ℕ)
      → RunsLines script l.initial.heap l.initial.objects out taken ts l.fn.lines spare last
      → RunsLines script l.heap l.objects out taken ts l.rest spare last;
  passes : (script : ScriptText) (out taken ts : List ℕ) (spare last : ℕ) (start : HeapState) (from : ℕ)
      → RunsLines script l.initial.heap l.initial.objects out taken ts l.fn.lines spare last
      → l.initial.heap.collected ≡ false
      → Passes script start from l.initial.heap (last - (spare + length l.fn.lines))
      → Passes script start from l.heap (last - (spare + length l.rest));
  holds : (script : ScriptText) (out taken ts : List ℕ) (spare last : ℕ)
      → RunsLines script l.initial.heap l.initial.objects out taken ts l.fn.lines spare last
      → length out + ROOM ≤ OUTPUT_BYTES → OutputHolds script (last - (spare + length l.fn.lines)) out
      → OutputHolds script (last - (spare + length l.rest)) out;
  space : l.heap.main.seat.space ≡ l.initial.heap.main.seat.space;
  noted : l.heap.collected ≡ l.initial.heap.collected;
  fewer : length l.rest ≤ length l.fn.lines;
}

abbrev pub decreases-loop-command : goal.decreases-loop-command
decreases-loop-command g l = length l.rest
