use Rattle.std.proofs.Common.{◌≡◌, ◌≤◌, ℕ, ◌-◌, ◌+◌, List, [], false, length}
use Rattle.heap_script.specs.Runs.{OutputHolds}
use Rattle.heap_script.specs.Between.{Running, only, RunsLines}
use Rattle.heap_script.specs.Noting.{Passes}
use Rattle.heap_script.specs.Stages.{uncollected}
use Rattle.heap_script.proofs.lines.run_lines.Given as goal

abbrev pub invariant-loop-spare : goal.invariant-loop-spare
invariant-loop-spare g l = record {
  runs : (taken : List ℕ)
      → Running l.script l.initial.heap l.initial.objects l.out (only []) (only taken) l.fn.from.at
      l.initial.turns l.fn.from.executed uncollected
      → RunsLines l.script l.heap l.objects l.out taken l.turns l.rest l.spare l.last;
  passes : (taken : List ℕ)
      → Running l.script l.initial.heap l.initial.objects l.out (only []) (only taken) l.fn.from.at
      l.initial.turns l.fn.from.executed uncollected → l.initial.heap.collected ≡ false
      → Passes l.script l.initial.heap l.fn.from.executed l.heap (l.last - (l.spare + length l.rest));
  holds : OutputHolds l.script l.fn.from.executed l.out
      → OutputHolds l.script (l.last - (l.spare + length l.rest)) l.out;
  most : l.spare + length l.rest ≤ l.last;
  further : l.fn.from.executed ≤ l.last - (l.spare + length l.rest);
  space : l.heap.main.seat.space ≡ l.initial.heap.main.seat.space;
  noted : l.heap.collected ≡ l.initial.heap.collected;
  within : length l.rest ≤ length l.lines;
}

abbrev pub decreases-loop-spare : goal.decreases-loop-spare
decreases-loop-spare g l = l.spare + length l.rest
