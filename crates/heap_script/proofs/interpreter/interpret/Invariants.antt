use Rattle.std.proofs.Common.{◌≡◌, ◌-◌, false, None}
use Rattle.object_graph.specs.Run.{lines_most}
use Rattle.heap_script.specs.Stages.{uncollected}
use Rattle.heap_script.specs.Runs.{OutputHolds}
use Rattle.heap_script.specs.Inspecting.{HasInspected, plan_of}
use Rattle.heap_script.specs.Between.{Running}
use Rattle.heap_script.proofs.interpreter.interpret.Given as goal

abbrev pub invariant-loop-at : goal.invariant-loop-at
invariant-loop-at g l = record {
  running : Running l.script l.heap l.objects l.out (g.K.Sink.HasTaken l.initial.sink) (g.K.Sink.HasTaken l.sink)
      l.at l.turns l.executed uncollected;
  holds : OutputHolds l.script l.executed l.out;
  space : l.heap.main.seat.space ≡ l.initial.heap.main.seat.space;
  inspected : HasInspected g.J.Judge.Judged l.script l.initial.heap l.initial.inspection false l.executed l.heap
      l.inspection None;
  same : plan_of g.J.Judge.regions l.inspection ≡ plan_of g.J.Judge.regions l.initial.inspection;
  taken : l.initial.heap.collected ≡ false → l.heap.collected ≡ false;
  steady : g.K.Sink.faults l.sink ≡ g.K.Sink.faults l.initial.sink;
}

abbrev pub decreases-loop-at : goal.decreases-loop-at
decreases-loop-at g l = lines_most - l.executed
