use Rattle.std.proofs.Common.{◌≡◌}
use Rattle.heap_script.proofs.Retrying.{IsReady, tries_left}
use Rattle.heap_script.proofs.Noted.{noted_at}
use Rattle.heap_script.proofs.execute.carry_out.Given as goal

abbrev pub invariant-tries : goal.invariant-tries
invariant-tries l = record {
  ready : IsReady l.script.fields l.initial.heap l.heap l.initial.objects l.command l.tried;
  noted : l.heap.collected ≡ noted_at l.initial.heap.collected l.tried;
  objects : l.objects ≡ l.initial.objects;
  out : l.out ≡ l.initial.out;
}

abbrev pub decreases-tries : goal.decreases-tries
decreases-tries l = tries_left l.tried
