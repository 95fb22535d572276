use Rattle.linear_probing.proofs.Searches.{NoneMet}
use Rattle.linear_probing.proofs.table.find_place.Given as goal

abbrev pub invariant-loop-step : goal.invariant-loop-step
invariant-loop-step l = NoneMet l.table l.number l.step
