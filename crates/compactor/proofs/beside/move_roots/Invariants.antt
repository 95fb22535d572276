-- The first root words of the variables before one are moved.
use Rattle.compactor.specs.Young.{RootsMoved}
use Rattle.compactor.proofs.beside.move_roots.Given as goal

abbrev pub invariant-loop-variable : goal.invariant-loop-variable
invariant-loop-variable l = record { moved : RootsMoved l.fn.main l.main l.moves l.variable }
