-- What the first root words of the variables before one refer to is marked.
use Rattle.std.proofs.Common.{ℕ, ◌<◌, Contains}
use Rattle.handle_roots.specs.Roots.{root_at}
use Rattle.write_barrier.specs.MutatorState.{heap_of}
use Rattle.ephemeron_mark.specs.Progress.{HoldsReference, HasGrown}
use Rattle.ephemeron_mark.proofs.targets.mark_roots.Given as goal

abbrev pub invariant-loop-variable : goal.invariant-loop-variable
invariant-loop-variable l = record {
  grown : HasGrown l.main l.initial.cells l.cells;
  targets : (variable at : ℕ) → variable < l.variable
      → HoldsReference (heap_of l.main) (root_at l.main.seat.space variable) at → Contains l.cells.addresses at;
}
