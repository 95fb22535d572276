-- What the variables before one refer to is shaded.
use Rattle.std.proofs.Common.{ℕ, ◌<◌, Contains}
use Rattle.cycle_opening.specs.Opened.{GrowsSure, RefersToPage}
use Rattle.cycle_opening.proofs.shading.shade_roots.Given as goal

abbrev pub invariant-loop-variable : goal.invariant-loop-variable
invariant-loop-variable l = record {
  grows : GrowsSure l.initial.main l.main;
  shaded : (variable at : ℕ) → variable < l.variable → RefersToPage l.initial.main variable at
      → Contains l.main.cycle.sure at;
}
