use Rattle.std.proofs.Common.{ap, length, subst, arith, sym}
use Rattle.free_runs.specs.FreeRuns.{AreFree}
use Rattle.free_runs.proofs.Pages.{whole_count, whole_free}
use Rattle.free_runs.proofs.FreeRuns.new.Goals as goal

pub invariant_of-result : goal.invariant_of-result
invariant_of-result c = record {
  few = omega (arith, c.requires, ap length c.in_ok-rows.ensures, whole_count c.args.pages);
  free = subst AreFree (sym c.in_ok-rows.ensures) (whole_free c.args.pages);
  cursor = omega arith;
}
