use Rattle.std.proofs.Common.{arith}
use Rattle.nursery.proofs.EdenStarts.{eden_starts}
use Rattle.nursery.proofs.Nursery.new.Goals as goal

pub invariant_of-result : goal.invariant_of-result
invariant_of-result c = record {
  is_young = record { fits = omega arith; half = omega arith; granted = omega arith };
  within = c.sizes_fit.ensures;
  eden = eden_starts c.args.regions.now c.start.result c.start.ensures.starts;
}
