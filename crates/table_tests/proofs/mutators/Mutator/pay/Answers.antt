-- A cell that is shaded stays one of those that pages are cut into.
use Rattle.table_tests.proofs.mutators.Mutator.pay.Goals as goal

pub invariant_of-self : goal.invariant_of-self
invariant_of-self c =
    record { whole = c.shade-was_white.ensures.whole c.args.self.now.trimmed c.args.self.now.whole }
