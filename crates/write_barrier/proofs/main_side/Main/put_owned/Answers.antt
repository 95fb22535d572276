-- The step may be made in an open cycle.
use Rattle.std.proofs.Common.{rules}
use Rattle.write_barrier.proofs.CycleSteps.{of_page, owned_step}
use Rattle.write_barrier.proofs.main_side.Main.put_owned.Goals as goal

pub store_owned-requires-clause-may : goal.store_owned-requires-clause-may
store_owned-requires-clause-may c = λ mark.
    owned_step c.self.inside c.args.self.now c.self.view_is c.self.invariant (record {
      counted = search rules;
      shared = c.layouts_fit.ensures.shared mark;
      long = c.layouts_fit.ensures.counted;
    }) mark c.args.a c.args.word c.requires.may_store c.requires.of_page

pub store_owned-requires-clause-within : goal.store_owned-requires-clause-within
store_owned-requires-clause-within c =
    of_page c.self.inside c.args.self.now c.args.a c.self.view_is c.self.invariant c.requires.of_page
