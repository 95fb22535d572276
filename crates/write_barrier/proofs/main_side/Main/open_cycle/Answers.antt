-- The caller's choice serves what the seat knows.
use Rattle.std.proofs.Common.{rules}
use Rattle.write_barrier.proofs.BegunCycles.{begun_opens, chosen_here}
use Rattle.write_barrier.proofs.KnownSeats.{shared_there}
use Rattle.write_barrier.proofs.main_side.Main.open_cycle.Goals as goal

pub open_cycle-requires-clause-chosen : goal.open_cycle-requires-clause-chosen
open_cycle-requires-clause-chosen g c =
    chosen_here g.M.Choice.fits c.self.inside c.args.self.now c.args.made c.self.view_is c.self.invariant (record {
      counted = search rules;
      shared = shared_there c.self.inside c.args.self.now c.self.view_is c.requires.shared;
      long = c.layouts_fit.ensures.counted;
    }) c.requires.quiet c.requires.layouts c.requires.chosen

pub returns-clause-opened : goal.returns-clause-opened
returns-clause-opened g c =
    begun_opens g.M.Choice.fits c.self.inside c.args.self.now c.open_cycle.new.self c.args.made c.self.view_is
    c.self.invariant (record {
      counted = search rules;
      shared = shared_there c.self.inside c.args.self.now c.self.view_is c.requires.shared;
      long = c.layouts_fit.ensures.counted;
    }) c.requires.quiet c.requires.layouts c.open_cycle.ensures.opened
