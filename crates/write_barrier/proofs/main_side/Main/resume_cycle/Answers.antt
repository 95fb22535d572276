-- The caller's choice serves what the seat knows.
use Rattle.std.proofs.Common.{rules}
use Rattle.write_barrier.proofs.PausedCycles.{in_pause, waiting_shared}
use Rattle.write_barrier.proofs.ResumedCycles.{goes_here, resumed_told, resumes}
use Rattle.write_barrier.proofs.main_side.Main.resume_cycle.Goals as goal

pub resume_cycle-requires-clause-chosen : goal.resume_cycle-requires-clause-chosen
resume_cycle-requires-clause-chosen g c =
    let waits = in_pause c.self.inside c.args.self.now c.self.view_is c.requires.paused in
    goes_here g.M.Choice.fits c.self.inside c.args.self.now c.args.made c.self.view_is c.self.invariant
    c.requires.paused (record {
      counted = search rules;
      shared = waiting_shared c.self.inside c.self.invariant waits;
      long = c.layouts_fit.ensures.counted;
    }) c.requires.layouts c.requires.chosen

pub returns-clause-resumed : goal.returns-clause-resumed
returns-clause-resumed g c =
    let waits = in_pause c.self.inside c.args.self.now c.self.view_is c.requires.paused in
    resumes g.M.Choice.fits c.self.inside c.args.self.now c.args.made c.self.view_is c.self.invariant
    c.requires.paused (record {
      counted = search rules;
      shared = waiting_shared c.self.inside c.self.invariant waits;
      long = c.layouts_fit.ensures.counted;
    }) c.requires.layouts c.resume_cycle.new.self c.resume_cycle.ensures.resumed

pub invariant_of-self : goal.invariant_of-self
invariant_of-self g c =
    let waits = in_pause c.self.inside c.args.self.now c.self.view_is c.requires.paused in
    resumed_told g.M.Choice.fits c.self.inside c.args.self.now c.args.made c.self.view_is c.self.invariant
    c.requires.paused (record {
      counted = search rules;
      shared = waiting_shared c.self.inside c.self.invariant waits;
      long = c.layouts_fit.ensures.counted;
    }) c.requires.layouts c.resume_cycle.new.self c.resume_cycle.ensures.resumed
