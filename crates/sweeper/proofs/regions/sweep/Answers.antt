-- The sweep has come to the roots, and with it to its end.
use Rattle.sweeper.specs.Sweeping.{IsBegun}
use Rattle.sweeper.proofs.SweepSteps.{sweep_begins}
use Rattle.sweeper.proofs.SweepEnds.{sweep_ends}
use Rattle.sweeper.proofs.regions.sweep.Goals as goal

pub sweep_regions-requires-clause-begun : goal.sweep_regions-requires-clause-begun
sweep_regions-requires-clause-begun c = (
  c.args.main.now,
  record { limits = c.addresses_fit.ensures.within; quiet = c.requires.quiet; whole = c.requires.whole },
  sweep_begins c.args.main.now c.clear_pages.new.main c.args.marked.now.addresses c.requires.rows
      c.clear_pages.ensures,
)

pub returns : goal.returns
returns c =
    let begun : IsBegun c.args.main.now =
    record { limits = c.addresses_fit.ensures.within; quiet = c.requires.quiet; whole = c.requires.whole } in
    let from_begin = sweep_begins c.args.main.now c.clear_pages.new.main c.args.marked.now.addresses c.requires.rows
    c.clear_pages.ensures in
    record {
      swept = sweep_ends begun (c.sweep_regions.ensures c.args.main.now begun from_begin) c.requires.closed
          c.free_runs_fit.ensures;
    }
