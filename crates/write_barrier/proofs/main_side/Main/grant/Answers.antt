-- A run of a page ends before the marks.
use Rattle.std.proofs.Common.{◌+◌}
use Rattle.write_barrier.proofs.Places.{page_run}
use Rattle.write_barrier.proofs.main_side.Main.grant.Goals as goal

pub fill-requires-clause-within : goal.fill-requires-clause-within
fill-requires-clause-within c =
    page_run c.args.self.now.seat.space (c.args.run.at + c.args.run.words) c.requires.of_page
