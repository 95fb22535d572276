use Rattle.std.proofs.Common.{arith}
use Rattle.heap_model.specs.Images.{image_heap}
use Rattle.heap_check.proofs.BrokenWalks.{row_none, row_more, walk_ends, walk_breaks}
use Rattle.heap_check.proofs.rows.mark_row.Goals as goal

pub walk-init : goal.walk-init
walk-init c = record {
  within = c.requires.before;
  marked = row_none (image_heap c.args.image.now) c.args.from c.args.starts.now;
}

pub walk-preserved : goal.walk-preserved
walk-preserved c =
    let goes = c.in-Found.ensures in
    record {
      within = goes.within;
      marked = row_more (image_heap c.args.image.now) c.args.bound c.args.from c.walk.at c.args.starts.now c.walk.starts
          c.in-Found.cell c.walk.invariant.marked goes
          (omega (arith, goes.within, goes.some, c.requires.room, c.walk.auto.starts));
    }

pub returns-in-Ended-clause-ends : goal.returns-in-Ended-clause-ends
returns-in-Ended-clause-ends c =
    walk_ends (image_heap c.args.image.now) c.args.bound c.args.from c.walk.at c.args.starts.now c.walk.starts
    c.walk.invariant.marked c.walk.invariant.within c.in-Ended.ensures

pub returns-in-Broken-clause-breaks : goal.returns-in-Broken-clause-breaks
returns-in-Broken-clause-breaks c =
    walk_breaks (image_heap c.args.image.now) c.args.bound c.args.from c.walk.at c.args.starts.now c.walk.starts
    c.walk.invariant.marked c.in-Broken.ensures
