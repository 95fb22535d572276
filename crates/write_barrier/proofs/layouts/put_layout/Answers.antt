-- In an open cycle the layout word may be added.
use Rattle.std.proofs.Common.{rules}
use Rattle.write_barrier.proofs.PutLayouts.{may_add}
use Rattle.write_barrier.proofs.layouts.put_layout.Goals as goal

pub add_layout-requires-clause-may : goal.add_layout-requires-clause-may
add_layout-requires-clause-may c =
    may_add c.args.seat.now.shared c.args.shape c.word-word.result _ c.layout.ensures.is c.word-word.ensures
    (c.layouts_fit.ensures.shared (search rules)) c.requires.unused
