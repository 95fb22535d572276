-- Each other cell that waits is on the lists.
use Rattle.mark_barrier.proofs.Listed.{all_but}
use Rattle.mark_barrier.proofs.grey_cells.GreyCells.blacken.Goals as goal

pub make_black-requires-clause-lists : goal.make_black-requires-clause-lists
make_black-requires-clause-lists c = all_but c.args.seat.now c.args.self.now c.args.at c.requires.paid.lists
