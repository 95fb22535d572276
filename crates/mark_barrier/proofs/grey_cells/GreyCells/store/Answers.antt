-- The target of the word is owed for a moment, and then shaded.
use Rattle.std.proofs.Common.{sym, subst}
use Rattle.heap_table.specs.Seats.{Seat}
use Rattle.mark_barrier.specs.Paid.{ListsGrey}
use Rattle.mark_barrier.proofs.Listed.{store_lists}
use Rattle.mark_barrier.proofs.grey_cells.GreyCells.store.Goals as goal

pub shade_target-requires-clause-lists : goal.shade_target-requires-clause-lists
shade_target-requires-clause-lists c =
    subst (λ (s : Seat). ListsGrey s c.args.self.now) (sym c.store_slot.ensures.stored)
    (store_lists c.args.seat.now c.args.self.now c.args.a c.args.word.0 c.requires.paid.lists)
