-- A born cell is of a page.
use Rattle.std.proofs.Common.{sym, subst, ◌<◌}
use Rattle.page_space.specs.Extents.{eden_start}
use Rattle.shared_table.specs.Worlds.{world_at_home}
use Rattle.mark_laws.proofs.MainStays.{born_old}
use Rattle.heap_table.specs.Overviews.{overview}
use Rattle.heap_table.specs.Seats.{Seat}
use Rattle.mark_barrier.proofs.grey_cells.GreyCells.shade.Goals as goal

pub shade_cell-requires-clause-within : goal.shade_cell-requires-clause-within
shade_cell-requires-clause-within c =
    subst (λ (s : Seat). c.args.at < eden_start s.space) (sym c.sound.ensures.same)
    (born_old (world_at_home (overview c.args.seat.now)) c.sound.ensures.sound c.args.at c.requires.born)
