-- The colour is the one that the marks have.
use Rattle.std.proofs.Common.{◌≡◌, slice_index}
use Rattle.mark_laws.proofs.Slots.{and_some}
use Rattle.shared_table.specs.Colours.{number_of}
use Rattle.heap_table.specs.Overviews.{known}
use Rattle.write_barrier.specs.Seats.{Marks, marks_by}
use Rattle.write_barrier.proofs.PausedCycles.{in_pause, marks_told, waiting_shared}
use Rattle.write_barrier.proofs.main_side.Main.colour.Goals as goal

pub colour-requires-clause-shared : goal.colour-requires-clause-shared
colour-requires-clause-shared c =
    waiting_shared c.self.inside c.self.invariant
    (in_pause c.self.inside c.args.self.now c.self.view_is c.requires.paused)

pub returns-clause-told : goal.returns-clause-told
returns-clause-told c =
    let waits = in_pause c.self.inside c.args.self.now c.self.view_is c.requires.paused in
    and_some (λ (marks : Marks). number_of c.colour.result ≡ slice_index marks.colours c.args.at)
    c.args.self.now.seat.marks (marks_by (known c.self.inside.seat.shared))
    (marks_told c.self.inside c.args.self.now c.self.view_is c.requires.paused)
    (c.colour.ensures.home (c.self.invariant.waits waits))
