-- The main seat of the shared table knows it.
use Rattle.std.proofs.Common.{Option, sym, subst}
use Rattle.mark_world.specs.Soundness.{AreIn}
use Rattle.shared_table.specs.Seats.{Side}
use Rattle.heap_table.specs.Overviews.{known}
use Rattle.heap_table.specs.Seated.{besides}
use Rattle.heap_table.specs.Seats.{Seat}
use Rattle.heap_table.proofs.main_seat.MainSeat.sound.Goals as goal

pub returns-clause-grey : goal.returns-clause-grey
returns-clause-grey c =
    subst (λ (s : Seat). AreIn (known s.shared).view.born (known s.shared).view.grey) c.self.view_is
    (subst (λ (o : Option Side). AreIn (known (besides o)).view.born (known (besides o)).view.grey)
    (sym c.in-Some.is) c.sound.ensures.grey)
