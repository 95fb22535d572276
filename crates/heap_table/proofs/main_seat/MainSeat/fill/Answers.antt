-- All agree outside of what is filled.
use Rattle.std.proofs.Common.{◌+◌, ◌≤◌, ap, arith}
use Rattle.page_space.specs.Extents.{marks_start}
use Rattle.heap_table.specs.Seats.{Seat}
use Rattle.heap_table.proofs.ChangedStretches.{filled_agrees}
use Rattle.heap_table.proofs.PutSeats.{agreed}
use Rattle.heap_table.proofs.main_seat.MainSeat.fill.Goals as goal

pub share_stretch-requires-clause-outside : goal.share_stretch-requires-clause-outside
share_stretch-requires-clause-outside c =
    let own = c.self.inside.own in
    let marks = ap (λ (seat : Seat). marks_start seat.space) c.self.view_is in
    let within : c.args.at + c.args.count ≤ marks_start own.space = omega (arith, marks, c.requires.within) in
    filled_agrees own c.fill.new.self c.in-Some.side.main
    (agreed c.self.inside c.in-Some.side c.in-Some.is c.self.invariant) c.words_fit.ensures.counted c.args.at
    c.args.count c.args.word c.fill.ensures within
