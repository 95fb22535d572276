-- All agree outside of the copy.
use Rattle.std.proofs.Common.{◌+◌, ◌≤◌, ap, arith}
use Rattle.page_space.specs.Extents.{marks_start}
use Rattle.heap_table.specs.Seats.{Seat}
use Rattle.heap_table.proofs.ChangedStretches.{copied_agrees}
use Rattle.heap_table.proofs.PutSeats.{agreed}
use Rattle.heap_table.proofs.main_seat.MainSeat.copy.Goals as goal

pub share_stretch-requires-clause-outside : goal.share_stretch-requires-clause-outside
share_stretch-requires-clause-outside c =
    let own = c.self.inside.own in
    let marks = ap (λ (seat : Seat). marks_start seat.space) c.self.view_is in
    let within : c.args.from + c.args.count ≤ marks_start own.space = omega (arith, marks, c.requires.within) in
    let room : c.args.to + c.args.count ≤ marks_start own.space = omega (arith, marks, c.requires.room) in
    copied_agrees own c.copy.new.self c.in-Some.side.main
    (agreed c.self.inside c.in-Some.side c.in-Some.is c.self.invariant) c.words_fit.ensures.counted c.args.from
    c.args.to c.args.count c.copy.ensures within room
