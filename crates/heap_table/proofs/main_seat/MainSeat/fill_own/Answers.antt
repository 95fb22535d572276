-- The pages stay, and with them all that is shared.
use Rattle.std.proofs.Common.{◌≡◌, ◌+◌, ◌≤◌, length, ap, arith}
use Rattle.page_space.specs.Extents.{eden_start, marks_start}
use Rattle.shared_table.specs.Owned.{Own}
use Rattle.heap_table.specs.Seats.{Seat}
use Rattle.heap_table.proofs.Agreeing.{own_alone_agrees}
use Rattle.heap_table.proofs.ChangedStretches.{first-filled}
use Rattle.heap_table.proofs.HeapWords.{filled}
use Rattle.heap_table.proofs.main_seat.MainSeat.fill_own.Goals as goal

pub invariant_of-self : goal.invariant_of-self
invariant_of-self c =
    let own : Own = c.self.inside.own in
    let marks = ap (λ (seat : Seat). marks_start seat.space) c.self.view_is in
    let counted : length own.words ≡ marks_start own.space = c.words_fit.ensures.counted in
    let behind : eden_start own.space ≤ c.args.at =
    omega (arith, ap (λ (seat : Seat). eden_start seat.space) c.self.view_is, c.requires.own) in
    let within : c.args.at + c.args.count ≤ length own.words = omega (arith, marks, counted, c.requires.within) in
    record {
      agrees = own_alone_agrees own c.fill.new.self c.self.inside.shared
          (filled own.words c.args.at c.args.count c.args.word)
          c.fill.ensures
          (λ some. first-filled own.words c.args.at c.args.count c.args.word (eden_start own.space) within behind)
          c.self.invariant.agrees;
    }
