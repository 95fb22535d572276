-- The pages stay, and with them all that is shared.
use Rattle.std.proofs.Common.{◌≡◌, ◌+◌, ◌≤◌, length, ap, arith}
use Rattle.page_space.specs.Extents.{eden_start, marks_start}
use Rattle.word_store.specs.Copies.{copied}
use Rattle.shared_table.specs.Owned.{Own}
use Rattle.heap_table.specs.Seats.{Seat}
use Rattle.heap_table.proofs.Agreeing.{own_alone_agrees}
use Rattle.heap_table.proofs.ChangedStretches.{first-copied}
use Rattle.heap_table.proofs.main_seat.MainSeat.copy_own.Goals as goal

pub invariant_of-self : goal.invariant_of-self
invariant_of-self c =
    let own : Own = c.self.inside.own in
    let marks = ap (λ (seat : Seat). marks_start seat.space) c.self.view_is in
    let counted : length own.words ≡ marks_start own.space = c.words_fit.ensures.counted in
    let behind : eden_start own.space ≤ c.args.to =
    omega (arith, ap (λ (seat : Seat). eden_start seat.space) c.self.view_is, c.requires.own) in
    let within : c.args.from + c.args.count ≤ length own.words = omega (arith, marks, counted, c.requires.within) in
    let room : c.args.to + c.args.count ≤ length own.words = omega (arith, marks, counted, c.requires.room) in
    record {
      agrees = own_alone_agrees own c.copy.new.self c.self.inside.shared
          (copied own.words c.args.from c.args.to c.args.count)
          c.copy.ensures
          (λ some. first-copied own.words c.args.from c.args.to c.args.count (eden_start own.space) within room behind)
          c.self.invariant.agrees;
    }
