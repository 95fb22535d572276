-- The pages stay, and with them all that is shared.
use Rattle.std.proofs.Common.{ℕ, ◌+◌, ◌≤◌, slice_set, ap, arith}
use Rattle.page_space.specs.Extents.{eden_start}
use Rattle.shared_table.specs.Owned.{Own}
use Rattle.heap_table.specs.Seats.{Seat}
use Rattle.heap_table.proofs.Agreeing.{own_alone_agrees}
use Rattle.heap_table.proofs.SharedWords.{pages-set_behind}
use Rattle.heap_table.proofs.main_seat.MainSeat.put_own_slot.Goals as goal

pub invariant_of-self : goal.invariant_of-self
invariant_of-self c =
    let own : Own = c.self.inside.own in
    let at : ℕ = c.args.cell + c.args.offset in
    let behind : eden_start own.space ≤ at =
    omega (arith, ap (λ (seat : Seat). eden_start seat.space) c.self.view_is, c.requires.own) in
    record {
      agrees = own_alone_agrees own c.put_slot.new.self c.self.inside.shared (slice_set own.words at c.args.word)
          c.put_slot.ensures (λ some. pages-set_behind own.space own.words at c.args.word behind)
          c.self.invariant.agrees;
    }
