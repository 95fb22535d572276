-- The pages stay where there is a shared table, and with them all that is shared.
use Rattle.std.proofs.Common.{ℕ, slice_set}
use Rattle.shared_table.specs.Owned.{Own}
use Rattle.heap_table.proofs.Agreeing.{own_alone_agrees}
use Rattle.heap_table.proofs.PutSeats.{behind_pages}
use Rattle.heap_table.proofs.SharedWords.{pages-set_behind}
use Rattle.heap_table.proofs.main_seat.MainSeat.put_own.Goals as goal

pub invariant_of-self : goal.invariant_of-self
invariant_of-self c =
    let own : Own = c.self.inside.own in
    let at : ℕ = c.args.a in
    record {
      agrees = own_alone_agrees own c.put.new.self c.self.inside.shared (slice_set own.words at c.args.word)
          c.put.ensures
          (λ some. pages-set_behind own.space own.words at c.args.word
          (behind_pages c.self.inside c.args.self.now at c.self.view_is c.requires.own some))
          c.self.invariant.agrees;
    }
