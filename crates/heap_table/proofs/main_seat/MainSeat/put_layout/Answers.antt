-- The layout word goes to both.
use Rattle.std.proofs.Common.{IfSome, sym, subst, arith}
use Rattle.heap_table.specs.Seated.{IsSeated}
use Rattle.heap_table.specs.Sharing.{Agrees}
use Rattle.heap_table.proofs.PutSeats.{agreed, added_agree}
use Rattle.heap_table.proofs.main_seat.MainSeat.put_layout.Goals as goal
use Rattle.heap_table.proofs.main_seat.MainSeat.put_layout.Goals.{in-Some, in_default}

pub put_layout-requires-in-Some-clause-within : goal.put_layout-requires-in-Some-clause-within
put_layout-requires-in-Some-clause-within c =
    omega (arith, (agreed c.self.inside c.in-Some.side c.in-Some.is c.self.invariant).layouts, c.requires.within)

pub invariant_of-self : goal.invariant_of-self
invariant_of-self c =
    elim c.match-self.branch [
      | in-Some w ↦ subst IsSeated (sym w.self-inside-is) (record {
        agrees = added_agree c.self.inside.own c.put_layout.new.self w.in-Some.side w.put_layout-in-Some.new.self
            c.args.shape c.args.word w.in-Some.side.main.view
            (agreed c.self.inside w.in-Some.side w.in-Some.is c.self.invariant) c.put_layout.ensures
            w.put_layout-in-Some.ensures.put;
      })
      | in_default w ↦ subst IsSeated (sym w.self-inside-is) (record {
        agrees = subst (λ shared. IfSome shared (λ side. Agrees c.put_layout.new.self side.main))
            (sym w.in_default.is) tt;
      })
    ]
