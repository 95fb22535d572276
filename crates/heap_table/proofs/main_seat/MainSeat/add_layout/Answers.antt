-- The layout word goes to both.
use Rattle.std.proofs.Common.{◌∙◌, rules}
use Rattle.heap_table.proofs.OwnedSteps.{beside_is, layout_put}
use Rattle.heap_table.proofs.PutSeats.{agreed, added_agree}
use Rattle.heap_table.proofs.main_seat.MainSeat.add_layout.Goals as goal

pub invariant_of-self : goal.invariant_of-self
invariant_of-self c = record {
  agrees = added_agree c.self.inside.own c.put_layout.new.self c.in-Some.side c.add_layout.new.self c.args.shape
      c.args.word _ (agreed c.self.inside c.in-Some.side c.in-Some.is c.self.invariant) c.put_layout.ensures
      c.add_layout.ensures.added;
}

pub returns-clause-added : goal.returns-clause-added
returns-clause-added c = search rules

pub returns-clause-put : goal.returns-clause-put
returns-clause-put c =
    returns-clause-added c ∙ layout_put c.args.self.now _ c.args.shape c.args.word
    (beside_is c.self.inside c.args.self.now c.in-Some.side c.self.view_is c.in-Some.is)
