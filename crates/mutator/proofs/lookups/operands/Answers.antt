-- Both operands are read of the same heap.
use Rattle.std.proofs.Common.{sym, subst}
use Rattle.heap_command.specs.Commands.{NamesBelow}
use Rattle.write_barrier.specs.MutatorState.{Mutator}
use Rattle.mutator.proofs.StillShown.{some_still}
use Rattle.mutator.proofs.lookups.operands.Goals as goal

pub operand-requires-clause-shown : goal.operand-requires-clause-shown
operand-requires-clause-shown c = some_still c.first_operand.ensures.same c.requires.shown

pub operand-requires-in_default : goal.operand-requires-in_default
operand-requires-in_default c = record {
  shown = some_still c.first_operand.ensures.same c.requires.shown;
  within = subst (λ (main : Mutator). NamesBelow main.seat.space.variables c.args.b) (sym c.first_operand.ensures.same)
      c.requires.second;
}
