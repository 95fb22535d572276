-- The small integer that is written in the command, or that a variable holds.
use Rattle.std.proofs.Common.{subst}
use Rattle.std.proofs.lemmas.Option.{IfSome_then}
use Rattle.heap_command.specs.Commands.{NamesBelow}
use Rattle.mutator.proofs.HeldValues.{is_root}
use Rattle.mutator.proofs.SmallSums.{integer_held}
use Rattle.mutator.proofs.bindings.small_integer.Goals as goal

pub small-requires-clause-root : goal.small-requires-clause-root
small-requires-clause-root c =
    is_root c.in-Var.x c.requires.shown.1
    (subst (NamesBelow c.args.main.now.seat.space.variables) c.in-Var.is c.requires.within)

pub returns-in-Var-clause-found : goal.returns-in-Var-clause-found
returns-in-Var-clause-found c =
    let x = c.in-Var.x in
    let known = subst (NamesBelow c.args.main.now.seat.space.variables) c.in-Var.is c.requires.within in
    rw c.in-Var.is (IfSome_then c.small.result c.small.ensures.holds
    (λ v holds. (holds.0, λ graph shows. integer_held x v shows known holds.1)))
