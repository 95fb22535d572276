-- The word of a small integer: of one that a variable holds, and of one that is written in the command.
use Rattle.std.proofs.Common.{w64, SFits, rules, subst}
use Rattle.std.specs.FinMap.{get}
use Rattle.std.proofs.lemmas.Option.{IfSome_then}
use Rattle.heap_command.specs.Commands.{NamesBelow}
use Rattle.handle_roots.specs.declared.held.Held.TheVariants.{Int}
use Rattle.mutator.proofs.HeldValues.{is_root, held_shows}
use Rattle.mutator.proofs.SmallSums.{integer_shown}
use Rattle.mutator.proofs.SmallWords.{integer_word}
use Rattle.mutator.proofs.lookups.small_word.Goals as goal

pub small_word-requires-clause-root : goal.small_word-requires-clause-root
small_word-requires-clause-root c =
    is_root c.in-Var.x c.requires.shown.1
    (subst (NamesBelow c.args.main.now.seat.space.variables) c.in-Var.is c.requires.within)

pub returns-in-Var-clause-found : goal.returns-in-Var-clause-found
returns-in-Var-clause-found c =
    let x = c.in-Var.x in
    let known = subst (NamesBelow c.args.main.now.seat.space.variables) c.in-Var.is c.requires.within in
    rw c.in-Var.is (IfSome_then c.small_word.result c.small_word.ensures.holds
    (λ word (v, few, gives, holds). λ graph shows. record {
      v = v;
      small = few;
      gives = gives;
      is = integer_shown v (get graph.bindings x) (held_shows x (Int v) shows known holds);
    }))

pub returns-in-Int-clause-found : goal.returns-in-Int-clause-found
returns-in-Int-clause-found c =
    let v = c.in-Int.v in
    let fits : SFits w64 v = search rules in
    rw c.in-Int.is (IfSome_then c.small.result
    (integer_word v c.small.result fits (c.small.ensures.small, c.small.ensures.outside))
    (λ word is. λ graph shows. is))
