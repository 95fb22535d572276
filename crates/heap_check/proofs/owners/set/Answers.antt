-- The flag is set, and it is told what it was.
use Rattle.std.proofs.Common.{Bool, true, false, Some, sym, ◌∙◌, ap}
use Rattle.std.proofs.lemmas.Option.{slice_get-get_or, same_Some}
use Rattle.std.proofs.lemmas.Bool.{false≢true}
use Rattle.std.proofs.lemmas.List.{length-set}
use Rattle.object_graph.proofs.Lists.{slice_get-set_same, slice_get-set_other}
use Rattle.heap_check.proofs.owners.set.Goals as goal

pub returns-clause-sets : goal.returns-clause-sets
returns-clause-sets c = record {
  as_many = length-set c.args.flags.now c.args.at true;
  here = slice_get-set_same c.args.flags.now c.args.at true c.requires;
  others = λ other apart. slice_get-set_other c.args.flags.now c.args.at other true apart;
}

pub returns-clause-was : goal.returns-clause-was
returns-clause-was c set =
    slice_get-get_or c.args.flags.now c.args.at false c.requires ∙ ap (λ (flag : Bool). Some flag) set

pub returns-clause-was_not : goal.returns-clause-was_not
returns-clause-was_not c clear is =
    false≢true (sym clear
    ∙ same_Some _ _ (sym (slice_get-get_or c.args.flags.now c.args.at false c.requires) ∙ is))
