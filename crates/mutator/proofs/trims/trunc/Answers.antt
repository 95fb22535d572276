-- The first elements stay alone, or the number is out of range.
use Rattle.std.proofs.Common.{w64, SFits, rules}
use Rattle.std.proofs.lemmas.Int.{to_z-of_z}
use Rattle.heap_command.specs.declared.command.Command.TheVariants.{Trunc}
use Rattle.heap_command.specs.declared.command.FaultWord.TheVariants as word
use Rattle.heap_command.specs.declared.command.Operand.TheVariants.{Var}
use Rattle.mutator.specs.declared.stop.Stop.TheVariants.{Fault}
use Rattle.mutator.proofs.ElementsSet.{trunc_carried, trunc_stopped}
use Rattle.mutator.proofs.IndexedLists.{indexed_read, indexed_shown}
use Rattle.mutator.proofs.StoppedBy.{stopped_with}
use Rattle.mutator.proofs.StillShown.{first_still}
use Rattle.mutator.proofs.trims.trunc.Goals as goal

pub find_list-requires : goal.find_list-requires
find_list-requires c =
    first_still (Var c.args.x) c.args.n c.operands.ensures.same c.requires.shown c.in_ok-target.ensures.found

pub truncate-requires : goal.truncate-requires
truncate-requires c =
    let (graph, shows) = c.requires.shown in
    indexed_shown (indexed_read c.args.x c.args.n c.operands.ensures.same shows
    (c.in_ok-target.ensures.found graph shows) (c.in_ok-found.ensures graph)
    (c.in_ok-kept.ensures c.operands.new.main graph))

pub returns : goal.returns
returns c = record {
  carried = λ graph names shows.
      let same = c.operands.ensures.same in
      let indexed = indexed_read c.args.x c.args.n same shows (c.in_ok-target.ensures.found graph shows)
      (c.in_ok-found.ensures graph) (c.in_ok-kept.ensures c.operands.new.main graph) in
      let fits : SFits w64 c.in_ok-kept.kept = search rules in
      trunc_carried names indexed (to_z-of_z w64 c.in_ok-kept.kept fits) same
      (c.in_ok-truncate.ensures graph indexed.list indexed.shows indexed.stands);
}

pub returns-in_err-truncate : goal.returns-in_err-truncate
returns-in_err-truncate c = record {
  carried = λ graph names shows.
      let same = c.operands.ensures.same in
      let indexed = indexed_read c.args.x c.args.n same shows (c.in_ok-target.ensures.found graph shows)
      (c.in_ok-found.ensures graph) (c.in_ok-kept.ensures c.operands.new.main graph) in
      let fits : SFits w64 c.in_ok-kept.kept = search rules in
      let trims = c.in_err-truncate.ensures graph indexed.list indexed.shows indexed.stands in
      stopped_with c.truncate.new.main graph names (Trunc c.args.x c.args.n) c.from_residual-in_err-truncate.result
      (Fault word.Range) same c.from_residual-in_err-truncate.ensures.1
      (trunc_stopped names indexed (to_z-of_z w64 c.in_ok-kept.kept fits) c.in_err-truncate.field-0.0 trims);
}
