-- The first elements go, or the number is out of range.
use Rattle.std.proofs.Common.{w64, SFits, rules}
use Rattle.std.proofs.lemmas.Int.{to_z-of_z}
use Rattle.heap_command.specs.declared.command.Command.TheVariants.{Shift}
use Rattle.heap_command.specs.declared.command.FaultWord.TheVariants as word
use Rattle.heap_command.specs.declared.command.Operand.TheVariants.{Var}
use Rattle.mutator.specs.declared.stop.Stop.TheVariants.{Fault}
use Rattle.mutator.proofs.ElementsSet.{shift_carried, shift_stopped}
use Rattle.mutator.proofs.IndexedLists.{indexed_read, indexed_shown}
use Rattle.mutator.proofs.StoppedBy.{stopped_with}
use Rattle.mutator.proofs.StillShown.{first_still}
use Rattle.mutator.proofs.trims.shift.Goals as goal

pub find_list-requires : goal.find_list-requires
find_list-requires c =
    first_still (Var c.args.x) c.args.n c.operands.ensures.same c.requires.shown c.in_ok-target.ensures.found

pub shift-requires : goal.shift-requires
shift-requires c =
    let (graph, shows) = c.requires.shown in
    indexed_shown (indexed_read c.args.x c.args.n c.operands.ensures.same shows
    (c.in_ok-target.ensures.found graph shows) (c.in_ok-from.ensures graph)
    (c.in_ok-gone.ensures c.operands.new.main graph))

pub returns : goal.returns
returns c = record {
  carried = λ graph names shows.
      let same = c.operands.ensures.same in
      let indexed = indexed_read c.args.x c.args.n same shows (c.in_ok-target.ensures.found graph shows)
      (c.in_ok-from.ensures graph) (c.in_ok-gone.ensures c.operands.new.main graph) in
      let fits : SFits w64 c.in_ok-gone.gone = search rules in
      shift_carried names indexed (to_z-of_z w64 c.in_ok-gone.gone fits) same
      (c.in_ok-shift.ensures graph indexed.list indexed.shows indexed.stands);
}

pub returns-in_err-shift : goal.returns-in_err-shift
returns-in_err-shift c = record {
  carried = λ graph names shows.
      let same = c.operands.ensures.same in
      let indexed = indexed_read c.args.x c.args.n same shows (c.in_ok-target.ensures.found graph shows)
      (c.in_ok-from.ensures graph) (c.in_ok-gone.ensures c.operands.new.main graph) in
      let fits : SFits w64 c.in_ok-gone.gone = search rules in
      let trims = c.in_err-shift.ensures graph indexed.list indexed.shows indexed.stands in
      stopped_with c.shift.new.main graph names (Shift c.args.x c.args.n) c.from_residual-in_err-shift.result
      (Fault word.Range) same c.from_residual-in_err-shift.ensures.1
      (shift_stopped names indexed (to_z-of_z w64 c.in_ok-gone.gone fits) c.in_err-shift.field-0.0 trims);
}
