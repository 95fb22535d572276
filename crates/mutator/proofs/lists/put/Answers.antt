-- The element becomes the value, or the command stops with why it cannot.
use Rattle.std.proofs.Common.{◌∙◌, w64, SFits, rules}
use Rattle.std.proofs.lemmas.Int.{to_z-of_z}
use Rattle.heap_command.specs.declared.command.Command.TheVariants.{Put}
use Rattle.heap_command.specs.declared.command.Operand.TheVariants.{Var}
use Rattle.mutator.specs.Stops.{stop_of_put}
use Rattle.mutator.proofs.ElementsSet.{indexed_setting, put_carried, put_stopped}
use Rattle.mutator.proofs.GivenValues.{given_read}
use Rattle.mutator.proofs.IndexedLists.{indexed_read}
use Rattle.mutator.proofs.StoppedBy.{stopped_with}
use Rattle.mutator.proofs.StillShown.{some_still, shows_still, first_still}
use Rattle.mutator.proofs.lists.put.Goals as goal

pub operand-requires-clause-shown : goal.operand-requires-clause-shown
operand-requires-clause-shown c = some_still c.operands.ensures.same c.requires.shown

pub find_list-requires : goal.find_list-requires
find_list-requires c =
    first_still (Var c.args.x) c.args.i (c.operand.ensures.same ∙ c.operands.ensures.same) c.requires.shown
    c.in_ok-target.ensures.found

pub put-requires : goal.put-requires
put-requires c =
    let (graph, shows) = c.requires.shown in
    let read = c.operands.ensures.same in
    let indexed = indexed_read c.args.x c.args.i (c.operand.ensures.same ∙ read) shows
    (c.in_ok-target.ensures.found graph shows) (c.in_ok-found.ensures graph)
    (c.in_ok-place.ensures c.operand.new.main graph) in
    indexed_setting indexed (given_read c.args.v c.operand.ensures.same
    (c.in_ok-value.ensures.found graph (shows_still read shows)))

pub returns : goal.returns
returns c = record {
  carried = λ graph names shows.
      let read = c.operands.ensures.same in
      let same = c.operand.ensures.same ∙ read in
      let indexed = indexed_read c.args.x c.args.i same shows (c.in_ok-target.ensures.found graph shows)
      (c.in_ok-found.ensures graph) (c.in_ok-place.ensures c.operand.new.main graph) in
      let given = given_read c.args.v c.operand.ensures.same
      (c.in_ok-value.ensures.found graph (shows_still read shows)) in
      let fits : SFits w64 c.in_ok-place.place = search rules in
      put_carried names indexed (to_z-of_z w64 c.in_ok-place.place fits) same given
      (c.in_ok-put.ensures graph indexed.list given.value indexed.shows indexed.stands given.held);
}

pub returns-in_err-put : goal.returns-in_err-put
returns-in_err-put c = record {
  carried = λ graph names shows.
      let read = c.operands.ensures.same in
      let same = c.operand.ensures.same ∙ read in
      let indexed = indexed_read c.args.x c.args.i same shows (c.in_ok-target.ensures.found graph shows)
      (c.in_ok-found.ensures graph) (c.in_ok-place.ensures c.operand.new.main graph) in
      let given = given_read c.args.v c.operand.ensures.same
      (c.in_ok-value.ensures.found graph (shows_still read shows)) in
      let fits : SFits w64 c.in_ok-place.place = search rules in
      let stop = c.in_err-put.field-0.0 in
      let puts = c.in_err-put.ensures graph indexed.list given.value indexed.shows indexed.stands given.held in
      stopped_with c.put.new.main graph names (Put c.args.x c.args.i c.args.v) c.from_residual-in_err-put.result
      (stop_of_put stop) same c.from_residual-in_err-put.ensures.1
      (put_stopped names indexed (to_z-of_z w64 c.in_ok-place.place fits) c.put.new.main stop given
      puts);
}
