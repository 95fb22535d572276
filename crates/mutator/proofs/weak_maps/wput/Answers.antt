-- The entry of the key has the value, or the command stops with why it cannot.
use Rattle.std.proofs.Common.{Ok, ◌∙◌, ap}
use Rattle.std.specs.Prelude.{option_and_then}
use Rattle.heap_command.specs.declared.command.Command.TheVariants.{WPut}
use Rattle.heap_command.specs.declared.command.Operand.TheVariants.{Var}
use Rattle.object_graph.specs.Graphs.{object_in, weak_at}
use Rattle.mutator.specs.Stops.{stop_of_table}
use Rattle.mutator.proofs.EntriesSet.{entering_read, putting_entry_shown, wput_carried, wput_stopped}
use Rattle.mutator.proofs.GivenValues.{given_read}
use Rattle.mutator.proofs.MapsNotFull.{without_map, without_key, without_value, without_operand, without_pairs}
use Rattle.mutator.proofs.MapsNotFull.{asks_for_nothing, asks_where_stopped, asks_still}
use Rattle.mutator.proofs.StoppedBy.{stopped_with}
use Rattle.mutator.proofs.StillShown.{some_still, shows_still, stands_still, first_still}
use Rattle.mutator.proofs.weak_maps.wput.Goals as goal

pub operand-requires-clause-shown : goal.operand-requires-clause-shown
operand-requires-clause-shown c = some_still c.operands.ensures.same c.requires.shown

pub find_weak_map-requires : goal.find_weak_map-requires
find_weak_map-requires c =
    first_still (Var c.args.m) c.args.k (c.operand.ensures.same ∙ c.operands.ensures.same) c.requires.shown
    c.in_ok-target.ensures.found

pub put-requires : goal.put-requires
put-requires c =
    let (graph, shows) = c.requires.shown in
    let read = c.operands.ensures.same in
    let entering = entering_read c.args.m c.args.k (c.operand.ensures.same ∙ read) shows
    (c.in_ok-target.ensures.found graph shows) (c.in_ok-found.ensures graph)
    (c.in_ok-at.ensures c.operand.new.main graph) in
    record {
      shown = putting_entry_shown entering (given_read c.args.v c.operand.ensures.same
          (c.in_ok-value.ensures.found graph (shows_still read shows)));
    }

pub returns : goal.returns
returns c = record {
  carried = λ graph names shows.
      let read = c.operands.ensures.same in
      let same = c.operand.ensures.same ∙ read in
      let entering = entering_read c.args.m c.args.k same shows (c.in_ok-target.ensures.found graph shows)
      (c.in_ok-found.ensures graph) (c.in_ok-at.ensures c.operand.new.main graph) in
      let given = given_read c.args.v c.operand.ensures.same
      (c.in_ok-value.ensures.found graph (shows_still read shows)) in
      let puts = c.in_ok-put.ensures.entry graph entering.weak entering.number given.value entering.shows
      entering.stands entering.key_stands given.held in
      wput_carried names same entering given puts;
  asks = λ graph shows.
      let read = c.operands.ensures.same in
      let same = c.operand.ensures.same ∙ read in
      let entering = entering_read c.args.m c.args.k same shows (c.in_ok-target.ensures.found graph shows)
      (c.in_ok-found.ensures graph) (c.in_ok-at.ensures c.operand.new.main graph) in
      let given = given_read c.args.v c.operand.ensures.same
      (c.in_ok-value.ensures.found graph (shows_still read shows)) in
      let puts = c.in_ok-put.ensures.entry graph entering.weak entering.number given.value entering.shows
      entering.stands entering.key_stands given.held in
      asks_still _ graph (WPut c.args.m c.args.k c.args.v) (Ok tt) same
      (without_pairs c.args.m c.args.k c.args.v entering.shows entering puts.few);
}

pub returns-in_err-target-clause-asks : goal.returns-in_err-target-clause-asks
returns-in_err-target-clause-asks c graph shows =
    asks_for_nothing c.args.main.now graph c.from_residual.result
    (without_operand c.args.m c.args.k c.args.v shows (c.in_err-target.ensures.found graph shows).0)

pub returns-in_err-value-clause-asks : goal.returns-in_err-value-clause-asks
returns-in_err-value-clause-asks c graph shows =
    asks_for_nothing c.args.main.now graph c.from_residual-in_err-value.result
    (without_value c.args.m c.args.k c.args.v shows
    (c.in_err-value.ensures.found graph (shows_still c.operands.ensures.same shows)).0)

pub returns-in_err-found-clause-asks : goal.returns-in_err-found-clause-asks
returns-in_err-found-clause-asks c graph shows =
    let same = c.operand.ensures.same ∙ c.operands.ensures.same in
    let both = c.in_ok-target.ensures.found graph shows in
    let none = (c.in_err-found.ensures graph both.first (shows_still same shows)
    (stands_still same both.stands_first)).0 in
    asks_for_nothing c.args.main.now graph c.from_residual-in_err-found.result
    (without_map c.args.m c.args.k c.args.v shows
    (ap (option_and_then (weak_at graph.objects)) both.is_first ∙ none))

pub returns-in_err-at-clause-asks : goal.returns-in_err-at-clause-asks
returns-in_err-at-clause-asks c graph shows =
    let both = c.in_ok-target.ensures.found graph shows in
    let none = (c.in_err-at.ensures c.args.main.now graph both.second both.stands_second).0 in
    asks_for_nothing c.args.main.now graph c.from_residual-in_err-at.result
    (without_key c.args.m c.args.k c.args.v shows (ap (option_and_then object_in) both.is_second ∙ none))

pub returns-in_err-put : goal.returns-in_err-put
returns-in_err-put c = record {
  carried = λ graph names shows.
      let read = c.operands.ensures.same in
      let same = c.operand.ensures.same ∙ read in
      let entering = entering_read c.args.m c.args.k same shows (c.in_ok-target.ensures.found graph shows)
      (c.in_ok-found.ensures graph) (c.in_ok-at.ensures c.operand.new.main graph) in
      let given = given_read c.args.v c.operand.ensures.same
      (c.in_ok-value.ensures.found graph (shows_still read shows)) in
      let stop = c.in_err-put.field-0.0 in
      let puts = c.in_err-put.ensures.entry graph entering.weak entering.number given.value entering.shows
      entering.stands entering.key_stands given.held in
      stopped_with c.put.new.main graph names (WPut c.args.m c.args.k c.args.v) c.from_residual-in_err-put.result
      (stop_of_table stop) same c.from_residual-in_err-put.ensures.1
      (wput_stopped c.put.new.main names stop entering given puts);
  asks = λ graph shows.
      let read = c.operands.ensures.same in
      let same = c.operand.ensures.same ∙ read in
      let entering = entering_read c.args.m c.args.k same shows (c.in_ok-target.ensures.found graph shows)
      (c.in_ok-found.ensures graph) (c.in_ok-at.ensures c.operand.new.main graph) in
      let given = given_read c.args.v c.operand.ensures.same
      (c.in_ok-value.ensures.found graph (shows_still read shows)) in
      let stop = c.in_err-put.field-0.0 in
      let puts = c.in_err-put.ensures.entry graph entering.weak entering.number given.value entering.shows
      entering.stands entering.key_stands given.held in
      asks_still _ graph (WPut c.args.m c.args.k c.args.v) c.from_residual-in_err-put.result same
      (asks_where_stopped c.operand.new.main graph c.args.v c.put.new.main given.value
      c.from_residual-in_err-put.result stop entering puts c.from_residual-in_err-put.ensures.1);
}
