-- The value becomes the last element, or the command stops with why it cannot.
use Rattle.heap_command.specs.declared.command.Command.TheVariants.{Push}
use Rattle.heap_command.specs.declared.command.Operand.TheVariants.{Var}
use Rattle.mutator.specs.Stops.{stop_of_push}
use Rattle.mutator.proofs.ElementsSet.{putting_read, putting_shown, push_carried, push_stopped}
use Rattle.mutator.proofs.StoppedBy.{stopped_with}
use Rattle.mutator.proofs.StillShown.{first_still}
use Rattle.mutator.proofs.lists.push.Goals as goal

pub find_list-requires : goal.find_list-requires
find_list-requires c =
    first_still (Var c.args.x) c.args.v c.operands.ensures.same c.requires.shown c.in_ok-target.ensures.found

pub push-requires : goal.push-requires
push-requires c =
    let (graph, shows) = c.requires.shown in
    putting_shown (putting_read c.args.x c.args.v c.operands.ensures.same shows
    (c.in_ok-target.ensures.found graph shows) (c.in_ok-found.ensures graph))

pub returns : goal.returns
returns c = record {
  carried = λ graph names shows.
      let same = c.operands.ensures.same in
      let putting = putting_read c.args.x c.args.v same shows (c.in_ok-target.ensures.found graph shows)
      (c.in_ok-found.ensures graph) in
      push_carried names same putting
      (c.in_ok-push.ensures graph putting.list putting.value putting.shows putting.stands putting.held);
}

pub returns-in_err-push : goal.returns-in_err-push
returns-in_err-push c = record {
  carried = λ graph names shows.
      let same = c.operands.ensures.same in
      let putting = putting_read c.args.x c.args.v same shows (c.in_ok-target.ensures.found graph shows)
      (c.in_ok-found.ensures graph) in
      let stop = c.in_err-push.field-0.0 in
      let pushes = c.in_err-push.ensures graph putting.list putting.value putting.shows putting.stands putting.held in
      stopped_with c.push.new.main graph names (Push c.args.x c.args.v) c.from_residual-in_err-push.result
      (stop_of_push stop) same c.from_residual-in_err-push.ensures.1
      (push_stopped c.push.new.main names stop putting pushes);
}
