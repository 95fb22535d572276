-- The field is taken out, or there may not be as many paths.
use Rattle.heap_command.specs.declared.command.Command.TheVariants.{Del}
use Rattle.heap_command.specs.declared.command.FaultWord.TheVariants.{ShapesFull}
use Rattle.mutator.specs.declared.stop.Stop.TheVariants.{Fault}
use Rattle.mutator.proofs.FieldsTaken.{taking_known, del_carried, del_stopped}
use Rattle.mutator.proofs.StoppedBy.{stopped_with}
use Rattle.mutator.proofs.StillShown.{shows_still, stands_still, value_still}
use Rattle.mutator.proofs.fields.del.Goals as goal

pub plain-requires : goal.plain-requires
plain-requires c =
    let (graph, shows) = c.requires.shown in
    let (value, is, stands) = c.in_ok-held.ensures.found graph shows in
    value_still graph value c.in_ok-held.held c.target.ensures.same shows stands

pub delete-requires : goal.delete-requires
delete-requires c =
    let (graph, shows) = c.requires.shown in
    let (value, is, stands) = c.in_ok-held.ensures.found graph shows in
    let shown = shows_still c.target.ensures.same shows in
    let found = c.in_ok-found.ensures graph value shown (stands_still c.target.ensures.same stands) in
    record { graph = graph; plain = found.plain; shows = shown; is = found.stands }

pub returns : goal.returns
returns c = record {
  carried = λ graph names shows.
      let (target, is, stands) = c.in_ok-held.ensures.found graph shows in
      let same = c.target.ensures.same in
      let shown = shows_still same shows in
      let found = c.in_ok-found.ensures graph target shown (stands_still same stands) in
      let taking = taking_known c.args.x target shown is found in
      del_carried names c.args.f same taking
      (c.in_ok-delete.ensures graph taking.plain taking.shows taking.stands);
}

pub returns-in_err-delete : goal.returns-in_err-delete
returns-in_err-delete c = record {
  carried = λ graph names shows.
      let (target, is, stands) = c.in_ok-held.ensures.found graph shows in
      let same = c.target.ensures.same in
      let shown = shows_still same shows in
      let found = c.in_ok-found.ensures graph target shown (stands_still same stands) in
      let taking = taking_known c.args.x target shown is found in
      let lacks = c.in_err-delete.ensures graph taking.plain taking.shows taking.stands in
      stopped_with c.delete.new.main graph names (Del c.args.x c.args.f) c.from_residual-in_err-delete.result
      (Fault ShapesFull) same c.from_residual-in_err-delete.ensures.1
      (del_stopped names c.args.f taking lacks.0.refused lacks.1);
}
