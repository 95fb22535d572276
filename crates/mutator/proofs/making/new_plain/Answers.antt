-- The new object: its cell is put and bound, or there is no room for it.
use Rattle.std.proofs.Common.{◌+◌, [], refl, subst, arith}
use Rattle.heap_model.specs.Types.{Header}
use Rattle.tagged_word.specs.Cells.{plain_head}
use Rattle.heap_command.specs.declared.command.Command.TheVariants.{New}
use Rattle.shape_tree.specs.Shapes.{IsShapeOf}
use Rattle.mutator.specs.declared.stop.Stop.TheVariants.{NoRoom}
use Rattle.mutator.proofs.EmptyCells.{length-empty_plain, plain_cell}
use Rattle.mutator.proofs.MadeCells.{plain_making, plain_made}
use Rattle.mutator.proofs.MadeHeaps.{MakesObject, binds_made, run_is_young}
use Rattle.mutator.proofs.MadeObjects.{making_carried, making_stopped}
use Rattle.mutator.proofs.StoppedBy.{stopped_with}
use Rattle.mutator.proofs.making.new_plain.Goals as goal

pub fill_plain-requires-clause-young : goal.fill_plain-requires-clause-young
fill_plain-requires-clause-young c =
    let (graph, shows, made) = c.requires.shown in
    run_is_young (plain_head + c.args.cap) c.in_ok-run.ensures.reserved c.in_ok-run.ensures.run.at shows

pub returns : goal.returns
returns c =
    let header : Header = record { shape = c.root-shape.result; object = c.args.object } in
    let makes : MakesObject c.args.main.now c.reserve.new.self c.fill_plain.new.main c.hold.new.self c.args.x
    c.in_ok-run.run'.at (plain_cell header c.args.cap) = record {
      run = c.in_ok-run.ensures.run.at;
      taken = c.in_ok-run.ensures.reserved;
      put = c.fill_plain.ensures.filled;
      heap = c.fill_plain.ensures.heap;
      paths = c.fill_plain.ensures.paths;
      young = c.fill_plain.ensures.young;
      cycle = c.fill_plain.ensures.cycle;
      touches = c.fill_plain.ensures.touches;
      holds = record { held = c.hold.ensures.held; heap = c.hold.ensures.heap };
    } in
    record {
      carried = λ graph names shows count.
          let shaped = subst (λ paths. IsShapeOf paths (record { cap = c.args.cap; fields = [] }) c.root-shape.result)
          c.shapes.ensures c.root-shape.ensures in
          making_carried shows (plain_making graph c.args.x c.args.cap c.requires.within.1) makes
          (plain_made {header = header} c.args.x shows
          (record {
            shape = omega (arith, shaped.is_shape.below, shows.shows.whole.sized.shapes.few);
            object = omega arith;
          })
          c.requires.within.1 shaped c.in_ok-run.ensures.room count)
          c.in_ok-run.ensures.room c.hold.ensures.holds.fits c.requires.within.0 names;
      binds = binds_made (length-empty_plain header c.args.cap) makes;
    }

pub returns-in_err-run-clause-carried : goal.returns-in_err-run-clause-carried
returns-in_err-run-clause-carried c graph names shows count =
    stopped_with c.reserve.new.self graph names (New c.args.x c.args.cap) c.from_residual.result
    (NoRoom c.in_err-run.field-0.0.need) refl c.from_residual.ensures.1
    (making_stopped names _ (plain_making graph c.args.x c.args.cap c.requires.within.1) c.in_err-run.ensures.need
    (c.in_err-run.ensures.refused.0 refl) c.in_err-run.ensures.unchanged)
