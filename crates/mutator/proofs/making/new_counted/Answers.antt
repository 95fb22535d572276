-- The new list or weak map: its cell is put and bound, or there is no room for it.
use Rattle.std.proofs.Common.{◌≡◌, ℕ, length, refl, sym, ap, subst, arith}
use Rattle.page_space.specs.Extents.{segments_start, marks_start}
use Rattle.page_space.proofs.Starts.{roots_start_is}
use Rattle.handle_roots.specs.Roots.{root_at}
use Rattle.heap_model.specs.Types.{Header}
use Rattle.write_barrier.specs.MutatorState.{Mutator, reserved}
use Rattle.write_barrier.specs.Storing.{IsMadeYoung}
use Rattle.mutator.specs.declared.stop.Stop.TheVariants.{NoRoom}
use Rattle.mutator.proofs.BoundFirst.{BindsFirst, makes_first}
use Rattle.mutator.proofs.EmptyCounted.{IsCountedKind, counted_cell, kind_of_counted, object_of_counted, is_counted}
use Rattle.mutator.proofs.MadeCells.{counted_making, counted_made}
use Rattle.mutator.proofs.MadeHeaps.{binds_made, run_is_young}
use Rattle.mutator.proofs.MadeObjects.{making_carried, making_stopped}
use Rattle.mutator.proofs.StoppedBy.{stopped_with}
use Rattle.mutator.specs.Making.{making_of}
use Rattle.mutator.proofs.making.new_counted.Goals as goal

pub fill_counted-requires-clause-young : goal.fill_counted-requires-clause-young
fill_counted-requires-clause-young g c =
    let (graph, shows, made) = c.requires.shown in
    let taken = run_is_young 3 c.in_ok-run.ensures.reserved c.in_ok-run.ensures.run.at shows in
    subst (λ (main : Mutator). IsMadeYoung main c.in_ok-run.run'.at) (sym c.hold.ensures.held) taken

pub returns : goal.returns
returns g c =
    let header : Header = record { shape = c.shape.result; object = c.args.object } in
    let old = c.args.main.now in
    let at : ℕ = c.in_ok-run.run'.at in
    let cell = counted_cell (kind_of_counted g.C.Counted.which) header in
    let (known, shows, counted) = c.requires.shown in
    let run = c.in_ok-run.ensures.run in
    let same : c.reserve.new.self ≡ reserved old 3 = c.in_ok-run.ensures.reserved in
    let root : root_at c.reserve.new.self.seat.space c.args.x ≡ root_at old.seat.space c.args.x =
    ap (λ (main : Mutator). root_at main.seat.space c.args.x) same in
    let roots = roots_start_is old.seat.space in
    let cells = ap segments_start shows.tied.space in
    let marks = ap marks_start shows.tied.space in
    let binds : BindsFirst old c.reserve.new.self c.hold.new.self c.fill_counted.new.main c.args.x at cell = record {
      run = run.at;
      taken = same;
      held = c.hold.ensures.held;
      put = c.fill_counted.ensures.filled;
      paths = c.fill_counted.ensures.paths;
      young = c.fill_counted.ensures.young;
      cycle = c.fill_counted.ensures.cycle;
      touches = c.fill_counted.ensures.touches;
      within = omega (
        arith,
        run.words,
        run.before_marks,
        marks,
        shows.shows.whole.sized.words,
        ap (λ (main : Mutator). length main.seat.table) same,
      );
      behind = omega (arith, run.words, run.in_cells, cells, root, roots);
      pages = omega (arith, shows.bounded, root, roots, ap (λ (main : Mutator). main.recorded.bound) same);
    } in
    let makes = makes_first binds in
    let is =
    subst (λ shape. IsCountedKind (kind_of_counted g.C.Counted.which) shape (object_of_counted g.C.Counted.which))
    (sym c.shape.ensures) (is_counted g.C.Counted.which) in
    record {
      carried = λ graph names shows count.
          making_carried shows (counted_making graph g.C.Counted.which c.args.x) makes
          (counted_made c.args.x is shows c.in_ok-run.ensures.room (omega arith) count)
          c.in_ok-run.ensures.room c.hold.ensures.holds.fits c.requires.within names;
      binds = binds_made refl makes;
    }

pub returns-in_err-run-clause-carried : goal.returns-in_err-run-clause-carried
returns-in_err-run-clause-carried g c graph names shows count =
    stopped_with c.reserve.new.self graph names (making_of g.C.Counted.which c.args.x) c.from_residual.result
    (NoRoom c.in_err-run.field-0.0.need) refl c.from_residual.ensures.1
    (making_stopped names _ (counted_making graph g.C.Counted.which c.args.x) c.in_err-run.ensures.need
    (c.in_err-run.ensures.refused.0 refl) c.in_err-run.ensures.unchanged)
