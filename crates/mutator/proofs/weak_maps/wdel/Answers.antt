-- The entry goes.
use Rattle.heap_command.specs.declared.command.Operand.TheVariants.{Var}
use Rattle.mutator.proofs.EntriesSet.{entering_read, entering_shown, wdel_carried}
use Rattle.mutator.proofs.StillShown.{first_still}
use Rattle.mutator.proofs.weak_maps.wdel.Goals as goal

pub find_weak_map-requires : goal.find_weak_map-requires
find_weak_map-requires c =
    first_still (Var c.args.m) c.args.k c.operands.ensures.same c.requires.shown c.in_ok-target.ensures.found

pub delete-requires : goal.delete-requires
delete-requires c =
    let (graph, shows) = c.requires.shown in
    record {
      shown = entering_shown (entering_read c.args.m c.args.k c.operands.ensures.same shows
          (c.in_ok-target.ensures.found graph shows) (c.in_ok-found.ensures graph)
          (c.in_ok-gone.ensures c.operands.new.main graph));
    }

pub returns : goal.returns
returns c = record {
  carried = λ graph names shows.
      let same = c.operands.ensures.same in
      let entering = entering_read c.args.m c.args.k same shows (c.in_ok-target.ensures.found graph shows)
      (c.in_ok-found.ensures graph) (c.in_ok-gone.ensures c.operands.new.main graph) in
      wdel_carried names same entering
      (c.delete.ensures.entry graph entering.weak entering.number entering.shows entering.stands entering.key_stands);
}
