-- The variable is bound to the value of the entry, or to `undefined`.
use Rattle.std.proofs.Common.{refl}
use Rattle.heap_command.specs.declared.command.Operand.TheVariants.{Var}
use Rattle.mutator.proofs.EntriesSet.{entering_read, entering_shown}
use Rattle.mutator.proofs.Rebinding.{binds_after, value_carried}
use Rattle.mutator.proofs.StillShown.{first_still}
use Rattle.mutator.proofs.WeakMeanings.{wget_done}
use Rattle.mutator.proofs.weak_maps.wget.Goals as goal

pub find_weak_map-requires : goal.find_weak_map-requires
find_weak_map-requires c =
    first_still (Var c.args.m) c.args.k c.operands.ensures.same c.requires.shown c.in_ok-target.ensures.found

pub get-value-requires : goal.get-value-requires
get-value-requires c =
    let (graph, shows) = c.requires.shown in
    record {
      shown = entering_shown (entering_read c.args.m c.args.k c.operands.ensures.same shows
          (c.in_ok-target.ensures.found graph shows) (c.in_ok-from.ensures graph)
          (c.in_ok-which.ensures c.operands.new.main graph));
    }

pub returns : goal.returns
returns c = record {
  carried = λ graph names shows.
      let same = c.operands.ensures.same in
      let entering = entering_read c.args.m c.args.k same shows (c.in_ok-target.ensures.found graph shows)
      (c.in_ok-from.ensures graph) (c.in_ok-which.ensures c.operands.new.main graph) in
      value_carried names c.args.y c.get-value.result same entering.shows
      (wget_done names c.args.k entering.known entering.named c.args.y) refl tt c.requires.within.0
      c.hold.ensures.holds.fits
      (c.get-value.ensures.entry graph entering.weak entering.number entering.shows entering.stands entering.key_stands)
      (record { held = c.hold.ensures.held; heap = c.hold.ensures.heap }) (λ rooms. (refl, λ number. refl));
  binds = binds_after c.args.y c.get-value.result c.operands.ensures.same c.hold.ensures.held;
}
