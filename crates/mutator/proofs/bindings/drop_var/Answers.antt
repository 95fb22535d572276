-- The variable is unbound.
use Rattle.std.proofs.Common.{[], refl, sym, ap, subst}
use Rattle.heap_command.specs.declared.command.Command.TheVariants.{DropVar}
use Rattle.heap_command.specs.declared.command.FaultWord.TheVariants.{Unbound}
use Rattle.object_graph.specs.Meaning.{given, done}
use Rattle.handle_roots.specs.declared.held.Held.TheVariants as held
use Rattle.write_barrier.specs.MutatorState.{heap_of}
use Rattle.heap_model.specs.Showing.{ShowsHeld}
use Rattle.mutator.proofs.Rebinding.{binds_after, holds_after, binding_carried}
use Rattle.mutator.proofs.Unbinding.{unbind, get-remove_same, unbinds_anew}
use Rattle.mutator.proofs.bindings.drop_var.Goals as goal

pub returns : goal.returns
returns c = record {
  carried = λ graph names shows.
      let (value, is, stands) = c.in_ok-bound.ensures.found graph shows in
      let x = c.args.x in
      let holds = holds_after x held.Unbound c.bound.ensures.same
      (record { held = c.hold.ensures.held; heap = c.hold.ensures.heap }) in
      let shown = subst (ShowsHeld (heap_of c.args.main.now) held.Unbound) (sym (get-remove_same graph.bindings x))
      ShowsHeld.unbound in
      binding_carried (unbind graph x) names (DropVar x) x held.Unbound shows
      (ap (λ found. given Unbound found (λ _. done (unbind graph x) [])) is) refl
      tt (unbinds_anew graph x) c.requires.within tt shown holds (λ rooms. (refl, λ number. refl));
  binds = binds_after c.args.x held.Unbound c.bound.ensures.same c.hold.ensures.held;
}
