use Rattle.std.proofs.Common.{Option, None, sym, subst}
use Rattle.heap_model.specs.Types.{Value, Held}
use Rattle.heap_model.specs.Images.{image_heap}
use Rattle.heap_model.specs.Showing.{ShowsHeld}
use Rattle.slow_check.proofs.HeldValues.{unbound_held}
use Rattle.slow_check.proofs.bindings.shows_held.Goals as goal

pub returns-in-None : goal.returns-in-None
returns-in-None c =
    let heap = image_heap c.args.image.now in
    let Shown : Option Value → Type 0 = λ value. ShowsHeld heap c.args.held value in
    let Holds : Held → Type 0 = λ one. ShowsHeld heap one None in (
      λ yes. subst Shown (sym c.in-None.is) (subst Holds (sym (c.holds_nothing.ensures.0 yes)) ShowsHeld.unbound),
      λ shows. c.holds_nothing.ensures.1 (unbound_held c.args.held (subst Shown c.in-None.is shows)),
    )
