use Rattle.std.proofs.Common.{Some, sym, subst}
use Rattle.object_graph.specs.declared.value.Value.TheVariants.{Ref}
use Rattle.heap_model.specs.Types.{Held}
use Rattle.heap_model.specs.Images.{image_heap}
use Rattle.heap_model.specs.Showing.{ShowsHeld}
use Rattle.slow_check.proofs.HeldValues.{object_held}
use Rattle.slow_check.proofs.bindings.holds_object.Goals as goal

pub returns-in-Ref : goal.returns-in-Ref
returns-in-Ref c =
    let number = c.args.number in
    let at = c.in-Ref.at in
    let Shown : Held → Type 0 = λ one. ShowsHeld (image_heap c.args.image.now) one (Some (Ref number)) in (
      λ yes. subst Shown (sym c.in-Ref.is) (ShowsHeld.object at number (c.is_place.ensures.0 yes)),
      λ shows. c.is_place.ensures.1 (object_held at number (subst Shown c.in-Ref.is shows)),
    )
