use Rattle.std.proofs.Common.{sym, subst}
use Rattle.heap_model.specs.Types.{Value}
use Rattle.heap_model.specs.Images.{image_heap}
use Rattle.heap_model.specs.Showing.{ShowsValue}
use Rattle.slow_check.proofs.ShownValues.{undefined_shown, object_shown}
use Rattle.slow_check.proofs.values.shows_value.Goals as goal

pub returns-in-Undefined : goal.returns-in-Undefined
returns-in-Undefined c =
    let Shown : Value → Type 0 = λ value. ShowsValue (image_heap c.args.image.now) c.args.word value in (
      λ yes. subst Shown (sym c.in-Undefined.is) (ShowsValue.undefined (c.is_undefined.ensures.0 yes)),
      λ shows. c.is_undefined.ensures.1 (undefined_shown (subst Shown c.in-Undefined.is shows)),
    )

pub returns-in-Ref : goal.returns-in-Ref
returns-in-Ref c =
    let Shown : Value → Type 0 = λ value. ShowsValue (image_heap c.args.image.now) c.args.word value in
    let number = c.in-Ref.number in (
      λ yes. subst Shown (sym c.in-Ref.is) (ShowsValue.object number (c.refers_to.ensures.0 yes)),
      λ shows. c.refers_to.ensures.1 (object_shown number (subst Shown c.in-Ref.is shows)),
    )
