use Rattle.std.proofs.Common.{sym, subst}
use Rattle.heap_model.specs.Types.{Rep}
use Rattle.heap_model.specs.Images.{image_heap}
use Rattle.heap_model.specs.Showing.{ShowsField}
use Rattle.slow_check.proofs.ShownValues.{tagged_field_shown}
use Rattle.slow_check.proofs.values.shows_field.Goals as goal

pub returns-in-Tagged : goal.returns-in-Tagged
returns-in-Tagged c =
    let value = c.args.value in
    let Shown : Rep → Type 0 = λ one. ShowsField (image_heap c.args.image.now) c.args.own c.args.word one value in (
      λ yes. subst Shown (sym c.in-Tagged.is) (ShowsField.tagged value (c.shows_value.ensures.0 yes)),
      λ shows. c.shows_value.ensures.1 (tagged_field_shown value (subst Shown c.in-Tagged.is shows)),
    )
