use Rattle.std.proofs.Common.{◌↔◌, ℤ, IsTrue, rules, sym, subst}
use Rattle.std.proofs.lemmas.Int.{to_z-of_z}
use Rattle.std.specs.Prelude.{FitsSigned}
use Rattle.std.specs.Int.{w64}
use Rattle.heap_model.specs.Types.{Value}
use Rattle.object_graph.specs.declared.value.Rep.TheVariants as rep
use Rattle.heap_model.specs.Images.{image_heap}
use Rattle.heap_model.specs.Showing.{ShowsField, ShowsWide}
use Rattle.slow_check.proofs.ShownValues.{wide_field_shown}
use Rattle.slow_check.proofs.values.shows_wide.Goals as goal

pub returns-in-Int : goal.returns-in-Int
returns-in-Int c =
    let heap = image_heap c.args.image.now in
    let own = c.args.own in
    let v = c.in-Int.v in
    let fits : FitsSigned w64 v = search rules in
    let Told : ℤ → Type 0 = λ n. IsTrue c.shows_wide_integer.result ↔ ShowsWide heap own c.args.word n in
    let told : Told v = subst Told (to_z-of_z w64 v fits) c.shows_wide_integer.ensures in
    let Shown : Value → Type 0 = λ value. ShowsField heap own c.args.word rep.Wide value in (
      λ yes. subst Shown (sym c.in-Int.is) (ShowsField.wide v (told.0 yes)),
      λ shows. told.1 (wide_field_shown v (subst Shown c.in-Int.is shows)),
    )
