use Rattle.std.proofs.Common.{◌↔◌, ℤ, IsTrue, rules, sym, subst}
use Rattle.std.proofs.lemmas.Int.{to_z-of_z}
use Rattle.std.specs.Prelude.{FitsSigned}
use Rattle.std.specs.Int.{w64}
use Rattle.heap_model.specs.Types.{Value}
use Rattle.object_graph.specs.declared.value.Rep.TheVariants as rep
use Rattle.heap_model.specs.Showing.{ShowsField}
use Rattle.slow_check.specs.ShownSlots.{IsSmallWordOf}
use Rattle.slow_check.proofs.ShownValues.{small_field_shown}
use Rattle.slow_check.proofs.values.shows_small.Goals as goal

pub returns-in-Int : goal.returns-in-Int
returns-in-Int c heap own =
    let v = c.in-Int.v in
    let fits : FitsSigned w64 v = search rules in
    let Told : ℤ → Type 0 = λ n. IsTrue c.is_small_word.result ↔ IsSmallWordOf c.args.word n in
    let told : Told v = subst Told (to_z-of_z w64 v fits) c.is_small_word.ensures in
    let Shown : Value → Type 0 = λ value. ShowsField heap own c.args.word rep.Small value in (
      λ yes. subst Shown (sym c.in-Int.is) (ShowsField.small_integer v (told.0 yes).0 (told.0 yes).1),
      λ shows. told.1 (small_field_shown v (subst Shown c.in-Int.is shows)),
    )
