use Rattle.std.proofs.Common.{◌≡◌, ◌↔◌, ℤ, IsTrue, rules, sym, ◌∙◌, subst}
use Rattle.std.proofs.lemmas.Int.{to_z-of_z}
use Rattle.std.specs.Prelude.{FitsSigned}
use Rattle.std.specs.Int.{w64}
use Rattle.tagged_word.specs.Words.{small}
use Rattle.heap_model.specs.Images.{image_heap}
use Rattle.heap_model.specs.Slots.{RefersToBox}
use Rattle.heap_model.specs.Showing.{ShowsValue}
use Rattle.slow_check.specs.ShownSlots.{IsSmallWordOf}
use Rattle.slow_check.proofs.ShownValues.{small_shown, boxed_shown}
use Rattle.slow_check.proofs.values.shows_integer.Goals as goal

pub returns-then-is_small : goal.returns-then-is_small
returns-then-is_small c =
    let v = c.args.v in
    let fits : FitsSigned w64 v = search rules in
    let again = to_z-of_z w64 v fits in
    let Told : ℤ → Type 0 = λ n. IsTrue c.is_small_word.result ↔ IsSmallWordOf c.args.word n in
    let told : Told v = subst Told again c.is_small_word.ensures in
    let is = subst (λ n. c.is_small.result ≡ small n) again c.is_small.ensures in (
      λ yes. ShowsValue.small_integer v (told.0 yes).0 (told.0 yes).1,
      λ shows. told.1 (small_shown v (sym is ∙ c.if-is_small.true) shows),
    )

pub returns-else-is_small : goal.returns-else-is_small
returns-else-is_small c =
    let heap = image_heap c.args.image.now in
    let v = c.args.v in
    let fits : FitsSigned w64 v = search rules in
    let again = to_z-of_z w64 v fits in
    let Told : ℤ → Type 0 = λ n. IsTrue c.refers_to_box.result ↔ RefersToBox heap c.args.word n in
    let told : Told v = subst Told again c.refers_to_box.ensures in
    let is = subst (λ n. c.is_small.result ≡ small n) again c.is_small.ensures in
    let wide = sym is ∙ c.if-is_small.false in (
      λ yes. ShowsValue.boxed v wide (told.0 yes),
      λ shows. told.1 (boxed_shown v wide shows),
    )
