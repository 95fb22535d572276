use Rattle.std.proofs.Common.{◌≡◌, ◌↔◌, ℤ, IsTrue, Some, rules, sym, subst}
use Rattle.std.proofs.lemmas.Int.{to_z-of_z}
use Rattle.std.specs.Prelude.{FitsSigned}
use Rattle.std.specs.Int.{w64}
use Rattle.heap_model.specs.Types.{Value, Held}
use Rattle.object_graph.specs.declared.value.Value.TheVariants.{Int, Undefined}
use Rattle.handle_roots.specs.declared.held.Held.TheVariants as held
use Rattle.heap_model.specs.Images.{image_heap}
use Rattle.heap_model.specs.Showing.{ShowsHeld}
use Rattle.slow_check.proofs.HeldValues.{undefined_held, integer_held}
use Rattle.slow_check.proofs.bindings.shows_bound.Goals as goal

pub returns-in-Undefined : goal.returns-in-Undefined
returns-in-Undefined c =
    let heap = image_heap c.args.image.now in
    let Shown : Value → Type 0 = λ value. ShowsHeld heap c.args.held (Some value) in
    let Holds : Held → Type 0 = λ one. ShowsHeld heap one (Some Undefined) in (
      λ yes. subst Shown (sym c.in-Undefined.is)
          (subst Holds (sym (c.holds_undefined.ensures.0 yes)) ShowsHeld.undefined),
      λ shows. c.holds_undefined.ensures.1 (undefined_held c.args.held (subst Shown c.in-Undefined.is shows)),
    )

pub returns-in-Int : goal.returns-in-Int
returns-in-Int c =
    let heap = image_heap c.args.image.now in
    let v = c.in-Int.v in
    let fits : FitsSigned w64 v = search rules in
    let Told : ℤ → Type 0 = λ n. IsTrue c.holds_integer.result ↔ (c.args.held ≡ held.Int n) in
    let told : Told v = subst Told (to_z-of_z w64 v fits) c.holds_integer.ensures in
    let Shown : Value → Type 0 = λ value. ShowsHeld heap c.args.held (Some value) in
    let Holds : Held → Type 0 = λ one. ShowsHeld heap one (Some (Int v)) in (
      λ yes. subst Shown (sym c.in-Int.is) (subst Holds (sym (told.0 yes)) (ShowsHeld.integer v)),
      λ shows. told.1 (integer_held c.args.held v (subst Shown c.in-Int.is shows)),
    )
