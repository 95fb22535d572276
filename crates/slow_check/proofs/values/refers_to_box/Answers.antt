use Rattle.std.proofs.Common.{◌≡◌, ◌↔◌, ℤ, IsTrue, rules, subst}
use Rattle.std.proofs.lemmas.Int.{to_z-of_z}
use Rattle.std.specs.Prelude.{FitsSigned}
use Rattle.std.specs.Int.{w64}
use Rattle.image_walk.specs.declared.slots.Referent.{Referent}
use Rattle.image_walk.specs.declared.slots.Referent.TheVariants as sort
use Rattle.heap_model.specs.Images.{image_heap}
use Rattle.image_walk.specs.Sorts.{IsSort}
use Rattle.image_walk.proofs.WordSorts.{box_sort}
use Rattle.slow_check.proofs.values.refers_to_box.Goals as goal

pub returns : goal.returns
returns c =
    let heap = image_heap c.args.image.now in
    let fits : FitsSigned w64 c.args.v = search rules in
    let Is : Referent → Type 0 = λ of. IsSort heap c.args.word of in
    let Told : ℤ → Type 0 = λ n. IsTrue c.is_box_of.result ↔ (c.sort_of.result ≡ sort.Boxed n) in
    let told : Told c.args.v = subst Told (to_z-of_z w64 c.args.v fits) c.is_box_of.ensures in (
      λ yes. subst Is (told.0 yes) c.sort_of.ensures,
      λ to. told.1 (box_sort heap c.args.word c.args.v c.sort_of.result to c.sort_of.ensures),
    )
