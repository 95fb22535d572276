use Rattle.std.proofs.Common.{subst}
use Rattle.image_walk.specs.declared.slots.Referent.{Referent}
use Rattle.heap_model.specs.Images.{image_heap}
use Rattle.image_walk.specs.Sorts.{IsSort}
use Rattle.image_walk.proofs.WordSorts.{object_sort}
use Rattle.slow_check.proofs.values.refers_to.Goals as goal

pub returns : goal.returns
returns c =
    let heap = image_heap c.args.image.now in
    let Is : Referent → Type 0 = λ of. IsSort heap c.args.word of in (
      λ yes. subst Is (c.is_object_of.ensures.0 yes) c.sort_of.ensures,
      λ to. c.is_object_of.ensures.1 (object_sort heap c.args.word c.args.number c.sort_of.result to c.sort_of.ensures),
    )
