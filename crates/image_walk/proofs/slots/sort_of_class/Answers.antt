use Rattle.std.proofs.Common.{sym, subst}
use Rattle.heap_model.specs.Types.{Class}
use Rattle.tagged_word.specs.Words.{bits_of}
use Rattle.heap_model.specs.Images.{image_heap}
use Rattle.image_walk.specs.Sorts.{IsSort}
use Rattle.image_walk.proofs.slots.sort_of_class.Goals as goal

pub returns-in-Odd : goal.returns-in-Odd
returns-in-Odd c =
    let heap = image_heap c.args.image.now in
    let Sorted : Class → Type 0 = λ class. IsSort heap (bits_of class) c.sort_of_odd.result in
    subst Sorted (sym c.in-Odd.is) (c.sort_of_odd.ensures heap)
