use Rattle.std.proofs.Common.{◌≡◌, Some, sym, ◌∙◌}
use Rattle.std.proofs.lemmas.Bool.{false≢true}
use Rattle.std.proofs.lemmas.Option.{none-some}
use Rattle.heap_model.specs.Images.{image_heap}
use Rattle.image_walk.proofs.SlotKinds.{number_from, number_to}
use Rattle.slow_check.proofs.KeysOnce.{known_from, known_to, known_refers}
use Rattle.slow_check.proofs.entries.is_known.Goals as goal

pub returns-in-Some : goal.returns-in-Some
returns-in-Some c =
    let heap = image_heap c.args.image.now in
    let number = c.in-Some.number in
    let is : _ ≡ Some number = sym c.number.ensures ∙ c.in-Some.is in
    let refers = number_from heap c.args.pair.key number c.sort_of.result c.sort_of.ensures is in (
      λ yes. known_from c.args.marks.now c.args.entries.now number refers (c.is_known_number.ensures.0 yes),
      λ known. c.is_known_number.ensures.1 (known_to c.args.marks.now c.args.entries.now number refers known),
    )

pub returns-in-None : goal.returns-in-None
returns-in-None c =
    let heap = image_heap c.args.image.now in (
      λ wrong. absurd (false≢true wrong),
      λ known.
          let to = known_refers known in
          absurd (none-some to.0 (sym c.in-None.is ∙ c.number.ensures
          ∙ number_to heap c.args.pair.key to.0 c.sort_of.result c.sort_of.ensures to.1)),
    )
