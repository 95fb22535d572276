use Rattle.std.proofs.Common.{sym, ◌∙◌, subst}
use Rattle.std.proofs.lemmas.Bool.{false≢true}
use Rattle.heap_model.specs.Types.{Cell}
use Rattle.heap_model.specs.Images.{image_heap}
use Rattle.heap_model.specs.Heaps.{words_of_cell}
use Rattle.heap_model.proofs.CellsApart.{one_at}
use Rattle.slow_check.specs.Places.{IsOf}
use Rattle.slow_check.proofs.places.is_place.Goals as goal

-- the cell at the address is the only one there
pub returns-in-Some : goal.returns-in-Some
returns-in-Some c =
    let cell = c.in-Some.cell in
    let found = c.in-Some.ensures in
    let Is : Cell → Type 0 = λ one. IsOf one c.args.number in (
      λ yes.
          let is = c.is_of.ensures.0 yes in record {
            cell = cell;
            words = words_of_cell (image_heap c.args.image.now) cell;
            has = found.1;
            stands = found.0;
            object = is.object;
            carries = is.carries;
          },
      λ place. c.is_of.ensures.1
          (subst Is (one_at place.has found.1 (place.stands ∙ sym found.0))
          record { object = place.object; carries = place.carries }),
    )

pub returns-in-None : goal.returns-in-None
returns-in-None c = (
  λ wrong. absurd (false≢true wrong),
  λ place. absurd (c.in-None.ensures place.cell place.words place.has place.stands),
)
