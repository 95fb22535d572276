use Rattle.std.proofs.Common.{sym, ◌∙◌, ap, refl}
use Rattle.std.proofs.lemmas.Bool.{false≢true}
use Rattle.heap_model.specs.Types.{Cell}
use Rattle.heap_model.specs.Images.{image_heap}
use Rattle.heap_model.specs.Heaps.{words_of_cell}
use Rattle.heap_model.specs.Slots.{is_object_kind}
use Rattle.heap_model.proofs.CellsApart.{one_at}
use Rattle.heap_check.proofs.roots.is_object_at.Goals as goal

-- the cell at the address is the only one there
pub returns-in-Some : goal.returns-in-Some
returns-in-Some c =
    let cell = c.in-Some.cell in
    let found = c.in-Some.ensures in (
      λ object. (
        cell.header.object,
        record {
          cell = cell;
          words = words_of_cell (image_heap c.args.image.now) cell;
          has = found.1;
          stands = found.0;
          object = sym c.is_object.ensures ∙ object;
          carries = refl;
        },
      ),
      λ place. c.is_object.ensures
          ∙ ap (λ (one : Cell). is_object_kind one.layout.kind)
          (one_at found.1 place.1.has (found.0 ∙ sym place.1.stands))
          ∙ place.1.object,
    )

pub returns-in-None : goal.returns-in-None
returns-in-None c = (
  λ wrong. absurd (false≢true wrong),
  λ place. absurd (c.in-None.ensures place.1.cell place.1.words place.1.has place.1.stands),
)
