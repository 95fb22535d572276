use Rattle.std.proofs.Common.{sym, ◌∙◌}
use Rattle.std.proofs.lemmas.Bool.{false≢true}
use Rattle.heap_model.specs.Images.{image_heap}
use Rattle.slow_check.proofs.RecordedSlots.{remembered_if, remembered_of_pages}
use Rattle.slow_check.proofs.remembered.are_remembered.Goals as goal

pub returns-then-are_of_pages : goal.returns-then-are_of_pages
returns-then-are_of_pages c =
    let of_pages = c.are_of_pages.ensures.0 c.if-are_of_pages.true in
    let same = remembered_if (image_heap c.args.image.now) c.args.slots.now of_pages in (
      λ yes. same.0 (c.are_recorded.ensures.0 yes),
      λ are. c.are_recorded.ensures.1 (same.1 are),
    )

-- one of them is no address of a page
pub returns-else-are_of_pages : goal.returns-else-are_of_pages
returns-else-are_of_pages c = (
  λ wrong. absurd (false≢true wrong),
  λ are. absurd (false≢true (sym c.if-are_of_pages.false ∙ c.are_of_pages.ensures.1
      (remembered_of_pages (image_heap c.args.image.now) c.args.slots.now are))),
)
