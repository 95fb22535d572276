use Rattle.std.proofs.Common.{sym, ◌∙◌}
use Rattle.page_space.proofs.CellAddresses.{pages_are}
use Rattle.heap_model.specs.Images.{image_heap}
use Rattle.slow_check.proofs.ExactCells.{needed_if_marked, needed_if_packed, needed_if_named, rest_is_owned}
use Rattle.slow_check.proofs.exact.is_needed.Goals as goal

pub returns-then-is_object : goal.returns-then-is_object
returns-then-is_object c =
    let object = sym c.is_object.ensures ∙ c.if-is_object.true in (
      λ yes. needed_if_marked (image_heap c.args.image.now) c.args.marks.now c.args.cell object
          (sym c.is_marked.ensures ∙ yes),
      λ needed. c.is_marked.ensures ∙ needed.reached object,
    )

pub returns-then-is_free : goal.returns-then-is_free
returns-then-is_free c =
    let heap = image_heap c.args.image.now in
    let free = sym c.is_free.ensures ∙ c.if-is_free.true in
    let pages = pages_are heap.space c.args.cell.at in (
      λ yes. needed_if_packed heap c.args.marks.now c.args.cell free (pages.1 (c.is_page.ensures.0 yes)),
      λ needed. c.is_page.ensures.1 (pages.0 (needed.packed free)),
    )

pub returns : goal.returns
returns c =
    let cell = c.args.cell in
    let no_free = sym c.is_free.ensures ∙ c.if-is_free.false in
    let no_object = sym c.is_object.ensures ∙ c.if-is_object.false in (
      λ yes. needed_if_named (image_heap c.args.image.now) c.args.marks.now cell no_object no_free
          (c.is_named.ensures.0 yes),
      λ needed. c.is_named.ensures.1 (needed.named (rest_is_owned cell.layout.kind no_object no_free)),
    )
