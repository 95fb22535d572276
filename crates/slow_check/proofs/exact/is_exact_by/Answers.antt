use Rattle.std.proofs.Common.{List, Bool, sym, ◌∙◌, subst}
use Rattle.std.proofs.lemmas.Bool.{false≢true}
use Rattle.heap_model.specs.Images.{image_heap}
use Rattle.slow_check.specs.NeededCells.{AreNeeded}
use Rattle.slow_check.proofs.ExactCells.{exact_from_cells, cells_of_exact}
use Rattle.slow_check.proofs.exact.is_exact_by.Goals as goal

pub returns-then-shows_by : goal.returns-then-shows_by
returns-then-shows_by c =
    let heap = image_heap c.args.image.now in
    let graph = c.args.ideal.now.graph in
    let By : List Bool → Type 0 = λ marks. AreNeeded heap marks in (
      λ yes. exact_from_cells heap graph (c.shows_by.ensures.0 c.if-shows_by.true)
          (subst By c.requires.marked (c.are_needed.ensures.0 yes)),
      λ exact. c.are_needed.ensures.1 (subst By (sym c.requires.marked) (cells_of_exact heap graph exact)),
    )

-- the heap doesn't show the graph
pub returns-else-shows_by : goal.returns-else-shows_by
returns-else-shows_by c = (
  λ wrong. absurd (false≢true wrong),
  λ exact. absurd (false≢true (sym c.if-shows_by.false ∙ c.shows_by.ensures.1 exact.keeps.shows)),
)
