use Rattle.std.proofs.Common.{◌+◌, sym, ◌∙◌, arith}
use Rattle.std.proofs.lemmas.Bool.{false≢true}
use Rattle.heap_model.specs.Images.{image_heap}
use Rattle.heap_model.specs.Heaps.{words_of_cell}
use Rattle.image_walk.proofs.SpanWords.{cell_ends_few, address_few, words_count_few}
use Rattle.slow_check.specs.Moves.{to_of}
use Rattle.slow_check.proofs.ComersFound.{none_comes, one_comes}
use Rattle.page_space.specs.Extents.{words_most}
use Rattle.page_space.proofs.Limits.{words_count_most}
use Rattle.slow_check.proofs.moved_cells.comes_to.Goals as goal

pub overflow_add-cell : goal.overflow_add-cell
overflow_add-cell c =
    omega (
      arith,
      cell_ends_few (image_heap c.args.old.now) c.args.cell words_most c.requires.sized
          c.requires.stands (words_count_most c.args.old.now.regions c.sizes_fit.ensures),
    )

-- another cell comes to the address
pub returns-then-is_some : goal.returns-then-is_some
returns-then-is_some c = (
  λ wrong. absurd (false≢true wrong),
  λ comes. absurd (one_comes (image_heap c.args.old.now) (to_of c.args.moves.now) c.args.now
      (c.args.cell.at + c.args.cell.size) c.comer_from.result (sym c.is_some.ensures ∙ c.if-is_some.true)
      c.comer_from.ensures comes.alone),
)

pub returns : goal.returns
returns c =
    let old = image_heap c.args.old.now in
    let below = address_few old c.args.cell (words_of_cell old c.args.cell) c.requires.sized c.requires.stands
    (words_count_few c.args.old.now.regions c.sizes_fit.ensures) in (
      λ stands. record {
        fits = (λ few. omega arith, λ few. below);
        stands = c.stands_moved.ensures.0 stands;
        alone = none_comes old (to_of c.args.moves.now) c.args.now (c.args.cell.at + c.args.cell.size)
            c.comer_from.result (sym c.is_some.ensures ∙ c.if-is_some.false) c.comer_from.ensures;
      },
      λ comes. c.stands_moved.ensures.1 comes.stands,
    )
