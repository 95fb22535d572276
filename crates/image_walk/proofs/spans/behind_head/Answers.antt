use Rattle.std.proofs.Common.{arith}
use Rattle.heap_model.specs.Images.{image_heap}
use Rattle.image_walk.proofs.SpanWords.{cell_ends, cell_ends_few, behind_first}
use Rattle.page_space.specs.Extents.{words_most}
use Rattle.page_space.proofs.Limits.{words_count_most}
use Rattle.image_walk.proofs.spans.behind_head.Goals as goal

pub overflow_add-result : goal.overflow_add-result
overflow_add-result c =
    let heap = image_heap c.args.image.now in
    omega (
      arith,
      c.requires.long,
      cell_ends_few heap c.args.cell words_most c.requires.sized c.requires.stands
          (words_count_most c.args.image.now.regions c.sizes_fit.ensures),
    )

pub overflow_add-result-2 : goal.overflow_add-result-2
overflow_add-result-2 c =
    let heap = image_heap c.args.image.now in
    omega (
      arith,
      cell_ends_few heap c.args.cell words_most c.requires.sized c.requires.stands
          (words_count_most c.args.image.now.regions c.sizes_fit.ensures),
    )

pub returns-clause-slots : goal.returns-clause-slots
returns-clause-slots c = behind_first (image_heap c.args.image.now) c.args.cell c.args.head c.requires.long

pub returns-clause-is : goal.returns-clause-is
returns-clause-is c = record {
  ascends = omega (arith, c.requires.long);
  within = cell_ends (image_heap c.args.image.now) c.args.cell c.requires.stands;
}
