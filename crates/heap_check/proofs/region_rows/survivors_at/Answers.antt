use Rattle.std.proofs.Common.{ℕ, ◌-◌, sym, subst, arith}
use Rattle.heap_model.specs.Images.{image_heap}
use Rattle.heap_check.specs.RegionRows.{CountsRowAt}
use Rattle.heap_model.proofs.RegionRows.{start_inside}
use Rattle.heap_check.proofs.UsedRows.{row_within, counts_row, few_survivors}
use Rattle.heap_check.proofs.region_rows.survivors_at.Goals as goal

pub overflow_sub-row_end : goal.overflow_sub-row_end
overflow_sub-row_end c =
    (row_within c.sizes_fit.ensures c.requires.few c.requires.stands c.requires.ends).from

pub returns-clause-counted : goal.returns-clause-counted
returns-clause-counted c =
    let heap = image_heap c.args.image.now in
    let limits = c.sizes_fit.ensures in
    let inside = c.region.ensures.inside (start_inside heap.space c.args.start c.args.end limits c.requires.stands) in
    let Counts : ℕ → Type 0 = λ count. CountsRowAt heap c.args.start count in
    subst Counts (sym c.survivors_of_region.ensures)
    (counts_row heap c.args.start c.args.row_end c.region.result limits c.requires.ends inside)

pub returns-clause-within : goal.returns-clause-within
returns-clause-within c =
    let lies = row_within c.sizes_fit.ensures c.requires.few c.requires.stands c.requires.ends in
    omega (
      arith,
      c.survivors_of_region.ensures,
      few_survivors c.region.result (c.args.row_end - c.args.start),
      lies.from,
      lies.within,
    )
