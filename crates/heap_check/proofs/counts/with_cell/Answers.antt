-- A cell that is no object's is passed by, and an object's is one more; the sums are below 2 ^ 64.
use Rattle.std.proofs.Common.{◌≡◌, ◌∙◌, sym, true, false, arith}
use Rattle.page_space.proofs.Limits.{words_count_most}
use Rattle.page_space.proofs.Starts.{layouts_start_is, marks_start_is, board_start_is, words_count_is}
use Rattle.heap_model.specs.Slots.{is_object_kind}
use Rattle.heap_model.proofs.CellsApart.{used_few}
use Rattle.heap_model.proofs.WordsAlike.{cell_below_roots}
use Rattle.live_cells.proofs.CountSteps.{counts_over, counts_more}
use Rattle.heap_check.proofs.counts.with_cell.Goals as goal

pub returns-then-not-is_object : goal.returns-then-not-is_object
returns-then-not-is_object c =
    let none : is_object_kind c.args.cell.layout.kind ≡ false = sym c.is_object.ensures ∙ c.if-not-is_object.true in
    counts_over c.requires.whole.rows c.requires.stands none c.requires.counts

pub overflow_add-result : goal.overflow_add-result
overflow_add-result c =
    let space = c.args.image.now.regions in
    omega (
      arith,
      c.requires.counts.few_objects,
      cell_below_roots (used_few c.requires.whole.rows) c.requires.stands,
      layouts_start_is space,
      marks_start_is space,
      board_start_is space,
      words_count_is space,
      words_count_most space c.sizes_fit.ensures,
    )

pub overflow_add-result-2 : goal.overflow_add-result-2
overflow_add-result-2 c =
    let space = c.args.image.now.regions in
    omega (
      arith,
      c.requires.counts.few_entries,
      c.entries_of.ensures.few,
      cell_below_roots (used_few c.requires.whole.rows) c.requires.stands,
      layouts_start_is space,
      marks_start_is space,
      board_start_is space,
      words_count_is space,
      words_count_most space c.sizes_fit.ensures,
    )

pub returns : goal.returns
returns c =
    let object : is_object_kind c.args.cell.layout.kind ≡ true = sym c.is_object.ensures ∙ c.if-not-is_object.false in
    counts_more c.entries_of.result c.requires.whole.rows c.requires.stands object c.entries_of.ensures.counted
    c.entries_of.ensures.few c.requires.counts
