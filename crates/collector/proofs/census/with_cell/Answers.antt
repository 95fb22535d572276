-- A cell that is no object's is passed by, and an object's is one more; the sums are below 2 ^ 32.
use Rattle.std.proofs.Common.{◌≡◌, ◌∙◌, sym, true, false, arith}
use Rattle.page_space.proofs.Limits.{words_count_most}
use Rattle.page_space.proofs.Starts.{layouts_start_is, marks_start_is, board_start_is, words_count_is}
use Rattle.tagged_word.specs.Cells.{is_object_kind}
use Rattle.heap_model.proofs.CellsApart.{used_few}
use Rattle.heap_model.proofs.WordsAlike.{cell_below_roots}
use Rattle.live_cells.proofs.CountSteps.{counts_over, counts_more}
use Rattle.collector.proofs.census.with_cell.Goals as goal

pub returns-then-not-is_object : goal.returns-then-not-is_object
returns-then-not-is_object c =
    let none : is_object_kind c.args.cell.now.layout.kind ≡ false =
    sym c.is_object.ensures ∙ c.if-not-is_object.true in
    record { counts = counts_over c.requires.whole.rows c.requires.stands.1 none c.requires.counts }

pub overflow_add-result : goal.overflow_add-result
overflow_add-result c =
    let space = c.args.main.now.seat.space in
    omega (
      arith,
      c.requires.counts.few_objects,
      cell_below_roots (used_few c.requires.whole.rows) c.requires.stands.1,
      layouts_start_is space,
      marks_start_is space,
      board_start_is space,
      words_count_is space,
      words_count_most space c.addresses_fit.ensures.within,
    )

pub overflow_add-result-2 : goal.overflow_add-result-2
overflow_add-result-2 c =
    let space = c.args.main.now.seat.space in
    omega (
      arith,
      c.requires.counts.few_entries,
      c.pairs_of.ensures.few,
      cell_below_roots (used_few c.requires.whole.rows) c.requires.stands.1,
      layouts_start_is space,
      marks_start_is space,
      board_start_is space,
      words_count_is space,
      words_count_most space c.addresses_fit.ensures.within,
    )

pub returns : goal.returns
returns c =
    let object : is_object_kind c.args.cell.now.layout.kind ≡ true =
    sym c.is_object.ensures ∙ c.if-not-is_object.false in
    record {
      counts = counts_more c.pairs_of.result c.requires.whole.rows c.requires.stands.1 object c.pairs_of.ensures.counted
          c.pairs_of.ensures.few c.requires.counts;
    }
