use Rattle.std.proofs.Common.{List, ℕ, refl, arith, ◌∙◌}
use Rattle.cell_layout.proofs.Rows.{row_of_no_cells, row_of_one_more}
use Rattle.word_tests.proofs.cells.cells_between.Goals as goal

-- nothing was passed
pub loop-cell-init : goal.loop-cell-init
loop-cell-init g c = record {
  row = row_of_no_cells c.args.regions.now (g.W.Reads.words c.args.words.now) c.args.from;
  within = c.requires.before;
  few = omega arith;
  kept = refl;
  steady = c.requires.steady;
  rest = g.met.W.Reads.rest_itself c.args.words.now;
}

-- one cell more was passed
pub loop-cell-preserved : goal.loop-cell-preserved
loop-cell-preserved g c =
    let words : List ℕ = g.W.Reads.words c.args.words.now in
    let kept = c.loop-cell.invariant.kept in
    let found = rw c.in-Some.is at c.in_ok-cell.ensures.cell in
    let ends = rw c.in-Some.is at c.in_ok-cell.ensures.ends in
    record {
      row = row_of_one_more c.args.regions.now words c.args.from c.loop-cell.at c.loop-cell.count c.in-Some.cell
          c.loop-cell.invariant.row found.0 (rw kept at found.1);
      within = omega arith;
      few = omega (arith, ends.0);
      kept = c.in_ok-cell.ensures.kept ∙ kept;
      steady = g.met.W.Reads.stays_steady c.loop-cell.words c.next_cell.new.words c.in_ok-cell.ensures.rest
          c.loop-cell.invariant.steady;
      rest = g.met.W.Reads.rest_again c.args.words.now c.loop-cell.words c.next_cell.new.words
          c.loop-cell.invariant.rest c.in_ok-cell.ensures.rest;
    }
