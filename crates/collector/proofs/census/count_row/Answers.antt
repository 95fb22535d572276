-- The count goes from cell to cell of the row, to its end, and with it to the end of the region.
use Rattle.std.proofs.Common.{◌≡◌, ℕ, ◌+◌, refl, sym, subst, arith}
use Rattle.page_space.proofs.Starts.{layouts_start_is, marks_start_is}
use Rattle.heap_model.specs.Heaps.{words_of_cell}
use Rattle.write_barrier.specs.MutatorState.{heap_of}
use Rattle.heap_walk.proofs.RowWalks.{Walking, walk_begins, end_below_roots, next_has, walk_goes_on}
use Rattle.collector.specs.Passing.{CountsTo}
use Rattle.collector.proofs.RowSteps.{counts_to_end}
use Rattle.collector.proofs.census.count_row.Goals as goal

pub cells-init : goal.cells-init
cells-init c =
    let heap = heap_of c.args.main.now in
    let is_limit = c.between-cells.ensures.limit heap refl refl c.requires.whole.rows in
    let Walks : ℕ → Type 0 = λ at. Walking heap c.args.start c.args.end c.between-cells.result.limit at in
    let Counts : ℕ → Type 0 = λ at. CountsTo heap at c.args.census in
    let starts = sym c.between-cells.ensures.starts in
    record {
      walking = subst Walks starts (walk_begins c.requires.whole.rows c.requires.stands is_limit);
      within = is_limit.within;
      counts = subst Counts starts c.requires.counts;
    }

pub next-requires-clause-ahead : goal.next-requires-clause-ahead
next-requires-clause-ahead c =
    let walking = c.cells.invariant.walking in
    (walking.row.end, walking.left, walking.ahead)

pub next-requires-clause-within : goal.next-requires-clause-within
next-requires-clause-within c =
    let space = c.args.main.now.seat.space in
    omega (
      arith,
      c.cells.invariant.within,
      end_below_roots c.cells.invariant.walking,
      layouts_start_is space,
      marks_start_is space,
    )

pub with_cell-counted-requires-clause-stands : goal.with_cell-counted-requires-clause-stands
with_cell-counted-requires-clause-stands c =
    let walking = c.cells.invariant.walking in
    let next = c.in-Some.ensures.next walking.row.end walking.left walking.ahead in
    (words_of_cell (heap_of c.args.main.now) c.in-Some.cell, next_has walking next)

pub with_cell-counted-requires-clause-counts : goal.with_cell-counted-requires-clause-counts
with_cell-counted-requires-clause-counts c =
    let walking = c.cells.invariant.walking in
    let next = c.in-Some.ensures.next walking.row.end walking.left walking.ahead in
    subst (λ (at : ℕ). CountsTo (heap_of c.args.main.now) at c.cells.counted) (sym next.stands.stands)
    c.cells.invariant.counts

pub cells-preserved : goal.cells-preserved
cells-preserved c =
    let heap = heap_of c.args.main.now in
    let walking = c.cells.invariant.walking in
    let steps = c.in-Some.ensures.steps in
    let next = c.in-Some.ensures.next walking.row.end walking.left walking.ahead in
    let Limited : ℕ → Type 0 = λ limit.
    Walking heap c.args.start c.args.end limit (c.cells.cells.at + c.in-Some.cell.size) in
    let Walks : ℕ → Type 0 = λ at. Walking heap c.args.start c.args.end c.next.new.self.limit at in
    let Counts : ℕ → Type 0 = λ at. CountsTo heap at c.with_cell-counted.result in
    let after : c.in-Some.cell.at + c.in-Some.cell.size ≡ c.next.new.self.at =
    omega (arith, next.stands.stands, steps.at) in
    record {
      walking = subst Walks (sym steps.at) (subst Limited (sym steps.limit) (walk_goes_on walking next));
      within = omega (arith, steps.limit, c.cells.invariant.within);
      counts = subst Counts after c.with_cell-counted.ensures.counts;
    }

pub returns : goal.returns
returns c =
    let walking = c.cells.invariant.walking in
    let over = c.in_default.ensures.over refl walking.row.end walking.left walking.ahead in
    counts_to_end walking c.requires.whole.rows over c.cells.invariant.counts
