-- The walk goes from cell to cell of the row, and each is one of the heap.
use Rattle.std.proofs.Common.{ℕ, ◌+◌, refl, sym, subst, arith}
use Rattle.page_space.proofs.Starts.{layouts_start_is, marks_start_is}
use Rattle.write_barrier.specs.MutatorState.{heap_of}
use Rattle.heap_walk.proofs.RowWalks.{Walking, walk_begins, end_below_roots, walk_goes_on}
use Rattle.marking_tests.proofs.found_cells.find_between.Goals as goal

pub cells-init : goal.cells-init
cells-init c =
    let heap = heap_of c.args.main.now in
    let is_limit = c.between-cells.ensures.limit heap refl refl c.requires.whole.rows in
    let Walks : ℕ → Type 0 = λ at. Walking heap c.args.start c.args.end c.between-cells.result.limit at in
    record {
      walking = subst Walks (sym c.between-cells.ensures.starts)
          (walk_begins c.requires.whole.rows c.requires.stands is_limit);
      within = is_limit.within;
    }

pub next-requires-clause-ahead : goal.next-requires-clause-ahead
next-requires-clause-ahead c =
    let walking = c.cells.invariant.walking in
    (walking.row.end, walking.left, walking.ahead)

pub next-requires-clause-within : goal.next-requires-clause-within
next-requires-clause-within c =
    let space = c.args.main.now.seat.space in
    omega (
      arith,
      c.cells.invariant.within,
      end_below_roots c.cells.invariant.walking,
      layouts_start_is space,
      marks_start_is space,
    )

pub cells-preserved : goal.cells-preserved
cells-preserved c =
    let heap = heap_of c.args.main.now in
    let walking = c.cells.invariant.walking in
    let steps = c.in-Some.ensures.steps in
    let next = c.in-Some.ensures.next walking.row.end walking.left walking.ahead in
    let Limited : ℕ → Type 0 = λ limit.
    Walking heap c.args.start c.args.end limit (c.cells.cells.at + c.in-Some.cell.size) in
    let Walks : ℕ → Type 0 = λ at. Walking heap c.args.start c.args.end c.next.new.self.limit at in
    record {
      walking = subst Walks (sym steps.at) (subst Limited (sym steps.limit) (walk_goes_on walking next));
      within = omega (arith, steps.limit, c.cells.invariant.within);
    }
