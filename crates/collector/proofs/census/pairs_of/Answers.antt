-- What a weak map counts is few, and stands before the marks.
use Rattle.std.proofs.Common.{arith}
use Rattle.page_space.proofs.Starts.{layouts_start_is, marks_start_is}
use Rattle.heap_model.proofs.CellsApart.{used_few}
use Rattle.heap_model.proofs.WordsAlike.{cell_below_roots}
use Rattle.write_barrier.specs.MutatorState.{heap_of}
use Rattle.live_cells.proofs.FewPairs.{few_pairs, count_read}
use Rattle.collector.proofs.census.pairs_of.Goals as goal

pub slot-requires : goal.slot-requires
slot-requires c =
    let space = c.args.main.now.seat.space in
    let has = c.requires.stands.1 in
    omega (
      arith,
      (few_pairs c.requires.whole has c.in-Weak.is).size,
      cell_below_roots (used_few c.requires.whole.rows) has,
      layouts_start_is space,
      marks_start_is space,
    )

pub overflow_cast-result : goal.overflow_cast-result
overflow_cast-result c =
    let count = count_read (heap_of c.args.main.now) c.args.cell.now.at c.slot.result c.slot.ensures.of_heap in
    omega (arith, count, (few_pairs c.requires.whole c.requires.stands.1 c.in-Weak.is).few)

pub returns-in-Weak-clause-few : goal.returns-in-Weak-clause-few
returns-in-Weak-clause-few c =
    let known = few_pairs c.requires.whole c.requires.stands.1 c.in-Weak.is in
    let count = count_read (heap_of c.args.main.now) c.args.cell.now.at c.slot.result c.slot.ensures.of_heap in
    omega (arith, count, known.few, known.size)
