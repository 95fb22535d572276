-- What is recorded of the words is forgotten, and others are copied to them.
use Rattle.std.proofs.Common.{arith}
use Rattle.word_store.specs.Copies.{copied}
use Rattle.write_barrier.specs.MutatorState.{Mutator}
use Rattle.write_barrier.proofs.StretchTouches.{copy_touch}
use Rattle.write_barrier.proofs.main_side.Main.copy_words.Goals as goal

pub returns-then-covers-clause-touches : goal.returns-then-covers-clause-touches
returns-then-covers-clause-touches c =
    let old : Mutator = c.args.self.now in
    copy_touch {old = old} c.args.from c.args.to c.args.count (copied old.seat.table c.args.from c.args.to c.args.count)
    c.copy_to_page.ensures.copied c.copy_to_page.ensures.heap
    (omega (arith, c.addresses_fit.ensures.heap_counted, c.requires.within))
    (omega (arith, c.addresses_fit.ensures.heap_counted, c.requires.room))

pub returns-else-covers-clause-touches : goal.returns-else-covers-clause-touches
returns-else-covers-clause-touches c =
    let old : Mutator = c.args.self.now in
    copy_touch {old = old} c.args.from c.args.to c.args.count (copied old.seat.table c.args.from c.args.to c.args.count)
    c.copy_behind.ensures.copied c.copy_behind.ensures.heap
    (omega (arith, c.addresses_fit.ensures.heap_counted, c.requires.within))
    (omega (arith, c.addresses_fit.ensures.heap_counted, c.requires.room))
