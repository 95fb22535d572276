-- What is recorded of the words is forgotten, and they become others.
use Rattle.std.proofs.Common.{arith}
use Rattle.std.specs.Prelude.{replicate}
use Rattle.std.proofs.lemmas.List.{length-replicate}
use Rattle.write_barrier.specs.MutatorState.{Mutator}
use Rattle.write_barrier.specs.Values.{with_range}
use Rattle.write_barrier.proofs.StretchTouches.{stretch_touch}
use Rattle.write_barrier.proofs.main_side.Main.fill.Goals as goal

pub returns-then-covers-clause-touches : goal.returns-then-covers-clause-touches
returns-then-covers-clause-touches c =
    let old : Mutator = c.args.self.now in
    let others = replicate c.args.count c.args.word in
    stretch_touch {old = old} c.args.at c.args.count (with_range old.seat.table c.args.at others) others
    c.fill_in_page.ensures.filled c.fill_in_page.ensures.heap (length-replicate c.args.count c.args.word)
    (omega (arith, c.addresses_fit.ensures.heap_counted, c.requires.within))

pub returns-else-covers-clause-touches : goal.returns-else-covers-clause-touches
returns-else-covers-clause-touches c =
    let old : Mutator = c.args.self.now in
    let others = replicate c.args.count c.args.word in
    stretch_touch {old = old} c.args.at c.args.count (with_range old.seat.table c.args.at others) others
    c.fill_behind.ensures.filled c.fill_behind.ensures.heap (length-replicate c.args.count c.args.word)
    (omega (arith, c.addresses_fit.ensures.heap_counted, c.requires.within))
