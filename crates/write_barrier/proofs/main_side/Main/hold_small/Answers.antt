-- The even word is the first root word of the small integer, and the second is 0.
use Rattle.write_barrier.specs.MutatorState.{heap_of}
use Rattle.write_barrier.specs.Values.{held_of_class}
use Rattle.write_barrier.proofs.ClassValues.{even_words}
use Rattle.write_barrier.proofs.main_side.Main.hold_small.Goals as goal

pub returns-clause-held : goal.returns-clause-held
returns-clause-held c = λ class is bits.
    let heap = heap_of c.args.self.now in
    c.put_roots_from_second.ensures.held (held_of_class heap class)
    (even_words heap class c.args.word.0 is bits c.requires.even)

pub returns-clause-heap : goal.returns-clause-heap
returns-clause-heap c = λ class is bits.
    let heap = heap_of c.args.self.now in
    c.put_roots_from_second.ensures.heap (held_of_class heap class)
    (even_words heap class c.args.word.0 is bits c.requires.even)

pub returns-clause-fits : goal.returns-clause-fits
returns-clause-fits c = λ class is bits.
    (even_words (heap_of c.args.self.now) class c.args.word.0 is bits c.requires.even).fits
