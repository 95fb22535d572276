use Rattle.write_barrier.specs.Seats.{heap_words}
use Rattle.collector.specs.Filling.{CopiesWithin}
use Rattle.collector.proofs.filling.copy_words.Given as goal

abbrev pub invariant-loop-at : goal.invariant-loop-at
invariant-loop-at l = CopiesWithin (heap_words l.main.seat) l.fn.words l.words l.from l.at
