-- So many words were read.
use Rattle.std.proofs.Common.{◌≡◌, take, drop}
use Rattle.write_barrier.specs.Seats.{heap_words}
use Rattle.table_tests.proofs.open_mains.words_from.Given as goal

abbrev pub invariant-loop-k : goal.invariant-loop-k
invariant-loop-k l = l.words.items ≡ take l.k (drop l.from (heap_words l.main.seat))
