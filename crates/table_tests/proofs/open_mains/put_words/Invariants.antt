-- The heap is bare after each word.
use Rattle.table_tests.specs.OpenMains.{IsBareMain}
use Rattle.table_tests.proofs.open_mains.put_words.Given as goal

abbrev pub invariant-loop-k : goal.invariant-loop-k
invariant-loop-k l = IsBareMain l.main
