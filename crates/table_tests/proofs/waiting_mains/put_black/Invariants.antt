-- The heap is bare while its cells are put.
use Rattle.table_tests.specs.OpenMains.{IsBareMain}
use Rattle.table_tests.proofs.waiting_mains.put_black.Given as goal

abbrev pub invariant-loop-start : goal.invariant-loop-start
invariant-loop-start l = IsBareMain l.main
