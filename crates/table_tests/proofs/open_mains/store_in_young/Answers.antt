-- The slot is one of eden, of which no cycle asks anything.
use Rattle.std.proofs.Common.{sym, subst, arith}
use Rattle.table_tests.specs.OpenMains.{IsMarkingMain}
use Rattle.table_tests.proofs.OpenMains.{before_marks, marking_stored}
use Rattle.table_tests.proofs.open_mains.store_in_young.Goals as goal

pub store-requires-clause-within : goal.store-requires-clause-within
store-requires-clause-within c =
    before_marks c.args.main.now.seat.space 2050 c.requires.marking.space (omega arith)

pub returns : goal.returns
returns c = record {
  marking = subst IsMarkingMain (sym c.store.ensures.stored)
      (marking_stored c.args.main.now 2050 c.reference.result.0 c.requires.marking (omega arith));
}
