-- References may stand in slots.
use Rattle.std.proofs.Common.{refl, arith}
use Rattle.tagged_word.specs.declared.word.Class.TheVariants.{Ref}
use Rattle.table_tests.proofs.barrier.store_both.Goals as goal

pub store_in_first-requires-clause-fits : goal.store_in_first-requires-clause-fits
store_in_first-requires-clause-fits c = record { class = Ref 1027; fits = omega arith; bits = refl; allowed = refl }

pub store_in_first-requires-2-clause-fits : goal.store_in_first-requires-2-clause-fits
store_in_first-requires-2-clause-fits c = record { class = Ref 2100; fits = omega arith; bits = refl; allowed = refl }
