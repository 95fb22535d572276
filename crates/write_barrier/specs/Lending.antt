-- What the mutator is after one of its parts was lent.
use Rattle.std.specs.Borrow.{Lends, MutBor, Fml}
use Rattle.nursery.specs.Young.{Young}
use Rattle.nursery.specs.contracts.Nursery.{the_row as nursery_row}
use Rattle.write_barrier.specs.contracts.main_side.Main.{the_row}
use Rattle.write_barrier.specs.MutatorState.{Mutator}

-- the mutator ends with the last young generation behind the reference
abbrev pub LendsNursery : MutBor Mutator → MutBor Young → Fml
LendsNursery main young = Lends the_row nursery_row main young (λ last. record main.now { young = last })
