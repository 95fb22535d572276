-- What the heap is after a part of it was lent.
use Rattle.std.specs.Borrow.{Lends, MutBor, Fml}
use Rattle.write_barrier.specs.MutatorState.{Mutator}
use Rattle.write_barrier.specs.contracts.main_side.Main.{the_row as main_row}
use Rattle.collector.specs.contracts.script_heap.Heap.{the_row}
use Rattle.collector.specs.States.{HeapState}

-- the heap ends with the last mutator's side behind the reference
abbrev pub LendsMain : MutBor HeapState → MutBor Mutator → Fml
LendsMain heap main = Lends the_row main_row heap main (λ last. record heap.now { main = last })
