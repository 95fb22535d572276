-- What is recorded follows a change of cells, and in an open cycle the mutator is sure of what was put.
use Rattle.std.specs.Prelude.{List}
use Rattle.heap_model.specs.Types.{Cell}
use Rattle.write_barrier.specs.MutatorState.{Mutator}
use Rattle.write_barrier.specs.Recording.{Remembers}
use Rattle.write_barrier.specs.SureStores.{StoresSurely}

-- What was recorded follows a change of cells, and the words that were put as slots' words were put surely.
pub record RemembersSurely (old new : Mutator) (gone came made : List Cell) : Type 0 where
  pub remembers : Remembers old new gone came made
  pub surely : StoresSurely new remembers.touch
