-- The mutator on a heap of one page while a cycle waits.
use Rattle.std.specs.Prelude.{◌≡◌, Some, IsSome}
use Rattle.mark_laws.specs.Runs.{IsSoundAndBorn}
use Rattle.heap_table.specs.Phases.{Paused}
use Rattle.write_barrier.specs.Layouts.{HasLayouts}
use Rattle.write_barrier.specs.MutatorState.{Mutator}
use Rattle.write_barrier.specs.Pauses.{world_with}
use Rattle.write_barrier.specs.Seats.{Marks}
use Rattle.table_tests.specs.OpenMains.{page_and_eden}

-- a cycle waits on such a heap
pub record IsPausedMain (main : Mutator) : Type 0 where
  pub waits : main.seat.phase ≡ Paused
  pub space : main.seat.space ≡ page_and_eden

-- and it may go on as it was
pub record IsWholeMain (main : Mutator) : Type 0 where
  pub paused : IsPausedMain main
  pub shared : IsSome main.seat.shared
  pub layouts : HasLayouts main
  pub sound : (marks : Marks) → main.seat.marks ≡ Some marks → IsSoundAndBorn (world_with main marks)
