-- No pair before is free.
use Rattle.write_barrier.specs.MutatorState.{heap_of}
use Rattle.weak_pairs.specs.Probes.{FilledBefore}
use Rattle.ephemeron_table.proofs.growing.free_place.Given as goal

abbrev pub invariant-loop-steps : goal.invariant-loop-steps
invariant-loop-steps l = FilledBefore (heap_of l.main) l.table l.number l.steps
