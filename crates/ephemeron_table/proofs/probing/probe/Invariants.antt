-- All pairs before hold something, and have other keys.
use Rattle.write_barrier.specs.MutatorState.{heap_of}
use Rattle.weak_pairs.specs.Probes.{PassesBefore}
use Rattle.ephemeron_table.proofs.probing.probe.Given as goal

abbrev pub invariant-loop-steps : goal.invariant-loop-steps
invariant-loop-steps l = PassesBefore (heap_of l.main) l.table l.number l.key.0 l.steps
