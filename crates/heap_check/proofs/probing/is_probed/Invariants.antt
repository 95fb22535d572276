use Rattle.std.proofs.Common.{ℕ, ◌<◌}
use Rattle.heap_model.specs.Images.{image_heap}
use Rattle.image_walk.specs.TablePairs.{table_pairs}
use Rattle.heap_check.proofs.ProbedPairs.{PassesPair}
use Rattle.heap_check.proofs.probing.is_probed.Given as goal

abbrev pub invariant-loop-steps : goal.invariant-loop-steps
invariant-loop-steps l =
    (steps : ℕ) → steps < l.steps → PassesPair (table_pairs (image_heap l.image) l.table) l.number l.fn.at steps
