-- The last pairs of keys are told of the pairs that are left.
use Rattle.std.proofs.Common.{◌≡◌, length, vec_capacity}
use Rattle.ephemeron_mark.specs.Model.{AreTold}
use Rattle.ephemeron_mark.proofs.waiting.forget_pairs.Given as goal

abbrev pub invariant-loop-pair : goal.invariant-loop-pair
invariant-loop-pair l = record {
  told : AreTold l.last.items l.pairs.items;
  capacity : vec_capacity l.pairs ≡ vec_capacity l.initial.pairs;
  capacity_of_last : vec_capacity l.last ≡ vec_capacity l.initial.last;
}

abbrev pub decreases-loop-pair : goal.decreases-loop-pair
decreases-loop-pair l = length l.pairs.items
