-- The values that commands put: what is held of them.
use Rattle.std.proofs.Common.{◌≡◌, Some}
use Rattle.heap_model.specs.Types.{Operand, Value, Held}
use Rattle.object_graph.specs.Graphs.{Graph, value_of}
use Rattle.write_barrier.specs.MutatorState.{Mutator}
use Rattle.object_cells.specs.HeldValues.{IsValueHeld}
use Rattle.mutator.specs.Reading.{StandsFor}
use Rattle.mutator.proofs.StillShown.{stands_still}

-- what is known once the value of an operand was found
pub record IsGiven (main : Mutator) (graph : Graph) (v : Operand) (one : Held) : Type 0 where
  pub value : Value
  pub is : value_of graph v ≡ Some value
  pub held : IsValueHeld main graph one value

-- so it is once it was read, before another read
pub given_read : {between now : Mutator} {graph : Graph} {one : Held} (v : Operand) → now ≡ between
    → (value : Value) × (value_of graph v ≡ Some value) × StandsFor between graph value one
    → IsGiven now graph v one
given_read v after (value, is, stands) = record { value = value; is = is; held = (stands_still after stands).is }
