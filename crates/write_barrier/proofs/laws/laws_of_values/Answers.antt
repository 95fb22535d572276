-- The law of words that show values.
use Rattle.write_barrier.proofs.ShownHeld.{shown_values_are_held}
use Rattle.write_barrier.proofs.laws.laws_of_values.Goals as goal

pub returns : goal.returns
returns c = shown_values_are_held
