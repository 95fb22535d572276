use Rattle.mark_laws.proofs.Drained.{reached_is_black}
use Rattle.mark_laws.proofs.ends.laws_of_ends.Goals as goal

pub returns : goal.returns
returns c = reached_is_black
