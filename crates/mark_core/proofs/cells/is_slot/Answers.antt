use Rattle.core_parts.proofs.Tested.{same_test}
use Rattle.mark_core.proofs.cells.is_slot.Goals as goal

pub returns : goal.returns
returns c = same_test _ _ _ c.is_tagged.ensures
