-- The test of tagged slots is that of their offsets.
use Rattle.core_parts.proofs.Tested.{same_test}
use Rattle.table_tests.proofs.cells.is_slot.Goals as goal

pub returns : goal.returns
returns c = same_test _ _ _ c.is_tagged.ensures
