-- The law, as it was proved.
use Rattle.object_cells.proofs.OwnerWrites.{writes_keep_cells}
use Rattle.object_cells.proofs.laws.laws_of_writes.Goals as goal

pub returns : goal.returns
returns c = record { cells = writes_keep_cells }
