-- A path is added, with its layout words.
use Rattle.write_barrier.proofs.LaidOn.{path_stores_on}
use Rattle.shape_change.proofs.set_slot.changed_shape.Goals as goal

pub returns-clause-stores : goal.returns-clause-stores
returns-clause-stores c = path_stores_on c.requires.sized c.in-Ok.ensures
