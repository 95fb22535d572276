use Rattle.std.proofs.Common.{◌-◌}
use Rattle.page_space.specs.Extents.{words_count}
use Rattle.heap_model.specs.Images.{image_heap}
use Rattle.image_walk.proofs.CellsOnward.{IsPassed}
use Rattle.image_walk.proofs.next_cell.next_from.Given as goal

abbrev pub invariant-loop-end : goal.invariant-loop-end
invariant-loop-end l = IsPassed (image_heap l.image) l.from l.at

abbrev pub decreases-loop-end : goal.decreases-loop-end
decreases-loop-end l = words_count l.image.regions - l.at
