-- The regions before an address are passed.
use Rattle.std.proofs.Common.{◌-◌}
use Rattle.page_space.specs.Extents.{words_count}
use Rattle.heap_model.proofs.RegionSeams.{IsSeam}
use Rattle.marking_tests.proofs.found_cells.find_cell.Given as goal

abbrev pub invariant-loop-end : goal.invariant-loop-end
invariant-loop-end l = IsSeam l.main.seat.space l.start

abbrev pub decreases-loop-end : goal.decreases-loop-end
decreases-loop-end l = words_count l.regions - l.start
