use Rattle.std.proofs.Common.{◌-◌}
use Rattle.page_space.specs.Extents.{words_count}
use Rattle.collector.proofs.BlankedWords.{Blanking}
use Rattle.collector.proofs.blanking.blank_cells.Given as goal

abbrev pub invariant-loop-end : goal.invariant-loop-end
invariant-loop-end l = Blanking l.fn.main l.main l.at

abbrev pub decreases-loop-end : goal.decreases-loop-end
decreases-loop-end l = words_count l.regions - l.at
