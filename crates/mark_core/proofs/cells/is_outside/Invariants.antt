use Rattle.std.proofs.Common.{◌≡◌, false}
use Rattle.mark_world.specs.Pages.{is_inside}
use Rattle.mark_world.specs.Coverage.{cell_of}
use Rattle.mark_core.proofs.FreeStarts.{FreeBelow}
use Rattle.mark_core.proofs.cells.is_outside.Given as goal

abbrev pub invariant-loop-start : goal.invariant-loop-start
invariant-loop-start l = FreeBelow l.world.main l.start-items l.start-index
    (λ start. is_inside start (cell_of l.world start) l.at ≡ false)
