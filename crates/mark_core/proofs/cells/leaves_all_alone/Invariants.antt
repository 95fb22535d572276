use Rattle.std.proofs.Common.{◌≡◌, true}
use Rattle.mark_world.specs.Pages.{leaves_alone}
use Rattle.mark_world.specs.Coverage.{cell_of}
use Rattle.mark_core.proofs.FreeStarts.{FreeBelow}
use Rattle.mark_core.proofs.cells.leaves_all_alone.Given as goal

abbrev pub invariant-loop-start : goal.invariant-loop-start
invariant-loop-start l = FreeBelow l.world.main l.start-items l.start-index
    (λ start. leaves_alone start (cell_of l.world start) l.at ≡ true)
