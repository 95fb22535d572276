-- What holds at the end of a cycle.
use Rattle.mark_laws.specs.Types.{World}
use Rattle.mark_world.specs.Soundness.{Sound}
use Rattle.mark_world.specs.BetweenCommands.{IsDrained, MarksAll, Settled}

-- in a sound world where nothing waits and the mutator's part is done, each old cell that is reached is black
abbrev pub ReachedIsBlack : Type 0
ReachedIsBlack = (world : World) → Sound world → Settled world → IsDrained world → MarksAll world
