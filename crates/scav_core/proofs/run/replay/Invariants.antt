use Rattle.std.proofs.Common.{◌≡◌, take}
use Rattle.scav_core.specs.Runs.{ArePossible, after_all}
use Rattle.scav_core.proofs.run.replay.Given as goal

abbrev pub invariant-loop-at : goal.invariant-loop-at
invariant-loop-at l = record {
  possible : ArePossible l.start (take l.at l.events);
  world : l.world ≡ after_all l.start (take l.at l.events);
}
