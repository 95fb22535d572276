use Rattle.std.proofs.Common.{◌≡◌}
use Rattle.mark_world.specs.AfterEvents.{moment, WerePossible}
use Rattle.mark_core.proofs.runs.replay.Given as goal

abbrev pub invariant-loop-at : goal.invariant-loop-at
invariant-loop-at l = record {
  reached : l.world ≡ moment l.start l.events l.at;
  possible : WerePossible l.start l.events l.at;
}
