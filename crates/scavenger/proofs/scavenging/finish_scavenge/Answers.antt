-- A scavenge that helpers began goes on with the slots that they left, and then as ever.
use Rattle.std.proofs.Common.{◌≡◌, ◌∙◌, false, List, sym, ap, subst, arith}
use Rattle.page_space.specs.Extents.{Space}
use Rattle.page_space.specs.RegionLaws.{IsSpace}
use Rattle.nursery.specs.Young.{Young, IsYoung}
use Rattle.object_graph.specs.Graphs.{Graph}
use Rattle.free_runs.specs.FreeRuns.{AreFree}
use Rattle.write_barrier.specs.MutatorState.{Mutator, MainShows}
use Rattle.scavenger.specs.declared.spaces.Spaces.{Spaces}
use Rattle.scavenger.specs.declared.worker.Worker.{Worker}
use Rattle.scavenger.specs.Starts.{SegmentCopies}
use Rattle.scavenger.specs.Walking.{AreSpaces}
use Rattle.scavenger.specs.Handing.{HandsOver, HasEnded, HasLeft}
use Rattle.scavenger.proofs.Ended.{ended_is, ended_keeps}
use Rattle.scavenger.proofs.HandedStep.{LeavesSlots, leaves_slots, left_followed}
use Rattle.scavenger.proofs.LoopGoing.{same_young}
use Rattle.scavenger.proofs.scavenging.finish_scavenge.Goals as goal

pub scavenge_left-requires-clause-scavenging : goal.scavenge_left-requires-clause-scavenging
scavenge_left-requires-clause-scavenging c =
    let given = c.requires.handed in
    let leaves = leaves_slots given.0 c.args.main.now c.begin-worker.new.main given.1 given.2 c.args.left.now
    c.args.copied
    c.begin-worker.result.0 c.begin-worker.result.1.progress c.begin-worker.result.1.list.items given.3
    (λ mark. c.requires.quiet (given.4.changes.seat.phase ∙ mark))
    c.begin-worker.ensures.young given.4
    c.begin-worker.ensures.same c.begin-worker.ensures.spaces c.begin-worker.ensures.progress
    c.begin-worker.ensures.empty in
    (given.0, given.1, false, leaves.are, leaves.has)

pub scavenge_left-requires-clause-room : goal.scavenge_left-requires-clause-room
scavenge_left-requires-clause-room c =
    omega (
      arith,
      ap (λ (main : Mutator). main.seat.space.sizes.young) c.begin-worker.ensures.same,
      c.requires.room,
      c.begin-worker.ensures.capacity,
    )

pub follow_all-requires-clause-limits : goal.follow_all-requires-clause-limits
follow_all-requires-clause-limits c =
    let given = c.requires.handed in
    let leaves = leaves_slots given.0 c.args.main.now c.begin-worker.new.main given.1 given.2 c.args.left.now
    c.args.copied
    c.begin-worker.result.0 c.begin-worker.result.1.progress c.begin-worker.result.1.list.items given.3
    (λ mark. c.requires.quiet (given.4.changes.seat.phase ∙ mark))
    c.begin-worker.ensures.young given.4
    c.begin-worker.ensures.same c.begin-worker.ensures.spaces c.begin-worker.ensures.progress
    c.begin-worker.ensures.empty in
    let state = c.scavenge_left.ensures.scavenging given.0 given.1 false leaves.are leaves.has in
    subst (λ (space : Space). IsSpace space)
    (sym (left_followed leaves state given.3).same) c.begin-worker.ensures.limits

pub follow_all-requires-clause-tied : goal.follow_all-requires-clause-tied
follow_all-requires-clause-tied c =
    let given = c.requires.handed in
    let leaves = leaves_slots given.0 c.args.main.now c.begin-worker.new.main given.1 given.2 c.args.left.now
    c.args.copied
    c.begin-worker.result.0 c.begin-worker.result.1.progress c.begin-worker.result.1.list.items given.3
    (λ mark. c.requires.quiet (given.4.changes.seat.phase ∙ mark))
    c.begin-worker.ensures.young given.4
    c.begin-worker.ensures.same c.begin-worker.ensures.spaces c.begin-worker.ensures.progress
    c.begin-worker.ensures.empty in
    let state = c.scavenge_left.ensures.scavenging given.0 given.1 false leaves.are leaves.has in
    (left_followed leaves state given.3).tied

pub follow_all-requires-clause-scavenging : goal.follow_all-requires-clause-scavenging
follow_all-requires-clause-scavenging c =
    let given = c.requires.handed in
    let leaves = leaves_slots given.0 c.args.main.now c.begin-worker.new.main given.1 given.2 c.args.left.now
    c.args.copied
    c.begin-worker.result.0 c.begin-worker.result.1.progress c.begin-worker.result.1.list.items given.3
    (λ mark. c.requires.quiet (given.4.changes.seat.phase ∙ mark))
    c.begin-worker.ensures.young given.4
    c.begin-worker.ensures.same c.begin-worker.ensures.spaces c.begin-worker.ensures.progress
    c.begin-worker.ensures.empty in
    let state = c.scavenge_left.ensures.scavenging given.0 given.1 false leaves.are leaves.has in
    let followed = left_followed leaves state given.3 in
    (given.0, given.1, false, followed.are, (state, followed.counted))

pub follow_all-requires-clause-room : goal.follow_all-requires-clause-room
follow_all-requires-clause-room c =
    let given = c.requires.handed in
    let leaves = leaves_slots given.0 c.args.main.now c.begin-worker.new.main given.1 given.2 c.args.left.now
    c.args.copied
    c.begin-worker.result.0 c.begin-worker.result.1.progress c.begin-worker.result.1.list.items given.3
    (λ mark. c.requires.quiet (given.4.changes.seat.phase ∙ mark))
    c.begin-worker.ensures.young given.4
    c.begin-worker.ensures.same c.begin-worker.ensures.spaces c.begin-worker.ensures.progress
    c.begin-worker.ensures.empty in
    let state = c.scavenge_left.ensures.scavenging given.0 given.1 false leaves.are leaves.has in
    let same = (left_followed leaves state given.3).same in
    omega (
      arith,
      ap (λ (space : Space). space.sizes.young) same,
      ap (λ (main : Mutator). main.seat.space.sizes.young) c.begin-worker.ensures.same,
      c.requires.room,
      c.begin-worker.ensures.capacity,
      c.scavenge_left.ensures.capacity,
    )

pub returns-clause-scavenged : goal.returns-clause-scavenged
returns-clause-scavenged c start handed graph shows hands =
    let leaves = leaves_slots start c.args.main.now c.begin-worker.new.main handed graph c.args.left.now c.args.copied
    c.begin-worker.result.0 c.begin-worker.result.1.progress c.begin-worker.result.1.list.items shows
    (λ mark. c.requires.quiet (hands.changes.seat.phase ∙ mark))
    c.begin-worker.ensures.young hands
    c.begin-worker.ensures.same c.begin-worker.ensures.spaces c.begin-worker.ensures.progress
    c.begin-worker.ensures.empty in
    let state = c.scavenge_left.ensures.scavenging start handed false leaves.are leaves.has in
    let followed = left_followed leaves state shows in
    let ended = c.follow_all.ensures.ended start handed false followed.are state followed.counted in
    let ends = ended_is graph shows leaves.young c.follow_all.ensures.free ended in
    record { scavenges = ends.scavenges; homes = ends.homes }

pub returns-clause-keeps : goal.returns-clause-keeps
returns-clause-keeps c start handed graph shows hands =
    let leaves = leaves_slots start c.args.main.now c.begin-worker.new.main handed graph c.args.left.now c.args.copied
    c.begin-worker.result.0 c.begin-worker.result.1.progress c.begin-worker.result.1.list.items shows
    (λ mark. c.requires.quiet (hands.changes.seat.phase ∙ mark))
    c.begin-worker.ensures.young hands
    c.begin-worker.ensures.same c.begin-worker.ensures.spaces c.begin-worker.ensures.progress
    c.begin-worker.ensures.empty in
    let state = c.scavenge_left.ensures.scavenging start handed false leaves.are leaves.has in
    let followed = left_followed leaves state shows in
    ended_keeps leaves.young c.follow_all.ensures.free
    (c.follow_all.ensures.ended start handed false followed.are state followed.counted)
