-- A scavenge goes on from the roots to its end.
use Rattle.std.proofs.Common.{◌≡◌, ◌∙◌, List, sym, ap, subst, arith}
use Rattle.page_space.specs.Extents.{Space, layouts_start}
use Rattle.page_space.specs.RegionLaws.{IsSpace}
use Rattle.nursery.specs.Young.{Young}
use Rattle.free_runs.specs.FreeRuns.{AreFree}
use Rattle.heap_model.specs.Types.{Run}
use Rattle.scavenger.proofs.LoopGoing.{same_young}
use Rattle.scavenger.proofs.LoopStages.{has_come, comes_on, comes_to_copies, comes_to_end}
use Rattle.scavenger.proofs.LoopEnds.{has_ended, fill_fits, bound_below}
use Rattle.scavenger.proofs.SameSizes.{same_words}
use Rattle.scavenger.proofs.scavenging.follow_all.Goals as goal

pub scavenge_recorded-requires-clause-scavenging : goal.scavenge_recorded-requires-clause-scavenging
scavenge_recorded-requires-clause-scavenging c =
    let given = c.requires.scavenging in
    let first = has_come given.3 given.4.0 in
    let roots = comes_on first (c.scavenge_roots.ensures.scavenging given.0 given.1 given.2) in
    (given.0, given.1, given.2, layouts_start c.args.main.now.seat.space, roots.are, roots.state)

pub scavenge_recorded-requires-clause-room : goal.scavenge_recorded-requires-clause-room
scavenge_recorded-requires-clause-room c =
    let given = c.requires.scavenging in
    let first = has_come given.3 given.4.0 in
    let roots = comes_on first (c.scavenge_roots.ensures.scavenging given.0 given.1 given.2) in
    omega (
      arith,
      same_young roots.state.changes,
      same_young given.4.0.changes,
      c.requires.room,
      c.scavenge_roots.ensures.capacity,
    )

pub scavenge_copies-requires-clause-scavenging : goal.scavenge_copies-requires-clause-scavenging
scavenge_copies-requires-clause-scavenging c =
    let given = c.requires.scavenging in
    let first = has_come given.3 given.4.0 in
    let roots = comes_on first (c.scavenge_roots.ensures.scavenging given.0 given.1 given.2) in
    let end = layouts_start c.args.main.now.seat.space in
    let recorded = comes_to_copies roots.state.changes
    (comes_on roots (c.scavenge_recorded.ensures.scavenging given.0 given.1 given.2 end)) in
    (given.0, given.1, given.2, end, recorded.are, recorded.state)

pub scavenge_copies-requires-clause-room : goal.scavenge_copies-requires-clause-room
scavenge_copies-requires-clause-room c =
    let given = c.requires.scavenging in
    let first = has_come given.3 given.4.0 in
    let roots = comes_on first (c.scavenge_roots.ensures.scavenging given.0 given.1 given.2) in
    let end = layouts_start c.args.main.now.seat.space in
    let recorded = comes_to_copies roots.state.changes
    (comes_on roots (c.scavenge_recorded.ensures.scavenging given.0 given.1 given.2 end)) in
    omega (
      arith,
      same_young recorded.state.changes,
      same_young given.4.0.changes,
      c.requires.room,
      c.scavenge_roots.ensures.capacity,
      c.scavenge_recorded.ensures.capacity,
    )

pub empty_left-requires-clause-quiet : goal.empty_left-requires-clause-quiet
empty_left-requires-clause-quiet c =
    let given = c.requires.scavenging in
    let first = has_come given.3 given.4.0 in
    let roots = comes_on first (c.scavenge_roots.ensures.scavenging given.0 given.1 given.2) in
    let end = layouts_start c.args.main.now.seat.space in
    let recorded = comes_to_copies roots.state.changes
    (comes_on roots (c.scavenge_recorded.ensures.scavenging given.0 given.1 given.2 end)) in
    (comes_on recorded (c.scavenge_copies.ensures.scavenging given.0 given.1 given.2 end)).state.quiet

pub empty_left-requires-clause-half : goal.empty_left-requires-clause-half
empty_left-requires-clause-half c =
    let given = c.requires.scavenging in
    omega (arith, (has_come given.3 given.4.0).were.half, given.4.0.two)

pub empty_left-requires-clause-within : goal.empty_left-requires-clause-within
empty_left-requires-clause-within c =
    let given = c.requires.scavenging in
    let first = has_come given.3 given.4.0 in
    let roots = comes_on first (c.scavenge_roots.ensures.scavenging given.0 given.1 given.2) in
    let end = layouts_start c.args.main.now.seat.space in
    let recorded = comes_to_copies roots.state.changes
    (comes_on roots (c.scavenge_recorded.ensures.scavenging given.0 given.1 given.2 end)) in
    (comes_on recorded (c.scavenge_copies.ensures.scavenging given.0 given.1 given.2 end)).are.before_marks

pub overflow_sub-progress : goal.overflow_sub-progress
overflow_sub-progress c =
    let given = c.requires.scavenging in
    let first = has_come given.3 given.4.0 in
    let roots = comes_on first (c.scavenge_roots.ensures.scavenging given.0 given.1 given.2) in
    let end = layouts_start c.args.main.now.seat.space in
    let recorded = comes_to_copies roots.state.changes
    (comes_on roots (c.scavenge_recorded.ensures.scavenging given.0 given.1 given.2 end)) in
    let copies = comes_on recorded (c.scavenge_copies.ensures.scavenging given.0 given.1 given.2 end) in
    (fill_fits copies.were copies.state).0

pub overflow_add-handed_words : goal.overflow_add-handed_words
overflow_add-handed_words c =
    let given = c.requires.scavenging in
    let first = has_come given.3 given.4.0 in
    let roots = comes_on first (c.scavenge_roots.ensures.scavenging given.0 given.1 given.2) in
    let end = layouts_start c.args.main.now.seat.space in
    let recorded = comes_to_copies roots.state.changes
    (comes_on roots (c.scavenge_recorded.ensures.scavenging given.0 given.1 given.2 end)) in
    let copies = comes_on recorded (c.scavenge_copies.ensures.scavenging given.0 given.1 given.2 end) in
    omega (
      arith,
      (fill_fits copies.were copies.state).1,
      given.4.1,
      same_words given.4.0.begun copies.state.begun given.1,
      copies.were.room_end,
      copies.were.room,
    )

pub turn-requires : goal.turn-requires
turn-requires c =
    let given = c.requires.scavenging in
    let first = has_come given.3 given.4.0 in
    let roots = comes_on first (c.scavenge_roots.ensures.scavenging given.0 given.1 given.2) in
    let end = layouts_start c.args.main.now.seat.space in
    let recorded = comes_to_copies roots.state.changes
    (comes_on roots (c.scavenge_recorded.ensures.scavenging given.0 given.1 given.2 end)) in
    let copies = comes_on recorded (c.scavenge_copies.ensures.scavenging given.0 given.1 given.2 end) in
    let same = c.nursery_mut.ensures.young ∙ c.empty_left.ensures.changes.young ∙ copies.state.changes.young
    ∙ sym given.4.0.changes.young in
    let tied = ap (λ (young : Young). young.space.sizes.young) same
    ∙ ap (λ (space : Space). space.sizes.young) (c.requires.tied ∙ given.4.0.changes.seat.space) in
    omega (
      arith,
      (fill_fits copies.were copies.state).1,
      given.4.1,
      same_words given.4.0.begun copies.state.begun given.1,
      tied,
    )

pub returns-clause-ended : goal.returns-clause-ended
returns-clause-ended c start handed all are state counted =
    let first = has_come are state in
    let roots = comes_on first (c.scavenge_roots.ensures.scavenging start handed all) in
    let end = layouts_start c.args.main.now.seat.space in
    let recorded = comes_to_copies roots.state.changes
    (comes_on roots (c.scavenge_recorded.ensures.scavenging start handed all end)) in
    let copies = comes_on recorded (c.scavenge_copies.ensures.scavenging start handed all end) in
    let last = comes_to_end state.changes recorded.state.changes copies.state in
    let limits : IsSpace start.seat.space =
    subst (λ (space : Space). IsSpace space) state.changes.seat.space c.requires.limits in
    has_ended start handed c.scavenge_copies.new.main c.empty_left.new.main c.args.spaces.now all
    c.scavenge_copies.new.worker.progress c.args.spaces.now.half c.args.handed_words c.nursery_mut.result.now
    c.turn.new.self limits copies.were copies.were.half last
    (counted ∙ same_words state.begun last.begun handed) c.empty_left.ensures.emptied c.empty_left.ensures.changes
    c.empty_left.ensures.free (c.empty_left.ensures.recorded (bound_below copies.state)) c.nursery_mut.ensures.young
    c.turn.ensures

pub returns-clause-free : goal.returns-clause-free
returns-clause-free c =
    subst (λ (rows : List (List Run)). AreFree rows) (sym c.empty_left.ensures.free) c.free_runs_fit.ensures
