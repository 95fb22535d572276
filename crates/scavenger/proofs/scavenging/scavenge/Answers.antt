-- A scavenge of a heap that shows a graph begins, goes on and ends.
use Rattle.std.proofs.Common.{◌≡◌, ◌∙◌, refl, sym, ap, subst, arith}
use Rattle.nursery.specs.Young.{IsYoung}
use Rattle.write_barrier.specs.MutatorState.{Mutator, MainShows}
use Rattle.scavenger.specs.Starts.{nothing_handed}
use Rattle.scavenger.proofs.Ended.{ended_is, ended_keeps}
use Rattle.scavenger.proofs.FirstSegments.{hands_nothing}
use Rattle.scavenger.proofs.LoopStages.{comes_first}
use Rattle.scavenger.proofs.scavenging.scavenge.Goals as goal

pub follow_all-requires-clause-tied : goal.follow_all-requires-clause-tied
follow_all-requires-clause-tied c =
    subst (λ (main : Mutator). main.young.space ≡ main.seat.space)
    (sym c.begin-worker.ensures.same) c.requires.shown.1.tied.space

pub follow_all-requires-clause-scavenging : goal.follow_all-requires-clause-scavenging
follow_all-requires-clause-scavenging c =
    let main = c.args.main.now in
    let all = c.args.promote_all in
    let handed = nothing_handed main.seat.space in
    let begun = c.begin-worker.ensures in
    let first = comes_first main c.begin-worker.new.main c.requires.shown.0 c.begin-worker.result.0 all
    c.begin-worker.result.1.progress
    c.begin-worker.result.1.list.items c.requires.shown.1 c.requires.quiet begun.limits begun.young begun.free
    begun.same begun.spaces
    begun.progress begun.empty in (
      main,
      handed,
      all,
      first.are,
      (first.state, sym (hands_nothing _ first.state.fixed first.state.begun refl).none),
    )

pub follow_all-requires-clause-room : goal.follow_all-requires-clause-room
follow_all-requires-clause-room c =
    omega (
      arith,
      ap (λ (main : Mutator). main.seat.space.sizes.young) c.begin-worker.ensures.same,
      c.requires.room,
      c.begin-worker.ensures.capacity,
    )

pub returns-clause-scavenged : goal.returns-clause-scavenged
returns-clause-scavenged c =
    let main = c.args.main.now in
    let all = c.args.promote_all in
    let begun = c.begin-worker.ensures in
    let first = comes_first main c.begin-worker.new.main c.requires.shown.0 c.begin-worker.result.0 all
    c.begin-worker.result.1.progress
    c.begin-worker.result.1.list.items c.requires.shown.1 c.requires.quiet begun.limits begun.young begun.free
    begun.same begun.spaces
    begun.progress begun.empty in
    let ended = c.follow_all.ensures.ended main (nothing_handed main.seat.space) all first.are first.state
    (sym (hands_nothing _ first.state.fixed first.state.begun refl).none) in
    let young = subst (λ (one : Mutator). IsYoung one.young) begun.same begun.young in
    (ended_is c.requires.shown.0 c.requires.shown.1 young c.follow_all.ensures.free ended).scavenges

pub returns-clause-alone : goal.returns-clause-alone
returns-clause-alone c =
    let main = c.args.main.now in
    let all = c.args.promote_all in
    let begun = c.begin-worker.ensures in
    let first = comes_first main c.begin-worker.new.main c.requires.shown.0 c.begin-worker.result.0 all
    c.begin-worker.result.1.progress
    c.begin-worker.result.1.list.items c.requires.shown.1 c.requires.quiet begun.limits begun.young begun.free
    begun.same begun.spaces
    begun.progress begun.empty in
    let ended = c.follow_all.ensures.ended main (nothing_handed main.seat.space) all first.are first.state
    (sym (hands_nothing _ first.state.fixed first.state.begun refl).none) in
    let young = subst (λ (one : Mutator). IsYoung one.young) begun.same begun.young in
    (ended_is c.requires.shown.0 c.requires.shown.1 young c.follow_all.ensures.free ended).alone refl

pub returns-clause-keeps : goal.returns-clause-keeps
returns-clause-keeps c =
    let main = c.args.main.now in
    let all = c.args.promote_all in
    let begun = c.begin-worker.ensures in
    let first = comes_first main c.begin-worker.new.main c.requires.shown.0 c.begin-worker.result.0 all
    c.begin-worker.result.1.progress
    c.begin-worker.result.1.list.items c.requires.shown.1 c.requires.quiet begun.limits begun.young begun.free
    begun.same begun.spaces
    begun.progress begun.empty in
    let ended = c.follow_all.ensures.ended main (nothing_handed main.seat.space) all first.are first.state
    (sym (hands_nothing _ first.state.fixed first.state.begun refl).none) in
    let young = subst (λ (one : Mutator). IsYoung one.young) begun.same begun.young in
    ended_keeps young c.follow_all.ensures.free ended
