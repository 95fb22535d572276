-- The recorded slots are followed in order.
use Rattle.std.proofs.Common.{◌∙◌, ℕ, refl, sym, subst, arith}
use Rattle.page_space.proofs.LawsHold.{kinds_by_number}
use Rattle.scavenger.specs.Walking.{Scavenging, at_recorded}
use Rattle.scavenger.proofs.LoopGoing.{same_spaces, same_young, same_eden, changes_since, may_follow}
use Rattle.scavenger.proofs.LoopRecorded.{recorded_is_live, recorded_in_page, reaches_recorded, recorded_done}
use Rattle.scavenger.proofs.LoopRecorded.{recorded_go_on}
use Rattle.scavenger.proofs.scanning.scavenge_recorded.Goals as goal

pub recorded-init : goal.recorded-init
recorded-init c = record { scavenging = λ start handed all end are state. state; capacity = refl }

pub follow-requires-clause-quiet : goal.follow-requires-clause-quiet
follow-requires-clause-quiet c =
    let given = c.requires.scavenging in
    (c.recorded.invariant.scavenging given.0 given.1 given.2 given.3 given.4 given.5).quiet

pub follow-requires-clause-spaces : goal.follow-requires-clause-spaces
follow-requires-clause-spaces c =
    let given = c.requires.scavenging in
    let state = c.recorded.invariant.scavenging given.0 given.1 given.2 given.3 given.4 given.5 in
    let live = recorded_is_live state c.in-Some.slot c.in-Some.ensures.next.stands in (
      given.2,
      same_spaces c.args.spaces.now (changes_since given.5.changes state.changes) given.4,
      may_follow state c.in-Some.slot live.0 live.1,
    )

pub follow-requires-clause-room : goal.follow-requires-clause-room
follow-requires-clause-room c =
    let given = c.requires.scavenging in
    let state = c.recorded.invariant.scavenging given.0 given.1 given.2 given.3 given.4 given.5 in
    let same = same_young (changes_since given.5.changes state.changes) in
    omega (arith, same, c.requires.room, c.recorded.invariant.capacity)

pub overflow_add-from : goal.overflow_add-from
overflow_add-from c =
    let given = c.requires.scavenging in
    let state = c.recorded.invariant.scavenging given.0 given.1 given.2 given.3 given.4 given.5 in
    let below = recorded_in_page state c.in-Some.slot c.in-Some.ensures.below in
    let kinds = kinds_by_number c.args.main.now.seat.space in
    let same = same_eden given.5.changes in
    omega (arith, below, same, kinds.roots, kinds.layouts, kinds.marks, c.addresses_fit.ensures.fit)

pub recorded-smaller : goal.recorded-smaller
recorded-smaller c =
    let given = c.requires.scavenging in
    let state = c.recorded.invariant.scavenging given.0 given.1 given.2 given.3 given.4 given.5 in
    let below = recorded_in_page state c.in-Some.slot c.in-Some.ensures.below in
    let same = same_eden given.5.changes in
    omega (arith, below, same, c.in-Some.ensures.next.not_below)

pub recorded-preserved : goal.recorded-preserved
recorded-preserved c = record {
  scavenging = λ start handed all end are begun.
      let state = c.recorded.invariant.scavenging start handed all end are begun in
      let slot : ℕ = c.in-Some.slot in
      let reached = (reaches_recorded state slot c.in-Some.ensures.next).after in
      let live = recorded_is_live reached slot c.in-Some.ensures.next.stands in
      recorded_go_on
      (c.follow.ensures.followed start handed all (at_recorded end slot) reached live.0
      (same_spaces c.args.spaces.now (changes_since begun.changes state.changes) are) live.1);
  capacity = c.follow.ensures.capacity ∙ c.recorded.invariant.capacity;
}

pub returns-clause-scavenging : goal.returns-clause-scavenging
returns-clause-scavenging c start handed all end are begun =
    let state = c.recorded.invariant.scavenging start handed all end are begun in
    subst (λ (eden : ℕ). Scavenging start handed c.recorded.main all c.recorded.worker.progress
    c.recorded.worker.list.items
    (at_recorded end eden)) (sym (same_eden begun.changes)) (recorded_done state c.in_default.ensures.next)
