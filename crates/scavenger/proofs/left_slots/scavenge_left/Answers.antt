-- The slots that were left are followed in order.
use Rattle.std.proofs.Common.{◌≡◌, ◌∙◌, ℕ, ◌+◌, ◌<◌, List, ◌∷◌, length, drop, refl, sym, ap, subst, arith}
use Rattle.std.specs.List.{Contains}
use Rattle.std.proofs.lemmas.List.{at_drop_more, drop_all}
use Rattle.std.proofs.lemmas.Option.{get_or_from_slice_get, slice_get_within}
use Rattle.scavenger.specs.Walking.{at_left}
use Rattle.scavenger.specs.Handing.{HasLeft}
use Rattle.scavenger.proofs.LoopGoing.{same_spaces, same_young, changes_since, may_follow}
use Rattle.scavenger.proofs.LoopLeft.{left_goes_on, left_done}
use Rattle.scavenger.proofs.left_slots.scavenge_left.Goals as goal

pub loop-number-init : goal.loop-number-init
loop-number-init c = record { scavenging = λ start handed all are has. has; capacity = refl }

pub follow-requires-clause-quiet : goal.follow-requires-clause-quiet
follow-requires-clause-quiet c =
    let given = c.requires.scavenging in
    (c.loop-number.invariant.scavenging given.0 given.1 given.2 given.3 given.4).state.quiet

pub follow-requires-clause-spaces : goal.follow-requires-clause-spaces
follow-requires-clause-spaces c =
    let given = c.requires.scavenging in
    let has = c.loop-number.invariant.scavenging given.0 given.1 given.2 given.3 given.4 in
    let left : List ℕ = c.args.left.now in
    let slot : ℕ = c.slot_at-slot.result in
    let number : ℕ = c.loop-number.number in
    let there : Contains left slot = (
      number,
      slice_get_within left number slot c.slot_at-slot.ensures,
      get_or_from_slice_get left number slot slot c.slot_at-slot.ensures,
    ) in
    let live = has.live slot there in (
      given.2,
      same_spaces c.args.spaces.now (changes_since given.4.state.changes has.state.changes) given.3,
      may_follow has.state slot live.0 live.1,
    )

pub follow-requires-clause-room : goal.follow-requires-clause-room
follow-requires-clause-room c =
    let given = c.requires.scavenging in
    let has = c.loop-number.invariant.scavenging given.0 given.1 given.2 given.3 given.4 in
    let same = same_young (changes_since given.4.state.changes has.state.changes) in
    omega (arith, same, c.requires.room, c.loop-number.invariant.capacity)

pub loop-number-preserved : goal.loop-number-preserved
loop-number-preserved c = record {
  scavenging = λ start handed all are begun.
      let has = c.loop-number.invariant.scavenging start handed all are begun in
      let left : List ℕ = c.args.left.now in
      let slot : ℕ = c.slot_at-slot.result in
      let number : ℕ = c.loop-number.number in
      let rest : List ℕ = drop (number + 1) left in
      let inside : number < length left = slice_get_within left number slot c.slot_at-slot.ensures in
      let first : drop number left ≡ slot ∷ rest =
      at_drop_more (λ (xs : List ℕ). xs) left number 0 inside
      ∙ ap (λ (one : ℕ). one ∷ rest) (get_or_from_slice_get left number slot 0 c.slot_at-slot.ensures) in
      let here : HasLeft start handed c.loop-number.main all c.loop-number.worker.progress
      c.loop-number.worker.list.items left (slot ∷ rest) =
      subst (λ (slots : List ℕ). HasLeft start handed c.loop-number.main all c.loop-number.worker.progress
      c.loop-number.worker.list.items left slots) first has in
      let there : Contains left slot = (
        number,
        inside,
        get_or_from_slice_get left number slot slot c.slot_at-slot.ensures,
      ) in
      let live = here.live slot there in
      left_goes_on left rest slot here
      (c.follow.ensures.followed start handed all (at_left start.seat.space (slot ∷ rest)) here.state live.0
      (same_spaces c.args.spaces.now (changes_since begun.state.changes has.state.changes) are) live.1);
  capacity = c.follow.ensures.capacity ∙ c.loop-number.invariant.capacity;
}

pub returns-clause-scavenging : goal.returns-clause-scavenging
returns-clause-scavenging c start handed all are begun =
    let has = c.loop-number.invariant.scavenging start handed all are begun in
    let left : List ℕ = c.args.left.now in
    left_done c.loop-number.main left (drop c.loop-number.number left)
    (drop_all c.loop-number.number left
    (omega (arith, c.loop-number-test.false, c.loop-number.auto.number-end)))
    has.state.changes.seat.space has
