-- Each pair that waits for the key is one of a marked table, and the key is marked.
use Rattle.std.proofs.Common.{◌≡◌, ℕ, ◌+◌, ◌-◌, subst, arith}
use Rattle.std.proofs.lemmas.Option.{slice_get_within}
use Rattle.write_barrier.specs.MutatorState.{heap_of}
use Rattle.ephemeron_mark.proofs.LiveStands.{before_marks, stands_below}
use Rattle.ephemeron_mark.proofs.GrownLists.{grows_nothing, grows_again, stays_marked}
use Rattle.ephemeron_mark.proofs.WaitingKeys.{waiting_stays, value_is_live, AreWoken, woken_behind, woken_before}
use Rattle.ephemeron_mark.proofs.ephemerons.wake.Goals as goal

pub last-left-requires : goal.last-left-requires
last-left-requires c =
    let stands = c.requires.marking.stand c.args.key c.requires.marked in
    omega (arith, stands_below c.requires.marking.whole c.args.key stands, c.requires.waits.bound)

pub loop-left-init : goal.loop-left-init
loop-left-init c = record {
  grown = grows_nothing c.requires.marking;
  found = c.last-left.ensures.last.found;
  woken = woken_behind (heap_of c.args.main.now) c.args.waiting.now c.args.cells.now c.args.key c.last-left.result
      c.last-left.ensures.last;
}

pub slot-requires : goal.slot-requires
slot-requires c =
    let place : ℕ = c.loop-left.left - 1 in
    let there = c.loop-left.invariant.found place (omega (arith, c.loop-left-test.true)) in
    omega (arith, slice_get_within c.args.waiting.now.keys place c.args.key there, c.last-left.ensures.as_many)

pub mark_target-requires-clause-within : goal.mark_target-requires-clause-within
mark_target-requires-clause-within c =
    let place : ℕ = c.loop-left.left - 1 in
    let there = c.loop-left.invariant.found place (omega (arith, c.loop-left-test.true)) in
    let one = c.requires.waits.each c.args.key c.slot.result
    (record { place = place; of_key = there; of_slot = c.slot.ensures }) in
    before_marks c.args.main.now.seat.space c.slot.result one.pair.within

pub mark_target-requires-clause-live : goal.mark_target-requires-clause-live
mark_target-requires-clause-live c value refers =
    let place : ℕ = c.loop-left.left - 1 in
    let there = c.loop-left.invariant.found place (omega (arith, c.loop-left-test.true)) in
    let grown = c.loop-left.invariant.grown in
    let one = (waiting_stays grown c.requires.waits).each c.args.key c.slot.result
    (record { place = place; of_key = there; of_slot = c.slot.ensures }) in
    value_is_live one.of_key c.slot.result c.args.key value one.pair one.refers refers
    (stays_marked c.args.key grown c.requires.marked)

pub earlier-left-requires : goal.earlier-left-requires
earlier-left-requires c =
    let place : ℕ = c.loop-left.left - 1 in
    let there = c.loop-left.invariant.found place (omega (arith, c.loop-left-test.true)) in
    slice_get_within c.args.waiting.now.keys place c.args.key there

pub loop-left-preserved : goal.loop-left-preserved
loop-left-preserved c =
    let place : ℕ = c.loop-left.left - 1 in
    let left : c.loop-left.left ≡ place + 1 = omega (arith, c.loop-left-test.true) in
    let there = c.loop-left.invariant.found place (omega (arith, c.loop-left-test.true)) in
    let earlier = c.earlier-left.ensures c.args.key there in
    record {
      grown = grows_again c.loop-left.invariant.grown c.mark_target.ensures.grown;
      found = earlier.found;
      woken = woken_before c.args.waiting.now c.args.key place c.earlier-left.result c.slot.result
          c.mark_target.ensures.grown
          (subst (λ (n : ℕ). AreWoken (heap_of c.args.main.now) c.args.waiting.now c.args.key c.loop-left.cells n) left
          c.loop-left.invariant.woken) c.slot.ensures earlier c.mark_target.ensures.marked;
    }
