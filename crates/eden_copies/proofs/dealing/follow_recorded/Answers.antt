-- The next recorded slot is followed, if its number is dealt.
use Rattle.std.proofs.Common.{◌≡◌, ◌∙◌, ℕ, ◌+◌, ◌-◌, ◌≤◌, length, subst, arith}
use Rattle.eden_copies.specs.Eden.{Deal, deal_of}
use Rattle.eden_copies.specs.Copied.{IsDealing}
use Rattle.eden_copies.proofs.KnownCells.{eden_before_marks}
use Rattle.eden_copies.proofs.Stepping.{goes_again}
use Rattle.eden_copies.proofs.DealtSlots.{AreSplit, next_outer, split_behind, split_over}
use Rattle.eden_copies.proofs.DealtSlots.{may_deal, deals, skips}
use Rattle.eden_copies.proofs.dealing.follow_recorded.Goals as goal
use Rattle.eden_copies.proofs.dealing.follow_recorded.Goals.{then-number-every, else-number-every}

pub follow_slot-requires-clause-may : goal.follow_slot-requires-clause-may
follow_slot-requires-clause-may g c =
    let own = c.args.words.now in
    let recorded = c.args.recorded.now in
    let inv = c.recorded.invariant in
    let next = next_outer own recorded c.recorded.from c.recorded.number c.in-Some.slot inv.split
    c.in-Some.ensures.ascending c.in-Some.ensures.next inv.behind in
    may_deal own (deal_of recorded.slots c.args.first c.args.every) c.recorded.number c.recorded.worker c.recorded.seat
    inv.dealing c.requires.may c.count-count.ensures.counted (inv.goes.most ∙ c.requires.ready.most) c.in-Some.slot
    next.stands c.if-number-every.true

pub follow_slot-requires-clause-there : goal.follow_slot-requires-clause-there
follow_slot-requires-clause-there g c =
    omega (arith, c.in-Some.ensures.below, c.requires.bound, eden_before_marks c.args.words.now.space)

pub recorded-preserved : goal.recorded-preserved
recorded-preserved g c =
    let own = c.args.words.now in
    let recorded = c.args.recorded.now in
    let deal : Deal = deal_of recorded.slots c.args.first c.args.every in
    let inv = c.recorded.invariant in
    let worker = c.recorded.worker in
    let seat = c.recorded.seat in
    let number : ℕ = c.recorded.number in
    let slot : ℕ = c.in-Some.slot in
    let count : ℕ = number - own.space.variables in
    let next = next_outer own recorded c.recorded.from number slot inv.split c.in-Some.ensures.ascending
    c.in-Some.ensures.next inv.behind in
    let more : count + 1 ≡ number + 1 - own.space.variables = omega (arith, inv.behind) in
    let split : AreSplit recorded.slots (slot + 1) (number + 1 - own.space.variables) =
    subst (AreSplit recorded.slots (slot + 1)) more
    (split_behind recorded.slots c.recorded.from count slot inv.split c.in-Some.ensures.ascending next.inside next.is
    c.in-Some.ensures.next.not_below) in
    let behind : own.space.variables ≤ number + 1 = omega (arith, inv.behind) in
    let below : slot + 1 ≤ recorded.bound = omega (arith, c.in-Some.ensures.below) in
    elim c.if-number-every.branch [
      | then-number-every w ↦
          let step = deals own deal number worker seat inv.dealing c.requires.may c.count-count.ensures.counted
          (inv.goes.most ∙ c.requires.ready.most) slot next.stands w.if-number-every.true w.follow_slot.new.worker
          w.follow_slot.new.seat w.follow_slot.ensures.now w.follow_slot.ensures.followed in
          rw w.worker-is (rw w.seat-is (record {
            dealing = step.dealing;
            goes = goes_again c.args.worker.now worker w.follow_slot.new.worker c.args.seat.now seat
                w.follow_slot.new.seat inv.goes step.goes;
            split = split;
            behind = behind;
            below = below;
          }))
      | else-number-every w ↦
          rw w.worker-is (rw w.seat-is (record {
            dealing = skips own deal number worker seat inv.dealing w.if-number-every.false;
            goes = inv.goes;
            split = split;
            behind = behind;
            below = below;
          }))
    ]

pub returns-clause-dealing : goal.returns-clause-dealing
returns-clause-dealing g c =
    let own = c.args.words.now in
    let recorded = c.args.recorded.now in
    let inv = c.recorded.invariant in
    let over = split_over recorded c.recorded.from (c.recorded.number - own.space.variables) inv.split
    c.in_default.ensures.next in
    let all : c.recorded.number ≡ own.space.variables + length recorded.slots = omega (arith, over, inv.behind) in
    subst (λ (n : ℕ). IsDealing own (deal_of recorded.slots c.args.first c.args.every) n c.recorded.worker
    c.recorded.seat) all inv.dealing
