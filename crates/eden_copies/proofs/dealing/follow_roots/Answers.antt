-- The first root word of a variable is followed, if its number is dealt.
use Rattle.std.proofs.Common.{◌∙◌, ℕ, ◌+◌, ◌<◌, List, Some, sym, ap, subst}
use Rattle.page_space.specs.Extents.{marks_start}
use Rattle.eden_copies.specs.Eden.{deal_of, MayCopy}
use Rattle.eden_copies.specs.Copied.{IsDealing}
use Rattle.eden_copies.proofs.Stepping.{goes_again}
use Rattle.eden_copies.proofs.DealtSlots.{Dealt, root_found, root_slot, root_there, may_deal, deals, skips}
use Rattle.eden_copies.proofs.dealing.follow_roots.Goals as goal
use Rattle.eden_copies.proofs.dealing.follow_roots.Goals.{then-variable-every, else-variable-every}

pub follow_slot-requires-clause-may : goal.follow_slot-requires-clause-may
follow_slot-requires-clause-may g c =
    let (recorded, (may, begun)) = c.requires.dealing in
    let own = c.args.words.now in
    let variable : ℕ = c.loop-variable.variable in
    let inv = c.loop-variable.invariant in
    let found = root_found own c.regions-regions.result variable c.variables-variable-end.result c.root_at-slot.result
    c.regions-regions.ensures.regions c.loop-variable-test.true c.variables-variable-end.ensures
    c.root_at-slot.ensures.at in
    may_deal own (deal_of recorded c.args.first c.args.every) variable c.loop-variable.worker c.loop-variable.seat
    (inv.dealing recorded may begun) may c.count-count.ensures.counted (inv.goes.most ∙ c.requires.ready.most)
    c.root_at-slot.result (root_slot own.space recorded variable found.0 ∙ ap Some (sym found.1))
    c.if-variable-every.true

pub follow_slot-requires-clause-there : goal.follow_slot-requires-clause-there
follow_slot-requires-clause-there g c =
    let own = c.args.words.now in
    let variable : ℕ = c.loop-variable.variable in
    let found = root_found own c.regions-regions.result variable c.variables-variable-end.result c.root_at-slot.result
    c.regions-regions.ensures.regions c.loop-variable-test.true c.variables-variable-end.ensures
    c.root_at-slot.ensures.at in
    subst (λ (n : ℕ). n < marks_start own.space) (sym found.1) (root_there own.space variable found.0)

pub loop-variable-preserved : goal.loop-variable-preserved
loop-variable-preserved g c =
    let (recorded, (may, begun)) = c.requires.dealing in
    let own = c.args.words.now in
    let variable : ℕ = c.loop-variable.variable in
    let worker = c.loop-variable.worker in
    let seat = c.loop-variable.seat in
    let inv = c.loop-variable.invariant in
    elim c.if-variable-every.branch [
      | then-variable-every w ↦
          let found = root_found own c.regions-regions.result variable c.variables-variable-end.result
          w.root_at-slot.result c.regions-regions.ensures.regions c.loop-variable-test.true
          c.variables-variable-end.ensures w.root_at-slot.ensures.at in
          let step : (recorded : List ℕ) → MayCopy own (deal_of recorded c.args.first c.args.every)
          → IsDealing own (deal_of recorded c.args.first c.args.every) 0 c.args.worker.now c.args.seat.now
          → Dealt own (deal_of recorded c.args.first c.args.every) (variable + 1) worker w.follow_slot.new.worker seat
          w.follow_slot.new.seat =
          λ recorded may begun.
          deals own (deal_of recorded c.args.first c.args.every) variable worker seat
          (inv.dealing recorded may begun) may c.count-count.ensures.counted (inv.goes.most ∙ c.requires.ready.most)
          w.root_at-slot.result (root_slot own.space recorded variable found.0 ∙ ap Some (sym found.1))
          w.if-variable-every.true w.follow_slot.new.worker w.follow_slot.new.seat w.follow_slot.ensures.now
          w.follow_slot.ensures.followed in
          rw w.worker-is (rw w.seat-is (record {
            dealing = λ recorded may begun. (step recorded may begun).dealing;
            goes = goes_again c.args.worker.now worker w.follow_slot.new.worker c.args.seat.now seat
                w.follow_slot.new.seat inv.goes (step recorded may begun).goes;
          }))
      | else-variable-every w ↦
          rw w.worker-is (rw w.seat-is (record {
            dealing = λ recorded may begun.
                skips own (deal_of recorded c.args.first c.args.every) variable worker seat
                (inv.dealing recorded may begun) w.if-variable-every.false;
            goes = inv.goes;
          }))
    ]
