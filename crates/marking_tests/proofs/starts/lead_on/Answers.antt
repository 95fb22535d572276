-- One cell more is looked at at each place.
use Rattle.std.proofs.Common.{◌≡◌, ℕ, ◌<◌, inl, inr, List, Some, get_or, slice_get, length, sym, ◌∙◌, subst, arith}
use Rattle.std.proofs.lemmas.Bool.{cases_lt}
use Rattle.std.proofs.lemmas.Option.{same_Some, slice_get-get_or}
use Rattle.heap_model.specs.Slots.{IsWeakCellAt}
use Rattle.live_cells.specs.Live.{HasSlotTo}
use Rattle.live_cells.proofs.MarkedLinks.{element_at}
use Rattle.write_barrier.specs.MutatorState.{heap_of}
use Rattle.marking_tests.proofs.starts.lead_on.Goals as goal

pub loop-place-init : goal.loop-place-init
loop-place-init c = λ place from to below is none slot. absurd (omega (arith, below))

pub loop-place-preserved : goal.loop-place-preserved
loop-place-preserved c =
    let seen : List ℕ = c.args.seen.now in
    let heap = heap_of c.args.main.now in
    let next : ℕ = c.loop-place.place in
    let within : next < length seen = omega (arith, c.loop-place-test.true) in
    λ place from to below is none slot. elim (cases_lt place next) [
      | inl earlier ↦ c.loop-place.invariant place from to earlier is none slot
      | inr last ↦
          let same : place ≡ next = omega (arith, last, below) in
          let here : slice_get seen next ≡ Some from = subst (λ (one : ℕ). slice_get seen one ≡ Some from) same is in
          let read : get_or seen next 0 ≡ from =
          same_Some _ _ (sym (slice_get-get_or seen next 0 within) ∙ here) in
          c.leads_on.ensures c.if-not-leads_on.false to
          (λ weak. none (subst (IsWeakCellAt heap) read weak))
          (subst (λ (one : ℕ). HasSlotTo heap one to) (sym read) slot)
    ]

pub returns : goal.returns
returns c _ from to there none slot =
    let seen : List ℕ = c.args.seen.now in
    c.loop-place.invariant there.0 from to (omega (arith, there.1, c.loop-place-test.false))
    (element_at seen from there) none slot
