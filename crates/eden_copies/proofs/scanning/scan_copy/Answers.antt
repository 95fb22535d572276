-- Each offset of the copy is a slot, which is followed, or is passed over.
use Rattle.std.proofs.Common.{◌≡◌, ◌∙◌, ℕ, ◌+◌, ◌<◌, List, sym, subst, arith, rules}
use Rattle.std.specs.List.{Contains}
use Rattle.std.proofs.lemmas.Bool.{false≢true}
use Rattle.eden_copies.specs.Eden.{Deal, size_in, slots_in, MayCopy}
use Rattle.eden_copies.specs.Copied.{IsCopying}
use Rattle.eden_copies.proofs.Stepping.{goes_again}
use Rattle.eden_copies.proofs.ScannedSlots.{passes_offset}
use Rattle.eden_copies.proofs.CopySteps.{Scanned, at_slot, in_more, scans}
use Rattle.eden_copies.proofs.scanning.scan_copy.Goals as goal
use Rattle.eden_copies.proofs.scanning.scan_copy.Goals.{then-is_scavenge_slot, else-is_scavenge_slot}

pub overflow_add-home : goal.overflow_add-home
overflow_add-home g c =
    let (deal, may, begun) = c.requires.copying in
    let at = at_slot c.args.words.now deal c.args.home c.loop-offset.offset c.args.worker.now c.loop-offset.worker
    c.args.seat.now c.loop-offset.seat may c.count-count.ensures.counted c.requires.ready.most
    c.loop-offset.invariant.goes (c.loop-offset.invariant.copying deal may begun) c.requires.among
    (omega (arith, c.loop-offset-test.true, c.known_cell-cell.ensures.size)) in
    let range : c.count-count.result < 4294967296 = search rules in
    omega (arith, range, c.count-count.ensures.count, at.there)

pub overflow_add-home-then-is_scavenge_slot : goal.overflow_add-home-then-is_scavenge_slot
overflow_add-home-then-is_scavenge_slot g c =
    let (deal, may, begun) = c.requires.copying in
    let at = at_slot c.args.words.now deal c.args.home c.loop-offset.offset c.args.worker.now c.loop-offset.worker
    c.args.seat.now c.loop-offset.seat may c.count-count.ensures.counted c.requires.ready.most
    c.loop-offset.invariant.goes (c.loop-offset.invariant.copying deal may begun) c.requires.among
    (omega (arith, c.loop-offset-test.true, c.known_cell-cell.ensures.size)) in
    let goes = c.loop-offset.invariant.goes in
    omega (arith, at.inside, at.fits, goes.start, goes.most, c.requires.ready.fits)

pub scan_slot-requires-clause-may : goal.scan_slot-requires-clause-may
scan_slot-requires-clause-may g c =
    let (deal, may, begun) = c.requires.copying in
    let at = at_slot c.args.words.now deal c.args.home c.loop-offset.offset c.args.worker.now c.loop-offset.worker
    c.args.seat.now c.loop-offset.seat may c.count-count.ensures.counted c.requires.ready.most
    c.loop-offset.invariant.goes (c.loop-offset.invariant.copying deal may begun) c.requires.among
    (omega (arith, c.loop-offset-test.true, c.known_cell-cell.ensures.size)) in
    at.may (subst (λ (offsets : List ℕ). Contains offsets c.loop-offset.offset) c.known_cell-cell.ensures.slots
    (c.is_scavenge_slot.ensures.0 c.if-is_scavenge_slot.true))

pub scan_slot-requires-clause-there : goal.scan_slot-requires-clause-there
scan_slot-requires-clause-there g c =
    let (deal, may, begun) = c.requires.copying in
    let at = at_slot c.args.words.now deal c.args.home c.loop-offset.offset c.args.worker.now c.loop-offset.worker
    c.args.seat.now c.loop-offset.seat may c.count-count.ensures.counted c.requires.ready.most
    c.loop-offset.invariant.goes (c.loop-offset.invariant.copying deal may begun) c.requires.among
    (omega (arith, c.loop-offset-test.true, c.known_cell-cell.ensures.size)) in
    at.there

pub scan_slot-requires-clause-ends : goal.scan_slot-requires-clause-ends
scan_slot-requires-clause-ends g c =
    let (deal, may, begun) = c.requires.copying in
    let at = at_slot c.args.words.now deal c.args.home c.loop-offset.offset c.args.worker.now c.loop-offset.worker
    c.args.seat.now c.loop-offset.seat may c.count-count.ensures.counted c.requires.ready.most
    c.loop-offset.invariant.goes (c.loop-offset.invariant.copying deal may begun) c.requires.among
    (omega (arith, c.loop-offset-test.true, c.known_cell-cell.ensures.size)) in
    at.inside

pub scan_slot-requires-clause-few : goal.scan_slot-requires-clause-few
scan_slot-requires-clause-few g c =
    let (deal, may, begun) = c.requires.copying in
    let at = at_slot c.args.words.now deal c.args.home c.loop-offset.offset c.args.worker.now c.loop-offset.worker
    c.args.seat.now c.loop-offset.seat may c.count-count.ensures.counted c.requires.ready.most
    c.loop-offset.invariant.goes (c.loop-offset.invariant.copying deal may begun) c.requires.among
    (omega (arith, c.loop-offset-test.true, c.known_cell-cell.ensures.size)) in
    at.few

pub loop-offset-preserved : goal.loop-offset-preserved
loop-offset-preserved g c =
    let (deal, may, begun) = c.requires.copying in
    let own = c.args.words.now in
    let home = c.args.home in
    let offset : ℕ = c.loop-offset.offset in
    let worker = c.loop-offset.worker in
    let seat = c.loop-offset.seat in
    let inv = c.loop-offset.invariant in
    let among : Contains worker.copies home =
    in_more c.args.worker.now worker c.args.seat.now seat home inv.goes c.requires.among in
    let low : offset < size_in own home.from =
    omega (arith, c.loop-offset-test.true, c.known_cell-cell.ensures.size) in
    let next : home.to + (offset + 1) ≡ home.to + offset + 1 = omega arith in
    elim c.if-is_scavenge_slot.branch [
      | then-is_scavenge_slot w ↦
          let visited : Contains (slots_in own home.from) offset =
          subst (λ (offsets : List ℕ). Contains offsets offset) c.known_cell-cell.ensures.slots
          (c.is_scavenge_slot.ensures.0 w.if-is_scavenge_slot.true) in
          let step : (deal : Deal) → MayCopy own deal → IsCopying own deal home.to c.args.worker.now c.args.seat.now
          → Scanned own deal (home.to + (offset + 1)) worker w.scan_slot.new.worker seat w.scan_slot.new.seat =
          λ deal may begun.
          scans own deal home offset worker seat may c.count-count.ensures.counted (inv.goes.most ∙
          c.requires.ready.most)
          (inv.copying deal may begun) among low w.scan_slot.new.worker w.scan_slot.new.seat (home.to + (offset + 1))
          next visited w.scan_slot.ensures in
          rw w.worker-is (rw w.seat-is (record {
            copying = λ deal may begun. (step deal may begun).copying;
            goes = goes_again c.args.worker.now worker w.scan_slot.new.worker c.args.seat.now seat
                w.scan_slot.new.seat inv.goes (step deal may begun).goes;
          }))
      | else-is_scavenge_slot w ↦
          let none : Contains (slots_in own home.from) offset → ⊥ =
          λ visited. false≢true (sym w.if-is_scavenge_slot.false
          ∙ c.is_scavenge_slot.ensures.1 (subst (λ (offsets : List ℕ). Contains offsets offset)
          (sym c.known_cell-cell.ensures.slots) visited)) in
          rw w.worker-is (rw w.seat-is (record {
            copying = λ deal may begun.
                passes_offset own deal home offset worker seat (inv.copying deal may begun) among low
                (home.to + (offset + 1)) next none;
            goes = inv.goes;
          }))
    ]

pub returns-clause-copying : goal.returns-clause-copying
returns-clause-copying g c = λ deal may begun.
    let own = c.args.words.now in
    let all : c.loop-offset.offset ≡ size_in own c.args.home.from =
    omega (arith, c.loop-offset-test.false, c.loop-offset.auto.offset-end, c.known_cell-cell.ensures.size) in
    subst (λ (n : ℕ). IsCopying own deal (c.args.home.to + n) c.loop-offset.worker c.loop-offset.seat) all
    (c.loop-offset.invariant.copying deal may begun)
