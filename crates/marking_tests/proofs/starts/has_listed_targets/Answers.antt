-- All slots stand before the end of the cell.
use Rattle.std.proofs.Common.{ℕ, ◌≡◌, ◌+◌, inl, inr, subst, arith, Contains}
use Rattle.std.proofs.lemmas.Bool.{cases_lt}
use Rattle.tagged_word.specs.Cells.{tagged_offsets}
use Rattle.cell_layout.proofs.NextSlots.{all_below}
use Rattle.write_barrier.specs.MutatorState.{heap_of}
use Rattle.ephemeron_mark.specs.Progress.{HoldsReference}
use Rattle.ephemeron_mark.proofs.CellSlots.{slot_within, all_slots}
use Rattle.marking_tests.proofs.starts.has_listed_targets.Goals as goal

pub loop-offset-init : goal.loop-offset-init
loop-offset-init c = λ offset to visited below refers. absurd (omega (arith, below))

pub loop-offset-preserved : goal.loop-offset-preserved
loop-offset-preserved c =
    let cell = c.args.cell.now in
    let offsets = tagged_offsets cell.layout cell.length in
    let next : ℕ = c.loop-offset.offset in
    λ offset to visited below refers. elim (cases_lt offset next) [
      | inl earlier ↦ c.loop-offset.invariant offset to visited earlier refers
      | inr last ↦
          let same : offset ≡ next = omega (arith, last, below) in
          c.is_listed_slot.ensures c.if-not-is_listed_slot.false to (subst (Contains offsets) same visited)
          (subst (λ (one : ℕ). HoldsReference (heap_of c.args.main.now) (cell.at + one) to) same refers)
    ]

pub returns : goal.returns
returns c _ =
    let cell = c.args.cell.now in
    let has = c.requires.stands.1 in
    all_slots c.args.cells.now cell.size has
    (all_below (tagged_offsets cell.layout cell.length) cell.size (slot_within has))
    (λ offset to visited below. c.loop-offset.invariant offset to visited
    (omega (arith, below, c.loop-offset-test.false)))
