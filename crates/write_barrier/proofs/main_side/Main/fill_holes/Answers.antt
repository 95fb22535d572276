-- Holes refer to nothing, so that nothing of them is to be recorded.
use Rattle.std.proofs.Common.{◌≡◌, ◌∙◌, ◌+◌, ◌≤◌, ℕ, length, slice_get, ap, arith}
use Rattle.std.specs.Prelude.{replicate}
use Rattle.write_barrier.specs.Seats.{heap_words}
use Rattle.heap_model.specs.Slots.{hole_word}
use Rattle.write_barrier.specs.Values.{with_range}
use Rattle.write_barrier.proofs.PutRanges.{with_range_filled}
use Rattle.write_barrier.proofs.StoredRanges.{stored_holes}
use Rattle.write_barrier.proofs.main_side.Main.fill_holes.Goals as goal

pub returns-clause-touches : goal.returns-clause-touches
returns-clause-touches c =
    let words = heap_words c.args.self.now.seat in
    let at = c.args.at in
    let count = c.args.count in
    let within : at ≤ length words = omega (arith, c.addresses_fit.ensures.heap_counted, c.requires.within) in
    let heap : heap_words c.fill.new.self.seat ≡ with_range words at (replicate count hole_word) =
    c.fill.ensures.heap ∙ ap (λ (word : ℕ). with_range words at (replicate count word)) c.odd.ensures in
    stored_holes at (at + count)
    (λ a begins ends.
    ap (λ all. slice_get all a) heap ∙ with_range_filled words at count hole_word a within begins ends)
    c.fill.ensures.touches
