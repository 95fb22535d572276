use Rattle.std.proofs.Common.{ℕ, ◌+◌, ◌-◌, ◌≤◌, ◌<◌}
use Rattle.heap_model.specs.Images.{image_heap}
use Rattle.image_walk.specs.Spans.{WordAt}
use Rattle.slow_check.specs.ShownSlots.{ShowsFieldAt}
use Rattle.slow_check.proofs.fields.show_slots.Given as goal

abbrev pub invariant-loop-at : goal.invariant-loop-at
invariant-loop-at l =
    (at : ℕ) → l.span.from ≤ at → at < l.at
    → WordAt (image_heap l.image) at
    (ShowsFieldAt (image_heap l.image) l.cap l.fields (l.first + (at - l.span.from)))
