use Rattle.std.proofs.Common.{ℕ, ◌-◌, ◌≤◌, ◌<◌}
use Rattle.heap_model.specs.Images.{image_heap}
use Rattle.image_walk.specs.Spans.{WordAt}
use Rattle.slow_check.specs.ShownSlots.{ShowsElementAt}
use Rattle.slow_check.proofs.lists.show_elements.Given as goal

abbrev pub invariant-loop-at : goal.invariant-loop-at
invariant-loop-at l =
    (at : ℕ) → l.span.from ≤ at → at < l.at
    → WordAt (image_heap l.image) at (ShowsElementAt (image_heap l.image) l.elements (at - l.span.from))
