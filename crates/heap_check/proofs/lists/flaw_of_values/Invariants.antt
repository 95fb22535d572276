use Rattle.std.proofs.Common.{ℕ, ◌-◌, ◌≤◌, ◌<◌, nat_lt}
use Rattle.heap_model.specs.Images.{image_heap}
use Rattle.image_walk.specs.Spans.{WordAt}
use Rattle.heap_check.specs.Elements.{IsElement}
use Rattle.heap_check.proofs.lists.flaw_of_values.Given as goal

abbrev pub invariant-loop-at : goal.invariant-loop-at
invariant-loop-at l =
    (at : ℕ) → l.span.from ≤ at → at < l.at
    → WordAt (image_heap l.image) at (IsElement (image_heap l.image) (nat_lt (at - l.span.from) l.count))
