use Rattle.std.proofs.Common.{ℕ, ◌≤◌, ◌<◌}
use Rattle.heap_model.specs.Images.{image_heap}
use Rattle.heap_model.specs.Slots.{IsSlotWord}
use Rattle.image_walk.specs.Spans.{WordAt}
use Rattle.heap_check.proofs.stores.flaw_of_slots.Given as goal

abbrev pub invariant-loop-at : goal.invariant-loop-at
invariant-loop-at l =
    (at : ℕ) → l.fn.span.from ≤ at → at < l.at → WordAt (image_heap l.image) at (IsSlotWord (image_heap l.image))
