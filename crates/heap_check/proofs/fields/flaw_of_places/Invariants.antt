use Rattle.std.proofs.Common.{ℕ, ◌-◌, ◌+◌, ◌≤◌, ◌<◌}
use Rattle.shape_tree.specs.Shapes.{shape_path}
use Rattle.heap_model.specs.Images.{image_heap}
use Rattle.image_walk.specs.Spans.{WordAt}
use Rattle.heap_check.specs.PathSlots.{FitsSlot}
use Rattle.heap_check.proofs.fields.flaw_of_places.Given as goal

abbrev pub invariant-loop-at : goal.invariant-loop-at
invariant-loop-at l =
    (at : ℕ) → l.span.from ≤ at → at < l.at
    → WordAt (image_heap l.image) at
    (FitsSlot (image_heap l.image) (shape_path l.image.shapes l.shape) (l.first + (at - l.span.from)))
