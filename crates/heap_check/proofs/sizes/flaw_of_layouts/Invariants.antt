use Rattle.std.proofs.Common.{◌≡◌, ℕ, ◌+◌, ◌<◌, Some, slice_get}
use Rattle.page_space.specs.Extents.{layouts_start}
use Rattle.shape_tree.specs.ShapeLayouts.{layout_word}
use Rattle.heap_check.proofs.sizes.flaw_of_layouts.Given as goal

abbrev pub invariant-loop-shape : goal.invariant-loop-shape
invariant-loop-shape l =
    (shape : ℕ) → shape < l.shape
    → slice_get l.image.words (layouts_start l.image.regions + shape) ≡ Some (layout_word l.image.shapes shape)
