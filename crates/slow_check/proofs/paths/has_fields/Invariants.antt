use Rattle.std.proofs.Common.{◌≡◌, ℕ, ◌<◌, slice_get}
use Rattle.shape_tree.specs.Shapes.{shape_path}
use Rattle.slow_check.proofs.paths.has_fields.Given as goal

abbrev pub invariant-loop-at : goal.invariant-loop-at
invariant-loop-at l =
    (at : ℕ) → at < l.at → slice_get (shape_path l.shapes l.shape).fields at ≡ slice_get l.fields at
