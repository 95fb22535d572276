use Rattle.std.proofs.Common.{◌≡◌, ℕ, ◌<◌, map, slice_get}
use Rattle.shape_tree.specs.Shapes.{shape_path}
use Rattle.slow_check.specs.PathFields.{known_field}
use Rattle.slow_check.proofs.paths.has_fields_of.Given as goal

abbrev pub invariant-loop-at : goal.invariant-loop-at
invariant-loop-at l =
    (at : ℕ) → at < l.at
    → slice_get (shape_path l.shapes l.shape).fields at ≡ slice_get (map known_field l.fields) at
