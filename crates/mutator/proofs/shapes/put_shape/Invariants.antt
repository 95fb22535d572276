-- So many fields are written, and few bytes.
use Rattle.std.proofs.Common.{◌≡◌, ◌+◌, ◌++◌, ◌*◌, ◌≤◌, length, take}
use Rattle.std.specs.Prelude.{flat_map}
use Rattle.shape_tree.specs.Shapes.{shape_path}
use Rattle.mutator.specs.Written.{path_field_text}
use Rattle.mutator.proofs.shapes.put_shape.Given as goal

abbrev pub invariant-loop-at : goal.invariant-loop-at
invariant-loop-at l = record {
  text : l.out ≡ l.initial.out
      ++ flat_map (path_field_text l.script.fields) (take l.at (shape_path l.shapes l.shape).fields);
  few : length l.out ≤ length l.fn.out + 14 + 40 * l.at;
}
