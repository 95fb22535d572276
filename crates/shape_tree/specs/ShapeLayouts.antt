-- The layout that a shape gives its cells, and its layout word.
use Rattle.std.specs.Prelude.{ℕ, ◌+◌, ◌*◌, ◌<◌, ◌≤◌, List, [], ◌∷◌, ◌++◌, map, take, length}
use Rattle.std.specs.Prelude.{slice_get, unwrap_or}
use Rattle.tagged_word.specs.declared.layout.Kind.TheVariants.{Plain}
use Rattle.tagged_word.specs.declared.layout.LayoutWord.{LayoutWord}
use Rattle.tagged_word.specs.Layouts.{layout_bits}
use Rattle.tagged_word.specs.Shapes.{first_path_shape, fixed_layout_words}
use Rattle.object_graph.specs.declared.path.Path.{Path}
use Rattle.object_graph.specs.declared.path.PathField.{PathField}
use Rattle.object_graph.specs.declared.value.Rep.{Rep}
use Rattle.object_graph.specs.declared.value.Rep.TheVariants.{Small, Wide, Tagged}

-- the fields that stand in the object itself: as many of the first as it has in-object slots
abbrev pub in_object_fields : Path → List PathField
in_object_fields path = take path.cap path.fields

-- a wide field in an in-object slot is raw
abbrev pub raw_bit : Rep → ℕ
raw_bit Small = 0
raw_bit Wide = 1
raw_bit Tagged = 0

-- bit i stands exactly where field i is wide
abbrev pub raw_mask : List PathField → ℕ
raw_mask [] = 0
raw_mask (field ∷ fields) = raw_bit field.rep + 2 * raw_mask fields

-- the layout of the objects of a path
abbrev pub layout_of : Path → LayoutWord
layout_of path = record {
  kind = Plain;
  cap = path.cap;
  used = length (in_object_fields path);
  raw = raw_mask (in_object_fields path);
}

-- the layout words of the shapes in use, in order: the fixed ones, and that of each path
abbrev pub layout_words : List Path → List ℕ
layout_words paths = fixed_layout_words ++ map (λ path. layout_bits (layout_of path)) paths

-- the layout word of a shape; 0 where it is not in use
abbrev pub layout_word : List Path → ℕ → ℕ
layout_word paths shape = unwrap_or (slice_get (layout_words paths) shape) 0

-- the shape is in use: a fixed one, or that of a path
pub record IsInUse (paths : List Path) (shape : ℕ) : Type 0 where
  pub from : 1 ≤ shape
  pub below : shape < first_path_shape + length paths
