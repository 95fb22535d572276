-- Shapes: the numbers of field paths, and the paths that a change of fields leads to.
use Rattle.std.specs.Prelude.{◌≡◌, ℕ, zero, suc, ◌+◌, ◌-◌, ◌<◌, ◌≤◌, Bool, List, [], ◌∷◌}
use Rattle.std.specs.Prelude.{◌++◌, take, drop, get_or, length, slice_get, Some, None, ◌==◌}
use Rattle.std.specs.List.{list_any}
use Rattle.tagged_word.specs.Shapes.{first_path_shape}
use Rattle.object_graph.specs.declared.path.Path.{Path}
use Rattle.object_graph.specs.declared.path.PathField.{PathField}
use Rattle.object_graph.specs.declared.value.Rep.{Rep}
use Rattle.object_graph.specs.Paths.{missing, with_path}
use Rattle.object_graph.specs.Invariants.{ArePaths}
use Rattle.object_graph.specs.Limits.{paths_most}
use Rattle.shape_tree.specs.declared.full.ShapesFull.{ShapesFull}
use Rattle.shape_tree.specs.declared.located.Located.{Located}

-- the paths of a tree of shapes: those of a graph, and no more than there may be
pub record AreShapes (paths : List Path) : Type 0 where
  pub are : ArePaths paths
  pub few : length paths ≤ paths_most

-- the number is the shape of a path: that of the first path, or one that follows
pub record IsPathShape (paths : List Path) (shape : ℕ) : Type 0 where
  pub from : first_path_shape ≤ shape
  pub below : shape < first_path_shape + length paths

-- the path of a shape, where it is a path's
abbrev pub shape_path : List Path → ℕ → Path
shape_path paths shape = get_or paths (shape - first_path_shape) (record { cap = 0; fields = [] })

-- the path has a field of this name
abbrev pub has_name : Path → ℕ → Bool
has_name path name = list_any (λ field. field.name == name) path.fields

-- the path with a field more, which comes last
abbrev pub stepped : Path → ℕ → Rep → Path
stepped path name rep = record path { fields = path.fields ++ record { name = name; rep = rep } ∷ [] }

-- these fields, one of them with another representation
abbrev pub changed_fields : List PathField → ℕ → Rep → List PathField
changed_fields [] at rep = []
changed_fields (field ∷ fields) zero rep = record field { rep = rep } ∷ fields
changed_fields (field ∷ fields) (suc at) rep = field ∷ changed_fields fields at rep

-- the path, one field of which has another representation
abbrev pub changed : Path → ℕ → Rep → Path
changed path at rep = record path { fields = changed_fields path.fields at rep }

-- the path with one field taken out; the later ones keep their order
abbrev pub without : Path → ℕ → Path
without path at = record path { fields = take at path.fields ++ drop (suc at) path.fields }

-- the shape is that of the path
pub record IsShapeOf (paths : List Path) (path : Path) (shape : ℕ) : Type 0 where
  pub is_shape : IsPathShape paths shape
  pub of_path : shape_path paths shape ≡ path

-- the shape is a path's, which has a field of this name and representation at this place, and this cap
pub record IsLocated (paths : List Path) (found : Located) : Type 0 where
  pub is_shape : IsPathShape paths found.shape
  pub field : slice_get (shape_path paths found.shape).fields found.at
      ≡ Some (record { name = found.name; rep = found.rep })
  pub cap : found.cap ≡ (shape_path paths found.shape).cap

-- the path was there, or it and its missing prefixes were added behind the others; its shape is this one
pub record Leads (old new : List Path) (path : Path) (shape : ℕ) : Type 0 where
  pub added : with_path (Some paths_most) old path ≡ Some new
  pub shape_is : IsShapeOf new path shape

-- there may not be as many paths as this one and its missing prefixes would make; nothing was added
pub record LacksPathsFor (old new : List Path) (path : Path) (full : ShapesFull) : Type 0 where
  pub refused : with_path (Some paths_most) old path ≡ None
  pub counted : full.paths ≡ length old
  pub lacking : full.missing ≡ length (missing old path)
  pub stays : new ≡ old
