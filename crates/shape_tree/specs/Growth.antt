-- How a path grows by fields, and which paths are missing on the way.
use Rattle.std.specs.Prelude.{◌≡◌, ℕ, ◌<◌, false, List, [], ◌∷◌, ◌++◌, length}
use Rattle.std.specs.List.{list_any}
use Rattle.object_graph.specs.declared.path.Path.{Path}
use Rattle.object_graph.specs.declared.path.PathField.{PathField}
use Rattle.object_graph.specs.Paths.{same_path}
use Rattle.object_graph.specs.Invariants.{fields_most}
use Rattle.object_graph.specs.Limits.{paths_most}
use Rattle.shape_tree.specs.declared.transition.Step.{Step}
use Rattle.shape_tree.specs.declared.transition.Step.TheVariants.{Found, Missing}
use Rattle.shape_tree.specs.Shapes.{IsPathShape, IsShapeOf, shape_path}

-- the path with these fields more
abbrev pub extended : Path → List PathField → Path
extended path fields = record path { fields = path.fields ++ fields }

-- the path is not among these
abbrev pub IsMissing : List Path → Path → Type 0
IsMissing paths path = list_any (same_path path) paths ≡ false

-- the path with the first of these fields more, if there is one, is not among these paths
abbrev pub FirstIsMissing : List Path → Path → List PathField → Type 0
FirstIsMissing paths path [] = Unit {0}
FirstIsMissing paths path (field ∷ fields) = IsMissing paths (extended path (field ∷ []))

-- The step from the path of this shape by the field leads to this shape: that of the path with the field more. So the
-- path has fewer fields than it may have.
pub record StepsTo (paths : List Path) (shape : ℕ) (field : PathField) (next : ℕ) : Type 0 where
  pub starts : IsPathShape paths shape
  pub few : length (shape_path paths shape).fields < fields_most
  pub leads : IsShapeOf paths (extended (shape_path paths shape) (field ∷ [])) next

-- Where the step to the path leads: it is there, and this is its shape; or it alone is missing, and there may be one
-- path more.
abbrev pub IsStep : List Path → Path → Step → Type 0
IsStep paths path (Found shape) = IsShapeOf paths path shape
IsStep paths path Missing = IsMissing paths path × (length paths < paths_most)
