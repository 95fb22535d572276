-- Laws of the shapes of a list of paths.
use Rattle.std.specs.Prelude.{◌≡◌, ℕ, List}
use Rattle.object_graph.specs.declared.path.Path.{Path}
use Rattle.object_graph.specs.Invariants.{IsPath}
use Rattle.shape_tree.specs.Shapes.{AreShapes, IsPathShape, Leads, shape_path}
use Rattle.shape_tree.specs.ShapeLayouts.{IsInUse, layout_word}

-- a shape keeps its path where paths are added
abbrev pub ShapesStay : Type 0
ShapesStay =
    (old new : List Path) (path : Path) (next shape : ℕ) → Leads old new path next → IsPathShape old shape
    → shape_path new shape ≡ shape_path old shape

-- a shape in use keeps its layout word where paths are added
abbrev pub WordsStay : Type 0
WordsStay =
    (old new : List Path) (path : Path) (next shape : ℕ) → Leads old new path next → IsInUse old shape
    → layout_word new shape ≡ layout_word old shape

-- two shapes of one path are one
abbrev pub ShapesAreOne : Type 0
ShapesAreOne =
    (paths : List Path) (a b : ℕ) → AreShapes paths → IsPathShape paths a → IsPathShape paths b
    → shape_path paths a ≡ shape_path paths b → a ≡ b

-- the list of paths is good after what may be a path was added
abbrev pub ListsStayGood : Type 0
ListsStayGood =
    (old new : List Path) (path : Path) (next : ℕ) → AreShapes old → IsPath path → Leads old new path next
    → AreShapes new
