-- Shapes, and the paths that they are those of.
use Rattle.std.proofs.Common.{◌≡◌, ℕ, ◌+◌, ◌-◌, ◌<◌, ◌≤◌, List, [], ◌∷◌, ◌++◌, length, get_or}
use Rattle.std.proofs.Common.{refl, sym, ap, ◌∙◌, subst}
use Rattle.std.proofs.Common.{arith, inl, inr, length-append}
use Rattle.std.specs.Prelude.{Contains, ◌⊎◌}
use Rattle.std.specs.List.{IsDistinct}
use Rattle.std.proofs.lemmas.Bool.{cases_lt}
use Rattle.std.proofs.lemmas.List.{get_or_default, get_or_append_left, get_or_push}
use Rattle.std.proofs.lemmas.List.Elements.{Contains-get_or}
use Rattle.std.proofs.lemmas.Map.Keys.{apart_from_distinct}
use Rattle.tagged_word.specs.Shapes.{first_path_shape}
use Rattle.object_graph.specs.declared.path.Path.{Path}
use Rattle.object_graph.specs.Paths.{same_path}
use Rattle.object_graph.proofs.EqualPaths.{Decides-same_path}
use Rattle.shape_tree.specs.Shapes.{IsPathShape, IsShapeOf, shape_path}

-- the path that stands for none
abbrev no_path : Path
no_path = record { cap = 0; fields = [] }

-- the path of a shape is there
pub has_shape_path : (paths : List Path) (shape : ℕ) → IsPathShape paths shape → Contains paths (shape_path paths shape)
has_shape_path paths shape is = Contains-get_or paths (shape - first_path_shape) no_path (omega arith)

-- the path at a place has the shape of that place
pub shape_at : (paths : List Path) (path : Path) (k : ℕ) → k < length paths → get_or paths k path ≡ path
    → IsShapeOf paths path (first_path_shape + k)
shape_at paths path k below at =
    let place : first_path_shape + k - first_path_shape ≡ k = omega arith in
    let same : get_or paths k no_path ≡ path = get_or_default paths k no_path path below ∙ at in
    record {
      is_shape = record { from = omega arith; below = omega arith };
      of_path = ap (λ n. get_or paths n no_path) place ∙ same;
    }

-- a path that is there has a shape
pub shape_of : (paths : List Path) (path : Path) → Contains paths path → (shape : ℕ) × IsShapeOf paths path shape
shape_of paths path (k, below, at) = (first_path_shape + k, shape_at paths path k below at)

-- a path that has a shape is there
pub has_its_path : (paths : List Path) (path : Path) (shape : ℕ) → IsShapeOf paths path shape → Contains paths path
has_its_path paths path shape is = subst (Contains paths) is.of_path (has_shape_path paths shape is.is_shape)

-- a shape stays one where paths are added
pub IsPathShape-append : (paths more : List Path) (shape : ℕ) → IsPathShape paths shape
    → IsPathShape (paths ++ more) shape
IsPathShape-append paths more shape is =
    record { from = is.from; below = omega (arith, length-append paths more, is.below) }

-- and keeps its path
pub shape_path-append : (paths more : List Path) (shape : ℕ) → IsPathShape paths shape
    → shape_path (paths ++ more) shape ≡ shape_path paths shape
shape_path-append paths more shape is =
    get_or_append_left paths more no_path (shape - first_path_shape) (omega arith)

-- so a path keeps its shape
pub IsShapeOf-append : (paths more : List Path) (path : Path) (shape : ℕ) → IsShapeOf paths path shape
    → IsShapeOf (paths ++ more) path shape
IsShapeOf-append paths more path shape is =
    record {
      is_shape = IsPathShape-append paths more shape is.is_shape;
      of_path = shape_path-append paths more shape is.is_shape ∙ is.of_path;
    }

-- a path that comes last has the next shape
pub IsShapeOf-last : (paths : List Path) (path : Path)
    → IsShapeOf (paths ++ path ∷ []) path (first_path_shape + length paths)
IsShapeOf-last paths path =
    shape_at (paths ++ path ∷ []) path (length paths) (omega (arith, length-append paths (path ∷ [])))
    (get_or_push paths path path (length paths) refl)

-- a shape is one that was there, or that of the path which comes last
pub shape_cases : (paths : List Path) (last path : Path) (shape : ℕ) → IsShapeOf (paths ++ last ∷ []) path shape
    → IsShapeOf paths path shape ⊎ ((shape ≡ first_path_shape + length paths) × (last ≡ path))
shape_cases paths last path shape is =
    elim (cases_lt shape (first_path_shape + length paths)) [
      | inl before ↦
          let was : IsPathShape paths shape = record { from = is.is_shape.from; below = before } in
          inl (record { is_shape = was; of_path = sym (shape_path-append paths (last ∷ []) shape was) ∙ is.of_path })
      | inr after ↦
          let end : shape ≡ first_path_shape + length paths =
          omega (arith, length-append paths (last ∷ []), is.is_shape.below, after) in
          let place : length paths ≡ shape - first_path_shape = omega arith in
          inr (end, sym (get_or_push paths last no_path (shape - first_path_shape) place) ∙ is.of_path)
    ]

-- a path before another differs from it
earlier_differs : (paths : List Path) (a b : ℕ) → IsDistinct same_path paths → IsPathShape paths b
    → first_path_shape ≤ a → a < b → shape_path paths a ≡ shape_path paths b → ⊥
earlier_differs paths a b distinct is from before same =
    let apart = apart_from_distinct same_path paths (a - first_path_shape) (b - first_path_shape) no_path distinct
    (omega arith) (omega arith) in
    let alike = (Decides-same_path (shape_path paths a) (shape_path paths b)).1 same in
    cc (apart, alike)

-- where no path stands twice, two shapes of one path are one
pub one_shape : (paths : List Path) (a b : ℕ) → IsDistinct same_path paths → IsPathShape paths a → IsPathShape paths b
    → shape_path paths a ≡ shape_path paths b → a ≡ b
one_shape paths a b distinct first second same =
    elim (cases_lt a b) [
      | inl before ↦ absurd (earlier_differs paths a b distinct second first.from before same)
      | inr after ↦ elim (cases_lt b a) [
        | inl behind ↦ absurd (earlier_differs paths b a distinct first second.from behind (sym same))
        | inr here ↦ omega arith
      ]
    ]
