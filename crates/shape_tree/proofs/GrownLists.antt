-- Lists of paths as they grow along fields, one path after another.
use Rattle.std.proofs.Common.{◌≡◌, ℕ, ◌+◌, ◌-◌, ◌≤◌, ◌<◌, List, [], ◌∷◌, ◌++◌, length, get_or}
use Rattle.std.proofs.Common.{take, drop, refl, sym, ap, ◌∙◌, subst}
use Rattle.std.proofs.Common.{arith, append-nil, append_assoc, length-append}
use Rattle.std.proofs.lemmas.List.{take_all}
use Rattle.std.proofs.lemmas.List.Elements.{All-contains}
use Rattle.tagged_word.specs.Shapes.{first_path_shape}
use Rattle.object_graph.specs.declared.path.Path.{Path}
use Rattle.object_graph.specs.declared.path.PathField.{PathField}
use Rattle.object_graph.specs.Paths.{missing, prefixes}
use Rattle.object_graph.specs.Invariants.{IsPath, ArePaths}
use Rattle.object_graph.specs.Limits.{paths_most}
use Rattle.object_graph.proofs.Prefixes.{prefixes_are_paths}
use Rattle.shape_tree.specs.Shapes.{IsPathShape, IsShapeOf, shape_path}
use Rattle.shape_tree.specs.Growth.{extended, FirstIsMissing}
use Rattle.shape_tree.specs.declared.walking.Walk.{Walk}
use Rattle.shape_tree.specs.Walks.{WalksTo}
use Rattle.shape_tree.proofs.ShapePaths.{has_shape_path, IsShapeOf-last}
use Rattle.shape_tree.proofs.GrownPaths.{extended-nil, extended-extended, is_prefix, missing-there, missing-extended}
use Rattle.shape_tree.proofs.GrownPaths.{length-growths}
use Rattle.shape_tree.proofs.GrownPaths.{are_with_next, fresh_behind, missing-next}

-- the shape is that of the longest prefix that is there of the path, and these fields are left; nothing was added but
-- what was
-- missing
pub record Grows (old : List Path) (path : Path) (paths : List Path) (shape : ℕ) (rest : List PathField) : Type 0 where
  pub are : ArePaths paths
  pub at : IsPathShape paths shape
  pub same : extended (shape_path paths shape) rest ≡ path
  pub fresh : FirstIsMissing paths (shape_path paths shape) rest
  pub added : paths ++ missing paths path ≡ old ++ missing old path
  pub room : length paths + length rest ≤ paths_most

-- a list that is not empty is its first element and the others, as a slice pattern takes it apart
pub first_and_rest : {X : Type 0} (xs : List X) (d : X) → 1 ≤ length xs
    → xs ≡ get_or xs 0 d ∷ take (length xs - 1) (drop 1 xs)
first_and_rest [] d some = absurd (omega arith)
first_and_rest (x ∷ xs) d some = ap (λ ys. x ∷ ys) (sym (take_all (length (x ∷ xs) - 1) xs (omega arith)))

-- the next path on the way to what may be a path may be one
pub IsPath-next : (path : Path) (field : PathField) (fields : List PathField) → IsPath (extended path (field ∷ fields))
    → IsPath (extended path (field ∷ []))
IsPath-next path field fields is =
    let next = extended path (field ∷ []) in
    let whole : IsPath (extended next fields) = subst IsPath (sym (extended-extended path (field ∷ []) fields)) is in
    All-contains IsPath (prefixes (extended next fields)) next (prefixes_are_paths (extended next fields) whole)
    (is_prefix next fields)

-- one path more
pub grows_more : (old : List Path) (path : Path) (paths new : List Path) (shape next : ℕ) (field : PathField)
    (rest : List PathField) → IsPath path → Grows old path paths shape (field ∷ rest)
    → new ≡ paths ++ extended (shape_path paths shape) (field ∷ []) ∷ [] → next ≡ first_path_shape + length paths
    → Grows old path new next rest
grows_more old path paths new shape next field rest is grows added comes =
    let here = shape_path paths shape in
    let more = extended here (field ∷ []) in
    let after = paths ++ more ∷ [] in
    let there = has_shape_path paths shape grows.at in
    let may : IsPath more = IsPath-next here field rest (subst IsPath (sym grows.same) is) in
    let last : IsShapeOf after more next =
    subst (IsShapeOf after more) (sym comes) (IsShapeOf-last paths more) in
    let lacking : missing paths path ≡ more ∷ missing after path =
    subst (λ p. missing paths p ≡ more ∷ missing after p) grows.same
    (missing-next paths here field rest grows.are there grows.fresh may) in
    let result : Grows old path after next rest = record {
      are = are_with_next paths here field grows.are there grows.fresh may;
      at = last.is_shape;
      same = ap (λ p. extended p rest) last.of_path ∙ extended-extended here (field ∷ []) rest ∙ grows.same;
      fresh = subst (λ p. FirstIsMissing after p rest) (sym last.of_path)
          (fresh_behind paths more rest grows.are grows.fresh);
      added = append_assoc paths (more ∷ []) (missing after path)
          ∙ ap (λ ps. paths ++ ps) (sym lacking) ∙ grows.added;
      room = omega (arith, grows.room, length-append paths (more ∷ []));
    } in
    subst (λ ps. Grows old path ps next rest) (sym added) result

-- once no field is left, what was missing was added
pub grows_end : (old : List Path) (path : Path) (paths : List Path) (shape : ℕ) → Grows old path paths shape []
    → paths ≡ old ++ missing old path
grows_end old path paths shape grows =
    let whole : shape_path paths shape ≡ path = sym (extended-nil (shape_path paths shape)) ∙ grows.same in
    let none : missing paths path ≡ [] =
    subst (λ p. missing paths p ≡ []) whole
    (missing-there paths (shape_path paths shape) grows.are (has_shape_path paths shape grows.at)) in
    sym (append-nil paths) ∙ ap (λ ps. paths ++ ps) (sym none) ∙ grows.added

-- as many paths are missing as fields are left of a walk
pub length-missing : (paths : List Path) (path : Path) (shape : ℕ) (rest : List PathField) → ArePaths paths
    → IsPathShape paths shape → extended (shape_path paths shape) rest ≡ path
    → FirstIsMissing paths (shape_path paths shape) rest → length (missing paths path) ≡ length rest
length-missing paths path shape rest are at same fresh =
    let here = shape_path paths shape in
    ap (λ p. length (missing paths p)) (sym same)
    ∙ ap length (missing-extended paths here rest are (has_shape_path paths shape at) fresh)
    ∙ length-growths here rest

-- the same of a walk to the path
pub length-missing_walk : (paths : List Path) (path : Path) (walk : Walk) → WalksTo paths path walk
    → length (missing paths path) ≡ length walk.rest.now
length-missing_walk paths path walk found =
    length-missing paths path walk.shape walk.rest.now found.good.are found.at found.same found.fresh

-- a list that is shorter than one is empty
pub empty_if_short : {X : Type 0} (xs : List X) → length xs < 1 → xs ≡ []
empty_if_short [] short = refl
empty_if_short (x ∷ xs) short = absurd (omega arith)
