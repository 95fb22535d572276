-- Paths that are missing, and those that are there.
use Rattle.std.proofs.Common.{◌≡◌, true, List, refl}
use Rattle.std.specs.Prelude.{Contains}
use Rattle.std.specs.List.{list_any}
use Rattle.std.proofs.lemmas.Bool.{false_from_ne_true}
use Rattle.std.proofs.lemmas.List.Folds.{list_any-from_Any}
use Rattle.std.proofs.lemmas.Map.Views.{Contains-from_any}
use Rattle.object_graph.specs.declared.path.Path.{Path}
use Rattle.object_graph.specs.Paths.{same_path}
use Rattle.object_graph.proofs.EqualPaths.{Decides-same_path}
use Rattle.shape_tree.specs.Growth.{IsMissing}

-- a path that is there is found
pub found_if_there : (paths : List Path) (path : Path) → Contains paths path → list_any (same_path path) paths ≡ true
found_if_there paths path there =
    let itself : same_path path path ≡ true = (Decides-same_path path path).1 refl in
    list_any-from_Any (same_path path) paths (there.0, path, there.1, there.2, itself)

-- a path that is missing is not there
pub missing_not_there : (paths : List Path) (path : Path) → IsMissing paths path → Contains paths path → ⊥
missing_not_there paths path missed there = cc (missed, found_if_there paths path there)

-- a path that is not there is missing
pub missing_if_not : (paths : List Path) (path : Path) → (Contains paths path → ⊥) → IsMissing paths path
missing_if_not paths path never =
    false_from_ne_true (list_any (same_path path) paths) (λ found.
    never (Contains-from_any (λ x y. (Decides-same_path x y).0) path paths found))
