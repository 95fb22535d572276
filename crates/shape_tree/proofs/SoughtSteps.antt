-- What the look-up of one transition tells of the path to which it leads.
use Rattle.std.proofs.Common.{◌≡◌, ℕ, List, [], ◌∷◌, Option, Some, None}
use Rattle.std.proofs.Common.{refl}
use Rattle.std.proofs.Common.{subst}
use Rattle.std.specs.Prelude.{MatchOption}
use Rattle.std.specs.HashMap.{get}
use Rattle.object_graph.specs.declared.path.Path.{Path}
use Rattle.object_graph.specs.declared.path.PathField.{PathField}
use Rattle.shape_tree.specs.declared.transition.Transition.{Transition}
use Rattle.shape_tree.specs.declared.tree.ShapeTree.TheInside.{Inside}
use Rattle.shape_tree.specs.Trees.{IsTree, paths_of}
use Rattle.shape_tree.specs.Shapes.{IsPathShape, IsShapeOf, shape_path}
use Rattle.shape_tree.specs.Growth.{extended, IsMissing}
use Rattle.shape_tree.specs.Nodes.{same_transition, transition_by, FindsSteps}
use Rattle.shape_tree.proofs.ShapePaths.{shape_of, has_its_path}
use Rattle.shape_tree.proofs.MissingPaths.{missing_not_there, missing_if_not}
use Rattle.shape_tree.proofs.FoundSteps.{target}

-- what the look-up of a step finds is the shape of the path with the field more; where it finds nothing that path is
-- missing
step_found : (paths : List Path) (shape : ℕ) (field : PathField) (look : Transition → Option ℕ) (found : Option ℕ)
    → IsPathShape paths shape → FindsSteps paths look → look (transition_by shape field) ≡ found
    → MatchOption found (IsMissing paths (extended (shape_path paths shape) (field ∷ [])))
    (IsShapeOf paths (extended (shape_path paths shape) (field ∷ [])))
step_found paths shape field look None starts finds is =
    missing_if_not paths (extended (shape_path paths shape) (field ∷ [])) (λ there.
    let (next, leads) = shape_of paths (extended (shape_path paths shape) (field ∷ [])) there in
    let sought = finds.complete (transition_by shape field) next (record { starts = starts; leads = leads }) in
    cc (is, sought))
step_found paths shape field look (Some next) starts finds is = (finds.sound (transition_by shape field) next is).leads

-- the same of a tree that shows these paths
pub step_shown : (tree : Inside) (paths : List Path) (shape : ℕ) (field : PathField) (found : Option ℕ) → IsTree tree
    → paths_of tree ≡ paths → IsPathShape paths shape
    → get same_transition tree.steps (transition_by shape field) ≡ found
    → MatchOption found (IsMissing paths (extended (shape_path paths shape) (field ∷ [])))
    (IsShapeOf paths (extended (shape_path paths shape) (field ∷ [])))
step_shown tree paths shape field found is shown starts sought =
    let finds = subst (λ ps. FindsSteps ps (get same_transition tree.steps)) shown is.finds in
    step_found paths shape field (get same_transition tree.steps) found starts finds sought

-- a step to a missing path is not found
nothing_found : (paths : List Path) (step : Transition) (look : Transition → Option ℕ) (found : Option ℕ)
    → FindsSteps paths look → IsMissing paths (target paths step) → look step ≡ found → found ≡ None
nothing_found paths step look None finds missed is = refl
nothing_found paths step look (Some shape) finds missed is =
    absurd (missing_not_there paths (target paths step) missed
    (has_its_path paths (target paths step) shape (finds.sound step shape is).leads))

-- the same of a tree that shows these paths
pub nothing_shown : (tree : Inside) (paths : List Path) (shape : ℕ) (field : PathField) → IsTree tree
    → paths_of tree ≡ paths → IsMissing paths (extended (shape_path paths shape) (field ∷ []))
    → get same_transition tree.steps (transition_by shape field) ≡ None
nothing_shown tree paths shape field is shown missed =
    let finds = subst (λ ps. FindsSteps ps (get same_transition tree.steps)) shown is.finds in
    nothing_found paths (transition_by shape field) (get same_transition tree.steps) _ finds missed refl
