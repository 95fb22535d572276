-- What a look-up of transitions finds after a path was added.
use Rattle.std.proofs.Common.{◌≡◌, ℕ, ◌+◌, false, cond, List, [], ◌∷◌, ◌++◌, length, Option, Some}
use Rattle.std.proofs.Common.{sym, ap}
use Rattle.std.proofs.Common.{◌∙◌, subst, inl, inr}
use Rattle.std.specs.Prelude.{Contains}
use Rattle.std.proofs.lemmas.Bool.{cases_Bool, false_from_ne_true, cond-true, cond-false}
use Rattle.std.proofs.lemmas.List.{same_from_push}
use Rattle.tagged_word.specs.Shapes.{first_path_shape}
use Rattle.object_graph.specs.declared.path.Path.{Path}
use Rattle.object_graph.specs.declared.path.PathField.{PathField}
use Rattle.object_graph.specs.Invariants.{IsPath, ArePaths}
use Rattle.shape_tree.specs.declared.transition.Transition.{Transition}
use Rattle.shape_tree.specs.Shapes.{IsPathShape, IsShapeOf, shape_path}
use Rattle.shape_tree.specs.Growth.{extended, IsMissing}
use Rattle.shape_tree.specs.Nodes.{same_transition, transition_by, IsTransition, FindsSteps}
use Rattle.shape_tree.proofs.SameTransitions.{Decides-same_transition}
use Rattle.shape_tree.proofs.ShapePaths.{IsPathShape-append, shape_path-append, IsShapeOf-append, IsShapeOf-last}
use Rattle.shape_tree.proofs.ShapePaths.{shape_cases, one_shape, shape_of, has_shape_path, has_its_path}
use Rattle.shape_tree.proofs.MissingPaths.{missing_not_there}
use Rattle.shape_tree.proofs.GrownPaths.{has_prefix_of, are_with_next}

-- the path to which a transition leads
abbrev pub target : List Path → Transition → Path
target paths step = extended (shape_path paths step.parent) (step.field ∷ [])

-- a transition leads to the same path where paths are added
target-append : (paths more : List Path) (step : Transition) → IsPathShape paths step.parent
    → target (paths ++ more) step ≡ target paths step
target-append paths more step starts =
    ap (λ path. extended path (step.field ∷ [])) (shape_path-append paths more step.parent starts)

-- a transition stays one where paths are added
pub IsTransition-append : (paths more : List Path) (step : Transition) (shape : ℕ) → IsTransition paths step shape
    → IsTransition (paths ++ more) step shape
IsTransition-append paths more step shape is =
    let new = paths ++ more in
    record {
      starts = IsPathShape-append paths more step.parent is.starts;
      leads = subst (λ path. IsShapeOf new path shape) (sym (target-append paths more step is.starts))
          (IsShapeOf-append paths more (target paths step) shape is.leads);
    }

-- the transition to the path that comes last
last_transition : (paths : List Path) (step : Transition) → IsPathShape paths step.parent
    → IsTransition (paths ++ target paths step ∷ []) step (first_path_shape + length paths)
last_transition paths step starts =
    let new = paths ++ target paths step ∷ [] in
    record {
      starts = IsPathShape-append paths (target paths step ∷ []) step.parent starts;
      leads = subst (λ path. IsShapeOf new path (first_path_shape + length paths))
          (sym (target-append paths (target paths step ∷ []) step starts)) (IsShapeOf-last paths (target paths step));
    }

-- so the step to the path that comes last may be cached
pub last_step : (paths : List Path) (parent next : ℕ) (field : PathField) → IsPathShape paths parent
    → next ≡ first_path_shape + length paths
    → IsTransition (paths ++ extended (shape_path paths parent) (field ∷ []) ∷ []) (transition_by parent field) next
last_step paths parent next field starts comes =
    subst (IsTransition (paths ++ extended (shape_path paths parent) (field ∷ []) ∷ []) (transition_by parent field))
    (sym comes) (last_transition paths (transition_by parent field) starts)

-- a transition to a path that was there was one
was_transition : (paths more : List Path) (step : Transition) (shape : ℕ) → ArePaths paths → ArePaths (paths ++ more)
    → IsPathShape (paths ++ more) step.parent → IsShapeOf paths (target (paths ++ more) step) shape
    → IsTransition paths step shape
was_transition paths more step shape are after starts leads =
    let new = paths ++ more in
    let parent = shape_path new step.parent in
    let there : Contains paths parent =
    has_prefix_of paths parent (step.field ∷ []) are
    (has_its_path paths (target new step) shape leads) in
    let (old, is) = shape_of paths parent there in
    let later = IsShapeOf-append paths more parent old is in
    let same : old ≡ step.parent =
    one_shape new old step.parent after.distinct later.is_shape starts later.of_path in
    let starts_there : IsPathShape paths step.parent = subst (IsPathShape paths) same is.is_shape in
    record {
      starts = starts_there;
      leads = subst (λ path. IsShapeOf paths path shape) (target-append paths more step starts_there) leads;
    }

-- a transition to the path that comes last is the one that was added
is_added : (paths : List Path) (step other : Transition) → ArePaths (paths ++ target paths step ∷ [])
    → IsPathShape paths step.parent → IsPathShape (paths ++ target paths step ∷ []) other.parent
    → target paths step ≡ target (paths ++ target paths step ∷ []) other → step ≡ other
is_added paths step other after starts others same =
    let new = paths ++ target paths step ∷ [] in
    let caps = ap (λ (path : Path). path.cap) same in
    let moved =
    same_from_push (shape_path paths step.parent).fields (shape_path new other.parent).fields step.field other.field
    (ap (λ (path : Path). path.fields) same) in
    let resized : Path =
    record { cap = (shape_path new other.parent).cap; fields = (shape_path paths step.parent).fields } in
    let first : shape_path paths step.parent ≡ resized =
    ap (λ n. record { cap = n; fields = (shape_path paths step.parent).fields }) caps in
    let second : resized ≡ shape_path new other.parent =
    ap (λ fs. record { cap = (shape_path new other.parent).cap; fields = fs }) moved.0 in
    let paths_same = shape_path-append paths (target paths step ∷ []) step.parent starts ∙ (first ∙ second) in
    let parents : step.parent ≡ other.parent =
    one_shape new step.parent other.parent after.distinct
    (IsPathShape-append paths (target paths step ∷ []) step.parent starts) others paths_same in
    ap (λ n. transition_by n step.field) parents ∙ ap (transition_by other.parent) moved.1

-- the look-up has one transition more, to the next shape
abbrev pub AddsStep : List Path → Transition → (Transition → Option ℕ) → (Transition → Option ℕ) → Type 0
AddsStep paths step look more =
    (other : Transition)
    → more other ≡ cond (same_transition step other) (Some (first_path_shape + length paths)) (look other)

-- what it then finds is a transition
finds_more_sound : (paths : List Path) (step : Transition) (look more : Transition → Option ℕ)
    → IsPathShape paths step.parent → FindsSteps paths look → AddsStep paths step look more
    → (other : Transition) (shape : ℕ) → more other ≡ Some shape
    → IsTransition (paths ++ target paths step ∷ []) other shape
finds_more_sound paths step look more starts finds adds other shape found =
    let new = paths ++ target paths step ∷ [] in
    let next = first_path_shape + length paths in
    elim (cases_Bool (same_transition step other)) [
      | inl is ↦
          let same : step ≡ other = (Decides-same_transition step other).0 is in
          let end : next ≡ shape =
          let both : Some next ≡ Some shape =
          sym (adds other ∙ cond-true (same_transition step other) (Some next) (look other) is) ∙ found in cc in
          subst (λ t. IsTransition new t shape) same
          (subst (IsTransition new step) end (last_transition paths step starts))
      | inr isnt ↦
          let was : look other ≡ Some shape =
          sym (adds other ∙ cond-false (same_transition step other) (Some next) (look other) isnt) ∙ found in
          IsTransition-append paths (target paths step ∷ []) other shape (finds.sound other shape was)
    ]

-- and it finds each transition
finds_more_complete : (paths : List Path) (step : Transition) (look more : Transition → Option ℕ)
    → ArePaths paths → ArePaths (paths ++ target paths step ∷ []) → IsPathShape paths step.parent
    → IsMissing paths (target paths step) → FindsSteps paths look → AddsStep paths step look more
    → (other : Transition) (shape : ℕ) → IsTransition (paths ++ target paths step ∷ []) other shape
    → more other ≡ Some shape
finds_more_complete paths step look more are after starts missed finds adds other shape is =
    let new = paths ++ target paths step ∷ [] in
    let next = first_path_shape + length paths in
    elim (shape_cases paths (target paths step) (target new other) shape is.leads) [
      | inl before ↦
          let was = was_transition paths (target paths step ∷ []) other shape are after is.starts before in
          let isnt : same_transition step other ≡ false =
          false_from_ne_true (same_transition step other) (λ passes.
          let same = (Decides-same_transition step other).0 passes in
          let leads : IsShapeOf paths (target paths step) shape =
          subst (λ t. IsShapeOf paths (target paths t) shape) (sym same) was.leads in
          missing_not_there paths (target paths step) missed (has_its_path paths (target paths step) shape leads)) in
          adds other ∙ cond-false (same_transition step other) (Some next) (look other) isnt
          ∙ finds.complete other shape was
      | inr (end, last) ↦
          let same = is_added paths step other after starts is.starts last in
          let passes = (Decides-same_transition step other).1 same in
          adds other ∙ cond-true (same_transition step other) (Some next) (look other) passes ∙ ap Some (sym end)
    ]

-- after a missing path was added, and the transition to it, the look-up finds each transition and nothing else
pub finds_more : (paths : List Path) (parent : ℕ) (field : PathField) (look more : Transition → Option ℕ)
    → ArePaths paths → IsPathShape paths parent → IsMissing paths (extended (shape_path paths parent) (field ∷ []))
    → IsPath (extended (shape_path paths parent) (field ∷ [])) → FindsSteps paths look
    → AddsStep paths (transition_by parent field) look more
    → FindsSteps (paths ++ extended (shape_path paths parent) (field ∷ []) ∷ []) more
finds_more paths parent field look more are starts missed is finds adds =
    let step = transition_by parent field in
    let after =
    are_with_next paths (shape_path paths parent) field are (has_shape_path paths parent starts) missed is in
    record {
      sound = finds_more_sound paths step look more starts finds adds;
      complete = finds_more_complete paths step look more are after starts missed finds adds;
    }
