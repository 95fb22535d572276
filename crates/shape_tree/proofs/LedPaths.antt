-- What a change of fields that was carried out, or refused, leaves.
use Rattle.std.proofs.Common.{◌≡◌, ℕ, ◌+◌, ◌<◌, ◌≤◌, List, [], ◌∷◌, ◌++◌, length, Some, None, sym, ap}
use Rattle.std.proofs.Common.{◌∙◌}
use Rattle.std.proofs.Common.{arith, subst, append-nil, length-append}
use Rattle.std.specs.Prelude.{Result, Err}
use Rattle.std.specs.Result.{IsErrAnd}
use Rattle.std.proofs.lemmas.Result.{err_from_is_err_and}
use Rattle.std.proofs.lemmas.Bool.{leb-true, le-leb, cond-true}
use Rattle.std.proofs.lemmas.Option.{cond_some}
use Rattle.tagged_word.specs.Shapes.{first_path_shape}
use Rattle.object_graph.specs.declared.path.Path.{Path}
use Rattle.object_graph.specs.declared.path.PathField.{PathField}
use Rattle.object_graph.specs.Paths.{missing, may_have, with_path}
use Rattle.object_graph.specs.Limits.{paths_most}
use Rattle.object_graph.specs.Invariants.{IsPath}
use Rattle.object_graph.proofs.AddedPaths.{adds}
use Rattle.shape_tree.specs.Shapes.{AreShapes, IsPathShape, IsShapeOf, shape_path, Leads}
use Rattle.shape_tree.specs.Growth.{extended, IsMissing}
use Rattle.shape_tree.proofs.ShapePaths.{has_its_path, has_shape_path, IsShapeOf-last}
use Rattle.shape_tree.proofs.GrownPaths.{missing-there, missing-extended}

-- there are no more paths afterwards than there may be
with_path-few : (most : ℕ) (old new : List Path) (path : Path) → with_path (Some most) old path ≡ Some new
    → length new ≤ most
with_path-few most old new path is =
    let more = missing old path in
    let test = cond_some (may_have (Some most) (length old + length more)) (old ++ more) new is in
    let few = leb-true (length old + length more) most test.0 in
    subst (λ paths. length paths ≤ most) test.1 (omega (arith, few, length-append old more))

-- the paths are good afterwards
pub AreShapes-after : (old new : List Path) (path : Path) (next : ℕ) → AreShapes old → IsPath path
    → Leads old new path next → AreShapes new
AreShapes-after old new path next good is leads =
    record {
      are = (adds (Some paths_most) old new path leads.added good.are is).are;
      few = with_path-few paths_most old new path leads.added;
    }

-- where there may be so many, the missing paths come behind the others
pub with_path-added : (old new : List Path) (path : Path) → new ≡ old ++ missing old path
    → length old + length (missing old path) ≤ paths_most → with_path (Some paths_most) old path ≡ Some new
with_path-added old new path is few =
    let more = missing old path in
    cond-true (may_have (Some paths_most) (length old + length more)) (Some (old ++ more)) None
    (le-leb (length old + length more) paths_most few) ∙ ap Some (sym is)

-- a path that is there is led to with nothing added
pub leads_there : (paths : List Path) (path : Path) (shape : ℕ) → AreShapes paths → IsShapeOf paths path shape
    → Leads paths paths path shape
leads_there paths path shape good is =
    let none : missing paths path ≡ [] = missing-there paths path good.are (has_its_path paths path shape is) in
    let same : paths ≡ paths ++ missing paths path = sym (ap (λ more. paths ++ more) none ∙ append-nil paths) in
    let few : length paths + length (missing paths path) ≤ paths_most = omega (arith, good.few, ap length none) in
    record { added = with_path-added paths paths path same few; shape_is = is }

-- of a path that is there none is missing
pub none_missing : (paths : List Path) (path : Path) (shape : ℕ) → AreShapes paths → IsShapeOf paths path shape
    → length (missing paths path) ≡ 0
none_missing paths path shape good is =
    ap length (missing-there paths path good.are (has_its_path paths path shape is))

-- of a missing path with a field more than one that is there, it alone is missing
missing_alone : (paths : List Path) (shape : ℕ) (field : PathField) → AreShapes paths → IsPathShape paths shape
    → IsMissing paths (extended (shape_path paths shape) (field ∷ []))
    → missing paths (extended (shape_path paths shape) (field ∷ []))
    ≡ extended (shape_path paths shape) (field ∷ []) ∷ []
missing_alone paths shape field good is missed =
    missing-extended paths (shape_path paths shape) (field ∷ []) good.are (has_shape_path paths shape is) missed

-- one path is missing of such a path
pub one_missing : (paths : List Path) (shape : ℕ) (field : PathField) → AreShapes paths → IsPathShape paths shape
    → IsMissing paths (extended (shape_path paths shape) (field ∷ []))
    → length (missing paths (extended (shape_path paths shape) (field ∷ []))) ≡ 1
one_missing paths shape field good is missed = ap length (missing_alone paths shape field good is missed)

-- such a path is led to once it was added behind the others
pub leads_added : (paths new : List Path) (shape next : ℕ) (field : PathField) → AreShapes paths
    → IsPathShape paths shape → IsMissing paths (extended (shape_path paths shape) (field ∷ []))
    → length paths < paths_most → new ≡ paths ++ extended (shape_path paths shape) (field ∷ []) ∷ []
    → next ≡ first_path_shape + length paths
    → Leads paths new (extended (shape_path paths shape) (field ∷ [])) next
leads_added paths new shape next field good is missed room added comes =
    let path = extended (shape_path paths shape) (field ∷ []) in
    let alone = missing_alone paths shape field good is missed in
    let behind : new ≡ paths ++ missing paths path = added ∙ ap (λ more. paths ++ more) (sym alone) in
    record {
      added = with_path-added paths new path behind (omega (arith, room, ap length alone));
      shape_is = subst (λ all. IsShapeOf all path next) (sym added)
          (subst (IsShapeOf (paths ++ path ∷ []) path) (sym comes) (IsShapeOf-last paths path));
    }

-- what holds of the refusal that a `?` makes holds of the answer with it
pub refused_with : {T E : Type 0} (P : Result T E → Type 0) (answer : Result T E) (refusal : E)
    → IsErrAnd answer (λ other. other ≡ refusal) → P (Err refusal) → P answer
refused_with P answer refusal is says =
    let (other, same, made) = err_from_is_err_and answer is in
    subst P (sym same) (subst (λ e. P (Err e)) (sym made) says)
