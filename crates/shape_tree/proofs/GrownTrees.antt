-- A tree after one path was added.
use Rattle.std.proofs.Common.{◌≡◌, ℕ, ◌+◌, ◌-◌, ◌<◌, List, [], ◌∷◌, ◌++◌, length, get_or}
use Rattle.std.proofs.Common.{sym, ap, ◌∙◌, subst}
use Rattle.std.proofs.Common.{arith, length-append}
use Rattle.std.specs.Prelude.{All, set}
use Rattle.std.specs.HashMap.{get}
use Rattle.tagged_word.specs.Shapes.{first_path_shape}
use Rattle.object_graph.specs.declared.path.Path.{Path}
use Rattle.object_graph.specs.declared.path.PathField.{PathField}
use Rattle.object_graph.specs.Invariants.{IsPath}
use Rattle.object_graph.specs.Limits.{paths_most}
use Rattle.shape_tree.specs.declared.node.Node.{Node}
use Rattle.shape_tree.specs.declared.cached.Cached.{Cached}
use Rattle.shape_tree.specs.declared.tree.ShapeTree.TheInside.{Inside}
use Rattle.shape_tree.specs.Shapes.{AreShapes, IsPathShape, shape_path}
use Rattle.shape_tree.specs.Growth.{extended, IsMissing}
use Rattle.shape_tree.specs.Nodes.{same_transition, transition_by, paths_in, IsNode, IsCached}
use Rattle.shape_tree.specs.Nodes.{AreCached, AreAltered, AreLookedUp, FindsSteps}
use Rattle.shape_tree.specs.Trees.{HasCapacity, IsTree, paths_of}
use Rattle.shape_tree.proofs.ShapePaths.{has_shape_path}
use Rattle.shape_tree.proofs.GrownPaths.{are_with_next}
use Rattle.shape_tree.proofs.FoundSteps.{AddsStep, last_step, finds_more}
use Rattle.shape_tree.proofs.CachedSteps.{cache_grown}
use Rattle.shape_tree.proofs.KeptAlterations.{AreAltered-append}
use Rattle.shape_tree.proofs.LookedUpFields.{AreLookedUp-append}
use Rattle.shape_tree.proofs.GrownNodes.{IsGrown, fields_with, paths_in-grown, each-grown}

-- the entry of the cache for the step by a field
abbrev pub cached_by : ℕ → PathField → ℕ → Cached
cached_by parent field shape = record { step = transition_by parent field; shape = shape }

-- a tree has one path more, with its fields, its node and the transition to it, which is cached at some entry; the
-- other caches stay
pub record IsMore (tree new : Inside) (parent : ℕ) (field : PathField) (node grown : Node)
    (entry next : ℕ) : Type 0 where
  pub at : node ≡ get_or tree.nodes.items (parent - first_path_shape) node
  pub node_is : IsGrown tree.fields.items node parent field grown
  pub fields : new.fields.items ≡ fields_with tree.fields.items node field
  pub nodes : new.nodes.items ≡ tree.nodes.items ++ grown ∷ []
  pub comes : next ≡ first_path_shape + length (paths_of tree)
  pub cache : new.cache.items ≡ set tree.cache.items entry (cached_by parent field next)
  pub alterations : new.alterations.items ≡ tree.alterations.items
  pub look_ups : new.look_ups.items ≡ tree.look_ups.items
  pub steps :
      AddsStep (paths_of tree) (transition_by parent field) (get same_transition tree.steps)
      (get same_transition new.steps)
  pub room : HasCapacity new

-- it shows the paths with that path, and is a tree
pub record Became (paths : List Path) (path : Path) (new : Inside) : Type 0 where
  pub is : IsTree new
  pub shows : paths_of new ≡ paths ++ path ∷ []

-- what the tree shows becomes a tree's
more_becomes : (tree new : Inside) (parent : ℕ) (field : PathField) (node grown : Node) (entry next : ℕ) → IsTree tree
    → IsMore tree new parent field node grown entry next → IsPathShape (paths_of tree) parent
    → IsMissing (paths_of tree) (extended (shape_path (paths_of tree) parent) (field ∷ []))
    → IsPath (extended (shape_path (paths_of tree) parent) (field ∷ [])) → length (paths_of tree) < paths_most
    → Became (paths_of tree) (extended (shape_path (paths_of tree) parent) (field ∷ [])) new
more_becomes tree new parent field node grown entry next is more starts missed may room =
    let fields = tree.fields.items in
    let nodes = tree.nodes.items in
    let paths = paths_of tree in
    let path = extended (shape_path paths parent) (field ∷ []) in
    let after = paths ++ path ∷ [] in
    let behind = fields_with fields node field in
    let shown : paths_of new ≡ after =
    ap (λ rs. paths_in rs new.nodes.items) more.fields ∙ ap (paths_in behind) more.nodes
    ∙ paths_in-grown fields nodes parent field node grown is.each starts more.at more.node_is in
    let each = each-grown fields nodes parent field node grown (path ∷ []) is.each starts more.at more.node_is in
    let good : AreShapes after = record {
      are = are_with_next paths (shape_path paths parent) field is.shapes.are
          (has_shape_path paths parent starts) missed may;
      few = omega (arith, room, length-append paths (path ∷ []));
    } in
    let finds =
    finds_more paths parent field (get same_transition tree.steps) (get same_transition new.steps) is.shapes.are
    starts missed may is.finds more.steps in
    let cached = cached_by parent field next in
    let kept : IsCached after cached = λ some. last_step paths parent next field starts more.comes in
    let cache = cache_grown paths (path ∷ []) tree.cache.items entry cached is.cached kept in
    record {
      is = record {
        shapes = subst AreShapes (sym shown) good;
        each = subst (λ rs. All (IsNode rs (paths_of new)) new.nodes.items) (sym more.fields)
            (subst (All (IsNode behind (paths_of new))) (sym more.nodes)
            (subst (λ ps. All (IsNode behind ps) (nodes ++ grown ∷ [])) (sym shown) each));
        finds = subst (λ ps. FindsSteps ps (get same_transition new.steps)) (sym shown) finds;
        cached = subst (AreCached (paths_of new)) (sym more.cache)
            (subst (λ ps. AreCached ps (set tree.cache.items entry cached)) (sym shown) cache);
        altered = subst (AreAltered (paths_of new)) (sym more.alterations)
            (subst (λ ps. AreAltered ps tree.alterations.items) (sym shown)
            (AreAltered-append paths (path ∷ []) tree.alterations.items is.altered));
        looked_up = subst (AreLookedUp (paths_of new)) (sym more.look_ups)
            (subst (λ ps. AreLookedUp ps tree.look_ups.items) (sym shown)
            (AreLookedUp-append paths (path ∷ []) tree.look_ups.items is.looked_up));
        room = more.room;
      };
      shows = shown;
    }

-- the same of a tree that shows these paths
pub more_shown : (tree new : Inside) (paths : List Path) (parent : ℕ) (field : PathField) (node grown : Node)
    (entry next : ℕ) → IsTree tree → paths_of tree ≡ paths → IsMore tree new parent field node grown entry next
    → IsPathShape paths parent
    → IsMissing paths (extended (shape_path paths parent) (field ∷ []))
    → IsPath (extended (shape_path paths parent) (field ∷ [])) → length paths < paths_most
    → Became paths (extended (shape_path paths parent) (field ∷ [])) new
more_shown tree new paths parent field node grown entry next is shown more =
    subst (λ ps.
    IsPathShape ps parent → IsMissing ps (extended (shape_path ps parent) (field ∷ []))
    → IsPath (extended (shape_path ps parent) (field ∷ [])) → length ps < paths_most
    → Became ps (extended (shape_path ps parent) (field ∷ [])) new) shown
    (more_becomes tree new parent field node grown entry next is more)
