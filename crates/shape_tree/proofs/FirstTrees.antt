-- The tree of the nine empty paths, and a tree that is a copy of another.
use Rattle.std.proofs.Common.{◌≡◌, ℕ, ◌-◌, ◌<◌, List, [], ◌∷◌, length, map, Option, None, refl, sym, ap}
use Rattle.std.proofs.Common.{◌∙◌, subst}
use Rattle.std.proofs.Common.{arith, length-append}
use Rattle.std.specs.Prelude.{All, replicate}
use Rattle.std.specs.List.{range_with_len}
use Rattle.std.specs.HashMap.{get}
use Rattle.std.specs.Map.{lookup}
use Rattle.std.proofs.lemmas.List.FromFn.{length-map-range_with_len, get_or-map-range_with_len}
use Rattle.tagged_word.specs.Shapes.{first_path_shape}
use Rattle.object_graph.specs.declared.path.Path.{Path}
use Rattle.object_graph.specs.Paths.{empty_paths}
use Rattle.object_graph.proofs.FirstPaths.{length-empty_paths, get_or-empty_paths, empty_paths_are}
use Rattle.shape_tree.specs.declared.node.Node.{Node}
use Rattle.shape_tree.specs.declared.transition.Transition.{Transition}
use Rattle.shape_tree.specs.declared.tree.ShapeTree.TheInside.{Inside}
use Rattle.shape_tree.specs.Shapes.{AreShapes, shape_path}
use Rattle.shape_tree.specs.Nodes.{same_transition, root_node_of, cache_entries, empty_entry, paths_in, IsNode}
use Rattle.shape_tree.specs.Nodes.{IsTransition, FindsSteps, AreCached, AreAltered, AreLookedUp}
use Rattle.shape_tree.specs.Nodes.{alteration_entries, no_alteration, look_up_entries, no_look_up}
use Rattle.shape_tree.specs.Trees.{HasCapacity, IsTree, paths_of}
use Rattle.shape_tree.proofs.CachedSteps.{empty_cache}
use Rattle.shape_tree.proofs.KeptAlterations.{none_altered}
use Rattle.shape_tree.proofs.LookedUpFields.{none_looked_up}

-- a tree with the fields, the nodes, the transitions and the caches of another
pub copied_tree : (other new : Inside) → IsTree other → new.fields.items ≡ other.fields.items
    → new.nodes.items ≡ other.nodes.items
    → ((step : Transition) → get same_transition new.steps step ≡ get same_transition other.steps step)
    → new.cache.items ≡ other.cache.items → new.alterations.items ≡ other.alterations.items
    → new.look_ups.items ≡ other.look_ups.items → HasCapacity new → IsTree new
copied_tree other new is fields nodes steps cache alterations look_ups room =
    let shown : paths_of new ≡ paths_of other =
    ap (λ rs. paths_in rs new.nodes.items) fields ∙ ap (paths_in other.fields.items) nodes in
    let finds : FindsSteps (paths_of other) (get same_transition new.steps) = record {
      sound = λ step shape found. is.finds.sound step shape (sym (steps step) ∙ found);
      complete = λ step shape leads. steps step ∙ is.finds.complete step shape leads;
    } in
    record {
      shapes = subst AreShapes (sym shown) is.shapes;
      each = subst (λ rs. All (IsNode rs (paths_of new)) new.nodes.items) (sym fields)
          (subst (All (IsNode other.fields.items (paths_of new))) (sym nodes)
          (subst (λ ps. All (IsNode other.fields.items ps) other.nodes.items) (sym shown) is.each));
      finds = subst (λ ps. FindsSteps ps (get same_transition new.steps)) (sym shown) finds;
      cached = subst (AreCached (paths_of new)) (sym cache)
          (subst (λ ps. AreCached ps other.cache.items) (sym shown) is.cached);
      altered = subst (AreAltered (paths_of new)) (sym alterations)
          (subst (λ ps. AreAltered ps other.alterations.items) (sym shown) is.altered);
      looked_up = subst (AreLookedUp (paths_of new)) (sym look_ups)
          (subst (λ ps. AreLookedUp ps other.look_ups.items) (sym shown) is.looked_up);
      room = room;
    }

-- the nodes of the nine empty paths
abbrev pub root_nodes_of : List Node
root_nodes_of = map root_node_of (range_with_len 0 9)

-- they show these paths
paths_in-root_nodes_of : paths_in [] root_nodes_of ≡ empty_paths
paths_in-root_nodes_of = refl

-- each is a node
root_is_node : (paths : List Path) (cap : ℕ) → IsNode [] paths (root_node_of cap)
root_is_node paths cap = record { within = omega arith; layout = refl; parent = λ some. absurd (omega arith) }

-- so all are
roots_are_nodes : (paths : List Path) → All (IsNode [] paths) root_nodes_of
roots_are_nodes paths k d below =
    let inside : k < 9 = omega (arith, length-map-range_with_len root_node_of 0 9) in
    subst (IsNode [] paths)
    (sym (get_or-map-range_with_len root_node_of 0 9 k k d inside (omega arith))) (root_is_node paths k)

-- no transition leads to an empty path
no_transition : (step : Transition) (shape : ℕ) → IsTransition empty_paths step shape → ⊥
no_transition step shape is =
    let place : shape - first_path_shape < 9 =
    omega (arith, length-empty_paths, is.leads.is_shape.from, is.leads.is_shape.below) in
    let empty = get_or-empty_paths (shape - first_path_shape) (record { cap = 0; fields = [] }) place in
    let same = ap (λ (p : Path). length p.fields) (sym empty ∙ is.leads.of_path) in
    omega (arith, same, length-append (shape_path empty_paths step.parent).fields (step.field ∷ []))

-- so an empty table finds each transition
empty_finds : (look : Transition → Option ℕ) → ((step : Transition) → look step ≡ None) → FindsSteps empty_paths look
empty_finds look none = record {
  sound = λ step shape found. let nothing = none step in absurd (cc);
  complete = λ step shape is. absurd (no_transition step shape is);
}

-- the first tree
pub first_tree : (new : Inside) → new.fields.items ≡ [] → new.nodes.items ≡ root_nodes_of
    → new.steps.entries ≡ [] → new.cache.items ≡ replicate cache_entries empty_entry
    → new.alterations.items ≡ replicate alteration_entries no_alteration
    → new.look_ups.items ≡ replicate look_up_entries no_look_up → HasCapacity new → IsTree new
first_tree new fields nodes steps cache alterations look_ups room =
    let shown : paths_of new ≡ empty_paths =
    ap (λ rs. paths_in rs new.nodes.items) fields ∙ ap (paths_in []) nodes ∙ paths_in-root_nodes_of in
    let good : AreShapes empty_paths = record { are = empty_paths_are; few = omega (arith, length-empty_paths) } in
    let none : (step : Transition) → get same_transition new.steps step ≡ None = λ step.
    ap (lookup (same_transition step)) steps in
    record {
      shapes = subst AreShapes (sym shown) good;
      each = subst (λ rs. All (IsNode rs (paths_of new)) new.nodes.items) (sym fields)
          (subst (All (IsNode [] (paths_of new))) (sym nodes) (roots_are_nodes (paths_of new)));
      finds = subst (λ ps. FindsSteps ps (get same_transition new.steps)) (sym shown)
          (empty_finds (get same_transition new.steps) none);
      cached = subst (AreCached (paths_of new)) (sym cache) (empty_cache (paths_of new));
      altered = subst (AreAltered (paths_of new)) (sym alterations) (none_altered (paths_of new));
      looked_up = subst (AreLookedUp (paths_of new)) (sym look_ups) (none_looked_up (paths_of new));
      room = room;
    }
