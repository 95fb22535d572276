-- The tree after a path was added.
use Rattle.std.proofs.Common.{◌≡◌, ℕ, ◌+◌, length, take, drop, ◌++◌, length-append, arith, refl, sym, ap}
use Rattle.std.proofs.Common.{◌∙◌, subst, cond, Some, [], ◌∷◌}
use Rattle.std.specs.HashMap.{get}
use Rattle.tagged_word.specs.Shapes.{first_path_shape}
use Rattle.shape_tree.specs.declared.node.Node.{Node}
use Rattle.shape_tree.specs.declared.tree.ShapeTree.TheInside.{Inside}
use Rattle.shape_tree.specs.Shapes.{IsPathShape, shape_path}
use Rattle.shape_tree.specs.Growth.{extended}
use Rattle.shape_tree.specs.Nodes.{same_transition, transition_by, path_at}
use Rattle.shape_tree.specs.Trees.{HasCapacity, paths_of}
use Rattle.shape_tree.proofs.HeldNodes.{IsNodeOf-shown, IsNode-at, length-path_at, length-paths_in}
use Rattle.shape_tree.proofs.GrownNodes.{IsGrown, length-grown_fields}
use Rattle.shape_tree.proofs.GrownTrees.{Became, more_shown}
use Rattle.shape_tree.proofs.SoughtSteps.{nothing_shown}
use Rattle.shape_tree.specs.declared.transition.Transition.{Transition}
use Rattle.shape_tree.proofs.PathLayouts.{layout_of-grown, raw-lt}
use Rattle.shape_tree.proofs.tree.ShapeTree.add.Goals as goal

pub layout_with-layout-requires-clause-few : goal.layout_with-layout-requires-clause-few
layout_with-layout-requires-clause-few c =
    let node = c.index-node.result.now in
    let path = shape_path c.args.self.now c.args.parent in
    let is =
    IsNodeOf-shown c.self.inside c.args.self.now c.args.parent node c.self.invariant c.self.view_is c.requires.path
    c.index-node.ensures in
    raw-lt path node.layout node.count is.layout is.count

pub push_fields-requires-clause-room : goal.push_fields-requires-clause-room
push_fields-requires-clause-room c =
    let tree = c.self.inside in
    let before = c.self.invariant.room in
    let is = IsNodeOf-shown tree c.args.self.now c.args.parent c.index-node.result.now c.self.invariant c.self.view_is
    c.requires.path c.index-node.ensures in
    omega (
      arith,
      before.fields,
      before.short,
      is.count,
      c.requires.is.short,
      length-append (shape_path c.args.self.now c.args.parent).fields (c.args.field ∷ []),
      c.requires.room,
      ap length c.self.view_is,
      length-paths_in tree.fields.items tree.nodes.items,
      tree.fields.ok.0,
    )

pub overflow_add-node : goal.overflow_add-node
overflow_add-node c =
    let is = IsNodeOf-shown c.self.inside c.args.self.now c.args.parent c.index-node.result.now c.self.invariant
    c.self.view_is c.requires.path c.index-node.ensures in
    omega (arith, is.short)

-- the tree as it is then
abbrev new_tree : goal.After-put_cached → Inside
new_tree c = record {
  fields = c.push_fields.new.fields;
  nodes = c.push_reserved.new.self;
  steps = c.put_step.new.steps;
  cache = c.put_cached.new.cache;
  alterations = c.self.inside.alterations;
  look_ups = c.self.inside.look_ups;
}

-- its new node
abbrev new_node : goal.After-put_cached → Node
new_node c =
    record {
      cap = c.index-node.result.now.cap;
      start = c.len-start.result;
      count = c.index-node.result.now.count + 1;
      parent = c.args.parent;
      layout = c.layout_with-layout.result;
    }

-- the new node is that of the path with the field more
node_is : (c : goal.After-put_cached)
    → IsGrown c.self.inside.fields.items c.index-node.result.now c.args.parent c.args.field (new_node c)
node_is c =
    let fields = c.self.inside.fields.items in
    let node = c.index-node.result.now in
    let starts = subst (λ paths. IsPathShape paths c.args.parent) (sym c.self.view_is) c.requires.path in
    let is =
    IsNode-at fields c.self.inside.nodes.items c.args.parent node starts c.self.invariant.each c.index-node.ensures in
    let made = c.layout_with-layout.ensures in
    record {
      cap = refl;
      start = c.len-start.ensures ∙ c.self.inside.fields.ok.0;
      count = refl;
      above = refl;
      layout =
          layout_of-grown (path_at fields node) c.args.field node.layout c.layout_with-layout.result node.count
          is.layout (sym (length-path_at fields node is.within)) made.full made.more;
    }

-- there is room left
has_room : (c : goal.After-put_cached) → HasCapacity (new_tree c)
has_room c =
    let tree = c.self.inside in
    let node = c.index-node.result.now in
    let before = c.self.invariant.room in
    let is = IsNodeOf-shown tree c.args.self.now c.args.parent node c.self.invariant c.self.view_is c.requires.path
    c.index-node.ensures in
    let starts = subst (λ paths. IsPathShape paths c.args.parent) (sym c.self.view_is) c.requires.path in
    let within = (IsNode-at tree.fields.items tree.nodes.items c.args.parent node starts c.self.invariant.each
    c.index-node.ensures).within in
    let own = take node.count (drop node.start tree.fields.items) ++ c.args.field ∷ [] in
    let short = length-append (shape_path c.args.self.now c.args.parent).fields (c.args.field ∷ []) in
    let fields : length c.push_fields.new.fields.items ≡ length tree.fields.items + (node.count + 1) =
    ap length c.push_fields.ensures.pushed ∙ length-append tree.fields.items own
    ∙ ap (λ n. length tree.fields.items + n) (length-grown_fields tree.fields.items node c.args.field within) in
    let nodes : length c.push_reserved.new.self.items ≡ length tree.nodes.items + 1 =
    ap length c.push_reserved.ensures.items ∙ length-append tree.nodes.items (new_node c ∷ []) in
    let steps = c.put_step.ensures.added
    (nothing_shown tree c.args.self.now c.args.parent c.args.field c.self.invariant
    c.self.view_is c.requires.missing) in
    record {
      fields = omega (arith, before.fields, c.push_fields.ensures.room);
      nodes = omega (arith, before.nodes, c.push_reserved.ensures.capacity);
      steps = omega (arith, before.steps, steps, c.put_step.ensures.room);
      short = omega (arith, before.short, fields, nodes, is.count, c.requires.is.short, short);
      few = omega (arith, before.few, steps, nodes);
    }

-- the tree shows the paths with the new one
became : (c : goal.After-put_cached)
    → Became c.args.self.now (extended (shape_path c.args.self.now c.args.parent) (c.args.field ∷ [])) (new_tree c)
became c =
    let tree = c.self.inside in
    let next : 8 + c.len.result ≡ first_path_shape + length (paths_of tree) =
    omega (arith, c.len.ensures, tree.nodes.ok.0, length-paths_in tree.fields.items tree.nodes.items) in
    more_shown tree (new_tree c) c.args.self.now c.args.parent c.args.field c.index-node.result.now (new_node c)
    c.cache_index.result (8 + c.len.result) c.self.invariant c.self.view_is
    (record {
      at = c.index-node.ensures;
      node_is = node_is c;
      fields = c.push_fields.ensures.pushed;
      nodes = c.push_reserved.ensures.items;
      comes = next;
      cache = c.put_cached.ensures;
      alterations = refl;
      look_ups = refl;
      steps = subst (λ (next : ℕ).
          (other : Transition)
          → get same_transition c.put_step.new.steps other
          ≡ cond (same_transition (transition_by c.args.parent c.args.field) other) (Some next)
          (get same_transition tree.steps other)) next c.put_step.ensures.put;
      room = has_room c;
    })
    c.requires.path c.requires.missing c.requires.is c.requires.room

pub invariant_of-self : goal.invariant_of-self
invariant_of-self c = (became c).is

pub returns-clause-added : goal.returns-clause-added
returns-clause-added c = (became c).shows
