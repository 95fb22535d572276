-- An entry that tells of the name tells of it truly; so does one that was put in.
use Rattle.std.proofs.Common.{◌≡◌, ℕ, ◌+◌, ◌-◌, ◌<◌, List, length, get_or, take, drop, sym, subst, arith}
use Rattle.std.proofs.Common.{length-take}
use Rattle.std.specs.Global.{Vec}
use Rattle.object_graph.specs.declared.path.Path.{Path}
use Rattle.shape_tree.specs.declared.look_ups.LookUp.{LookUp}
use Rattle.shape_tree.specs.declared.tree.ShapeTree.TheInside.{Inside}
use Rattle.shape_tree.specs.Nodes.{AreLookedUp}
use Rattle.shape_tree.specs.Trees.{IsTree, paths_of}
use Rattle.shape_tree.proofs.HeldNodes.{IsNodeOf-shown, own_path}
use Rattle.shape_tree.proofs.LookedUpFields.{AreLookedUp-kept, Answers, looked_up_at, told, still_told}
use Rattle.shape_tree.proofs.tree.ShapeTree.lookup.Goals as goal
use Rattle.shape_tree.proofs.tree.ShapeTree.lookup.Goals.{then-not-is_for, else-not-is_for}

pub keep_look_up-requires-clause-few : goal.keep_look_up-requires-clause-few
keep_look_up-requires-clause-few c =
    let node = c.index-node.result.now in
    let is = IsNodeOf-shown c.self.inside c.args.self.now c.args.shape node c.self.invariant c.self.view_is
    c.requires c.index-node.ensures in
    let behind = drop node.start c.deref.result.now in
    omega (arith, is.short, length-take (node.start + node.count - node.start) behind)

pub keep_look_up-requires-clause-capped : goal.keep_look_up-requires-clause-capped
keep_look_up-requires-clause-capped c =
    let is = IsNodeOf-shown c.self.inside c.args.self.now c.args.shape c.index-node.result.now c.self.invariant
    c.self.view_is c.requires c.index-node.ensures in
    is.capped

-- a tree stays one with another look-up cache, each entry of which tells of a path, or of nothing
tree_looked_up : (tree : Inside) (look_ups : Vec LookUp) → IsTree tree → AreLookedUp (paths_of tree) look_ups.items
    → IsTree (record tree { look_ups = look_ups })
tree_looked_up tree look_ups is looked_up = record {
  shapes = is.shapes;
  each = is.each;
  finds = is.finds;
  cached = is.cached;
  altered = is.altered;
  looked_up = looked_up;
  room = record {
    fields = is.room.fields;
    nodes = is.room.nodes;
    steps = is.room.steps;
    short = is.room.short;
    few = is.room.few;
  };
}

-- a tree shows these paths, and its entry tells of this name in the path of this shape
record Tells (paths : List Path) (entry shape name : ℕ) (tree : Inside) : Type 0 where
  is : IsTree tree
  shows : paths_of tree ≡ paths
  here : (look_up : LookUp) → look_up ≡ get_or tree.look_ups.items entry look_up
      → (look_up.shape ≡ shape) × (look_up.name ≡ name)

-- the tree is one then, whether the entry told of the name or came to tell of it
tells : (c : goal.After-found)
    → Tells c.args.self.now c.look_up_index-entry.result c.args.shape c.args.name c.if-not-is_for.self-inside
tells c =
    let tree = c.self.inside in
    let paths = c.args.self.now in
    let entry = c.look_up_index-entry.result in
    let shape = c.args.shape in
    let name = c.args.name in
    let is = c.self.invariant in
    let old = tree.look_ups.items in
    let within : entry < length old = omega (arith, is.looked_up.counted, c.look_up_index-entry.ensures) in
    let looked_up = subst (λ ps. AreLookedUp ps old) c.self.view_is is.looked_up in
    elim c.if-not-is_for.branch [
      | then-not-is_for w ↦
          let node = w.index-node.result.now in
          let fields = take (node.start + node.count - node.start) (drop node.start w.deref.result.now) in
          let path : Path = record { cap = node.cap; fields = fields } in
          let own = own_path tree paths shape node w.deref.result.now is c.self.view_is c.requires
          w.index-node.ensures w.deref.ensures.value in
          let new = w.keep_look_up.new.look_ups.items in
          let kept = AreLookedUp-kept paths old new entry path shape name looked_up w.keep_look_up.ensures c.requires
          own in
          let back = subst (λ ps. AreLookedUp ps new) (sym c.self.view_is) kept in
          subst (Tells paths entry shape name) (sym w.self-inside-is) (record {
            is = tree_looked_up tree w.keep_look_up.new.look_ups is back;
            shows = c.self.view_is;
            here = λ look_up at. told old new entry path shape name look_up w.keep_look_up.ensures within at;
          })
      | else-not-is_for w ↦
          subst (Tells paths entry shape name) (sym w.self-inside-is) (record {
            is = is;
            shows = c.self.view_is;
            here = λ look_up at. still_told old entry shape name c.index.result.now look_up within c.index.ensures at
                (c.is_for.ensures.0 w.if-not-is_for.false);
          })
    ]

pub invariant_of-self : goal.invariant_of-self
invariant_of-self c = (tells c).is

-- what was found is right
answers : (c : goal.After-found) → Answers c.args.self.now c.args.shape c.args.name c.found.result
answers c =
    let paths = c.args.self.now in
    let cache = c.if-not-is_for.self-inside.look_ups.items in
    let look_up = c.index-2.result.now in
    let at = (tells c).here look_up c.index-2.ensures in
    let are = subst (λ ps. AreLookedUp ps cache) (tells c).shows (tells c).is.looked_up in
    subst (Answers paths c.args.shape c.args.name) (sym c.found.ensures)
    (looked_up_at paths cache c.look_up_index-entry.result c.args.shape c.args.name look_up are
    c.look_up_index-entry.ensures c.index-2.ensures c.requires at.0 at.1)

pub returns-clause-found : goal.returns-clause-found
returns-clause-found c = (answers c).there

pub returns-clause-none : goal.returns-clause-none
returns-clause-none c = (answers c).none
