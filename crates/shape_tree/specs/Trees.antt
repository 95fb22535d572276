-- The invariant of a tree of shapes.
use Rattle.std.specs.Prelude.{◌+◌, ◌*◌, ◌≤◌, List, length, All}
use Rattle.std.specs.Vec.{vec_capacity}
use Rattle.std.specs.HashMap.{get, hash_map_len, spare}
use Rattle.object_graph.specs.declared.path.Path.{Path}
use Rattle.object_graph.specs.Invariants.{fields_most}
use Rattle.object_graph.specs.Limits.{paths_most}
use Rattle.shape_tree.specs.declared.tree.ShapeTree.TheInside.{Inside}
use Rattle.shape_tree.specs.Shapes.{AreShapes}
use Rattle.shape_tree.specs.Nodes.{same_transition, paths_in, IsNode, FindsSteps, AreCached}
use Rattle.shape_tree.specs.Nodes.{AreAltered, AreLookedUp}

-- there is room for all the paths that there may be
pub record HasCapacity (tree : Inside) : Type 0 where
  pub fields : fields_most * paths_most ≤ vec_capacity tree.fields
  pub nodes : paths_most ≤ vec_capacity tree.nodes
  pub steps : paths_most ≤ hash_map_len tree.steps + spare tree.steps
  pub short : length tree.fields.items ≤ fields_most * length tree.nodes.items
  pub few : hash_map_len tree.steps ≤ length tree.nodes.items

-- the paths of a tree
abbrev pub paths_of : Inside → List Path
paths_of tree = paths_in tree.fields.items tree.nodes.items

-- the invariant of a tree
pub record IsTree (tree : Inside) : Type 0 where
  pub shapes : AreShapes (paths_of tree)
  pub each : All (IsNode tree.fields.items (paths_of tree)) tree.nodes.items
  pub finds : FindsSteps (paths_of tree) (get same_transition tree.steps)
  pub cached : AreCached (paths_of tree) tree.cache.items
  pub altered : AreAltered (paths_of tree) tree.alterations.items
  pub looked_up : AreLookedUp (paths_of tree) tree.look_ups.items
  pub room : HasCapacity tree
