-- Ways through a tree of shapes.
use Rattle.std.specs.Prelude.{◌≡◌, List}
use Rattle.object_graph.specs.declared.path.Path.{Path}
use Rattle.object_graph.specs.Invariants.{IsPath}
use Rattle.shape_tree.specs.declared.walking.Walk.{Walk}
use Rattle.shape_tree.specs.declared.route.Route.{Route}
use Rattle.shape_tree.specs.Shapes.{AreShapes, IsPathShape, shape_path}
use Rattle.shape_tree.specs.Growth.{extended, FirstIsMissing}

-- the walk came to the longest prefix of the path that is there: what is left makes the path, and the next one is
-- missing
pub record WalksTo (paths : List Path) (path : Path) (walk : Walk) : Type 0 where
  pub good : AreShapes paths
  pub at : IsPathShape paths walk.shape
  pub same : extended (shape_path paths walk.shape) walk.rest.now ≡ path
  pub fresh : FirstIsMissing paths (shape_path paths walk.shape) walk.rest.now

-- the fields of the route make the path from that of its shape, and it may be a path
pub record RoutesTo (paths : List Path) (path : Path) (route : Route) : Type 0 where
  pub at : IsPathShape paths route.from
  pub same : extended (shape_path paths route.from) route.tail ≡ path
  pub is : IsPath path
