-- What the nodes and fields of a tree tell of its paths.
use Rattle.std.proofs.Common.{◌≡◌, ℕ, ◌+◌, ◌-◌, ◌<◌, ◌≤◌, List, [], length, get_or, take, drop, sym, ap}
use Rattle.std.proofs.Common.{◌∙◌, subst, arith}
use Rattle.std.proofs.Common.{◌++◌, length-take, length-drop, length-append}
use Rattle.std.specs.Prelude.{All}
use Rattle.std.proofs.lemmas.List.{length-map, get_or-map, get_or_append_left}
use Rattle.tagged_word.specs.Shapes.{first_path_shape}
use Rattle.object_graph.specs.declared.path.Path.{Path}
use Rattle.object_graph.specs.declared.path.PathField.{PathField}
use Rattle.object_graph.specs.Paths.{prefix_of}
use Rattle.object_graph.specs.Paths.{empty_paths}
use Rattle.heap_command.specs.Commands.{cap_most}
use Rattle.object_graph.specs.Invariants.{IsPath}
use Rattle.object_graph.proofs.FirstPaths.{length-empty_paths, get_or-empty_paths}
use Rattle.shape_tree.specs.declared.tree.ShapeTree.TheInside.{Inside}
use Rattle.shape_tree.specs.Trees.{IsTree, paths_of}
use Rattle.shape_tree.proofs.ShapePaths.{shape_at}
use Rattle.shape_tree.specs.declared.node.Node.{Node}
use Rattle.shape_tree.specs.Shapes.{AreShapes, IsPathShape, IsShapeOf, shape_path}
use Rattle.shape_tree.specs.ShapeLayouts.{layout_of}
use Rattle.shape_tree.specs.Nodes.{path_at, paths_in, IsNode, IsNodeOf}

-- the path of a shape is a path
pub shape_path_is : (paths : List Path) (shape : ℕ) → AreShapes paths → IsPathShape paths shape
    → IsPath (shape_path paths shape)
shape_path_is paths shape good is =
    good.are.each (shape - first_path_shape) (record { cap = 0; fields = [] }) (omega arith)

-- there is a node for each path
pub length-paths_in : (fields : List PathField) (nodes : List Node) → length (paths_in fields nodes) ≡ length nodes
length-paths_in fields nodes = length-map nodes (path_at fields)

-- the place of a shape is within the nodes
pub place_within : (fields : List PathField) (nodes : List Node) (shape : ℕ) → IsPathShape (paths_in fields nodes) shape
    → shape - first_path_shape < length nodes
place_within fields nodes shape is = omega (arith, length-paths_in fields nodes, is.from, is.below)

-- the node at the place of a shape has its path
pub shape_path-paths_in : (fields : List PathField) (nodes : List Node) (shape : ℕ) (node : Node)
    → IsPathShape (paths_in fields nodes) shape → node ≡ get_or nodes (shape - first_path_shape) node
    → shape_path (paths_in fields nodes) shape ≡ path_at fields node
shape_path-paths_in fields nodes shape node is at =
    get_or-map (path_at fields) nodes (shape - first_path_shape) node (record { cap = 0; fields = [] })
    (place_within fields nodes shape is)
    ∙ ap (path_at fields) (sym at)

-- and it is a node
pub IsNode-at : (fields : List PathField) (nodes : List Node) (shape : ℕ) (node : Node)
    → IsPathShape (paths_in fields nodes) shape → All (IsNode fields (paths_in fields nodes)) nodes
    → node ≡ get_or nodes (shape - first_path_shape) node → IsNode fields (paths_in fields nodes) node
IsNode-at fields nodes shape node is each at =
    subst (IsNode fields (paths_in fields nodes)) (sym at)
    (each (shape - first_path_shape) node (place_within fields nodes shape is))

-- a path has as many fields as its node says
pub length-path_at : (fields : List PathField) (node : Node) → node.start + node.count ≤ length fields
    → length (path_at fields node).fields ≡ node.count
length-path_at fields node within =
    omega (arith, length-take node.count (drop node.start fields), length-drop node.start fields)

-- so the node tells of the path of its shape
pub IsNodeOf-at : (fields : List PathField) (nodes : List Node) (shape : ℕ) (node : Node)
    → AreShapes (paths_in fields nodes)
    → All (IsNode fields (paths_in fields nodes)) nodes → IsPathShape (paths_in fields nodes) shape
    → node ≡ get_or nodes (shape - first_path_shape) node → IsNodeOf (paths_in fields nodes) shape node
IsNodeOf-at fields nodes shape node good each is at =
    let paths = paths_in fields nodes in
    let path : shape_path paths shape ≡ path_at fields node = shape_path-paths_in fields nodes shape node is at in
    let here : IsNode fields paths node = IsNode-at fields nodes shape node is each at in
    let may : IsPath (path_at fields node) = subst IsPath path (shape_path_is paths shape good is) in
    let long : length (path_at fields node).fields ≡ node.count = length-path_at fields node here.within in
    record {
      cap = ap (λ (p : Path). p.cap) (sym path);
      capped = may.cap;
      count = sym long ∙ ap (λ (p : Path). length p.fields) (sym path);
      short = omega (arith, long, may.short);
      layout = here.layout ∙ ap layout_of (sym path);
      parent =
          λ some. subst (λ p. IsShapeOf paths (prefix_of p (node.count - 1)) node.parent) (sym path) (here.parent some);
    }

-- the same of a tree that shows these paths
pub IsNodeOf-shown : (tree : Inside) (paths : List Path) (shape : ℕ) (node : Node) → IsTree tree → paths_of tree ≡ paths
    → IsPathShape paths shape → node ≡ get_or tree.nodes.items (shape - first_path_shape) node
    → IsNodeOf paths shape node
IsNodeOf-shown tree paths shape node is shown starts at =
    subst (λ ps. IsNodeOf ps shape node) shown
    (IsNodeOf-at tree.fields.items tree.nodes.items shape node is.shapes is.each
    (subst (λ ps. IsPathShape ps shape) (sym shown) starts) at)

-- the path of a node, its fields as a slice of all fields has them, is that of its shape
pub own_path : (tree : Inside) (paths : List Path) (shape : ℕ) (node : Node) (all : List PathField) → IsTree tree
    → paths_of tree ≡ paths → IsPathShape paths shape
    → node ≡ get_or tree.nodes.items (shape - first_path_shape) node → all ≡ tree.fields.items
    → record { cap = node.cap; fields = take (node.start + node.count - node.start) (drop node.start all) }
    ≡ shape_path paths shape
own_path tree paths shape node all is shown starts at same =
    let fields = tree.fields.items in
    let count : node.start + node.count - node.start ≡ node.count = omega arith in
    let path : shape_path (paths_of tree) shape ≡ path_at fields node =
    shape_path-paths_in fields tree.nodes.items shape node
    (subst (λ ps. IsPathShape ps shape) (sym shown) starts) at in
    let taken : ℕ → Path = λ n. record { cap = node.cap; fields = take n (drop node.start all) } in
    ap taken count ∙ ap (λ fs. path_at fs node) same ∙ sym path ∙ ap (λ ps. shape_path ps shape) shown

-- the path of no field and a cap that is at most 8 has the shape of that place
pub IsShapeOf-root : (paths : List Path) (cap : ℕ) → AreShapes paths → cap ≤ cap_most
    → IsShapeOf paths (record { cap = cap; fields = [] }) (first_path_shape + cap)
IsShapeOf-root paths cap good within =
    let path : Path = record { cap = cap; fields = [] } in
    let later = good.are.begins.0 in
    let nine = length-empty_paths in
    let below : cap < length (empty_paths ++ later) = omega (arith, length-append empty_paths later, nine) in
    let at : get_or (empty_paths ++ later) cap path ≡ path =
    get_or_append_left empty_paths later path cap (omega (arith, nine)) ∙ get_or-empty_paths cap path (omega arith) in
    subst (λ ps. IsShapeOf ps path (first_path_shape + cap)) (sym good.are.begins.1)
    (shape_at (empty_paths ++ later) path cap below at)
