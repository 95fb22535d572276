-- Fields and nodes after one path was added.
use Rattle.std.proofs.Common.{◌≡◌, ℕ, ◌+◌, ◌-◌, ◌≤◌, List, [], ◌∷◌, ◌++◌, length, get_or}
use Rattle.std.proofs.Common.{take, drop, refl, sym, ap, ◌∙◌, subst}
use Rattle.std.proofs.Common.{arith, length-append, length-drop}
use Rattle.std.specs.Prelude.{All}
use Rattle.std.proofs.lemmas.List.{drop-append-le, take-append-le, drop_at, take_all, take_at, map_push}
use Rattle.std.proofs.lemmas.List.Elements.{All-head, All-tail, All-push, All-weaker}
use Rattle.tagged_word.specs.Shapes.{first_path_shape}
use Rattle.object_graph.specs.declared.path.Path.{Path}
use Rattle.object_graph.specs.declared.path.PathField.{PathField}
use Rattle.object_graph.specs.Paths.{prefix_of}
use Rattle.shape_tree.specs.declared.node.Node.{Node}
use Rattle.shape_tree.specs.Shapes.{IsPathShape, IsShapeOf, shape_path}
use Rattle.shape_tree.specs.ShapeLayouts.{layout_of}
use Rattle.shape_tree.specs.Growth.{extended}
use Rattle.shape_tree.specs.Nodes.{path_at, paths_in, IsNode}
use Rattle.shape_tree.proofs.ShapePaths.{IsShapeOf-append}
use Rattle.shape_tree.proofs.HeldNodes.{shape_path-paths_in, IsNode-at, length-path_at}

-- the path of a node stays where fields are added behind
path_at-append : (fields more : List PathField) (node : Node) → node.start + node.count ≤ length fields
    → path_at (fields ++ more) node ≡ path_at fields node
path_at-append fields more node within =
    let made : List PathField → Path = λ fs. record { cap = node.cap; fields = fs } in
    let behind = drop-append-le node.start fields more (omega arith) in
    let long : node.count ≤ length (drop node.start fields) = omega (arith, length-drop node.start fields) in
    ap made (ap (take node.count) behind ∙ take-append-le node.count (drop node.start fields) more long)

-- and so do those of all nodes
paths_in-append : (fields more : List PathField) (nodes : List Node)
    → All (λ node. node.start + node.count ≤ length fields) nodes
    → paths_in (fields ++ more) nodes ≡ paths_in fields nodes
paths_in-append fields more [] all = refl
paths_in-append fields more (node ∷ nodes) all =
    let Within = λ (n : Node). n.start + n.count ≤ length fields in
    ap (λ path. path ∷ paths_in (fields ++ more) nodes)
    (path_at-append fields more node (All-head Within node nodes all))
    ∙ ap (λ paths. path_at fields node ∷ paths) (paths_in-append fields more nodes (All-tail Within node nodes all))

-- a node stays one where fields and paths are added behind
IsNode-append : (fields more : List PathField) (paths others : List Path) (node : Node) → IsNode fields paths node
    → IsNode (fields ++ more) (paths ++ others) node
IsNode-append fields more paths others node is =
    let same = sym (path_at-append fields more node is.within) in
    record {
      within = omega (arith, is.within, length-append fields more);
      layout = is.layout ∙ ap layout_of same;
      parent = λ some. subst (λ path. IsShapeOf (paths ++ others) (prefix_of path (node.count - 1)) node.parent) same
          (IsShapeOf-append paths others (prefix_of (path_at fields node) (node.count - 1)) node.parent
          (is.parent some));
    }

-- the node of the path with a field more, whose fields come behind all fields
pub record IsGrown (fields : List PathField) (node : Node) (parent : ℕ) (field : PathField) (grown : Node)
    : Type 0 where
  pub cap : grown.cap ≡ node.cap
  pub start : grown.start ≡ length fields
  pub count : grown.count ≡ node.count + 1
  pub above : grown.parent ≡ parent
  pub layout : grown.layout ≡ layout_of (extended (path_at fields node) (field ∷ []))

-- the fields with those behind them
abbrev pub fields_with : List PathField → Node → PathField → List PathField
fields_with fields node field = fields ++ (take node.count (drop node.start fields) ++ field ∷ [])

-- how many those are
pub length-grown_fields : (fields : List PathField) (node : Node) (field : PathField)
    → node.start + node.count ≤ length fields
    → length (take node.count (drop node.start fields) ++ field ∷ []) ≡ node.count + 1
length-grown_fields fields node field within =
    let own = take node.count (drop node.start fields) in
    omega (arith, length-append own (field ∷ []), length-path_at fields node within)

-- the path of the new node
path_at-grown : (fields : List PathField) (node : Node) (parent : ℕ) (field : PathField) (grown : Node)
    → node.start + node.count ≤ length fields → IsGrown fields node parent field grown
    → path_at (fields_with fields node field) grown ≡ extended (path_at fields node) (field ∷ [])
path_at-grown fields node parent field grown within is =
    let own = take node.count (drop node.start fields) ++ field ∷ [] in
    let long : length own ≤ grown.count = omega (arith, length-grown_fields fields node field within, is.count) in
    let taken : take grown.count (drop grown.start (fields ++ own)) ≡ own =
    ap (take grown.count) (drop_at fields own grown.start (sym is.start)) ∙ take_all grown.count own long in
    let made : ℕ → List PathField → Path = λ cap fs. record { cap = cap; fields = fs } in
    ap (λ cap. made cap (take grown.count (drop grown.start (fields ++ own)))) is.cap ∙ ap (made node.cap) taken

-- the paths with the new node
pub paths_in-grown : (fields : List PathField) (nodes : List Node) (parent : ℕ) (field : PathField) (node grown : Node)
    → All (IsNode fields (paths_in fields nodes)) nodes → IsPathShape (paths_in fields nodes) parent
    → node ≡ get_or nodes (parent - first_path_shape) node → IsGrown fields node parent field grown
    → paths_in (fields_with fields node field) (nodes ++ grown ∷ [])
    ≡ paths_in fields nodes ++ extended (shape_path (paths_in fields nodes) parent) (field ∷ []) ∷ []
paths_in-grown fields nodes parent field node grown each starts at is =
    let paths = paths_in fields nodes in
    let new = fields_with fields node field in
    let own = take node.count (drop node.start fields) ++ field ∷ [] in
    let here = IsNode-at fields nodes parent node starts each at in
    let within : All (λ n. n.start + n.count ≤ length fields) nodes = λ k d below. (each k d below).within in
    let last : path_at new grown ≡ extended (shape_path paths parent) (field ∷ []) =
    path_at-grown fields node parent field grown here.within is
    ∙ ap (λ path. extended path (field ∷ [])) (sym (shape_path-paths_in fields nodes parent node starts at)) in
    map_push (path_at new) nodes grown
    ∙ ap (λ ps. ps ++ path_at new grown ∷ []) (paths_in-append fields own nodes within)
    ∙ ap (λ path. paths ++ path ∷ []) last

-- the new node is one
IsNode-grown : (fields : List PathField) (nodes : List Node) (parent : ℕ) (field : PathField) (node grown : Node)
    (others : List Path) → All (IsNode fields (paths_in fields nodes)) nodes
    → IsPathShape (paths_in fields nodes) parent
    → node ≡ get_or nodes (parent - first_path_shape) node → IsGrown fields node parent field grown
    → IsNode (fields_with fields node field) (paths_in fields nodes ++ others) grown
IsNode-grown fields nodes parent field node grown others each starts at is =
    let paths = paths_in fields nodes in
    let here = IsNode-at fields nodes parent node starts each at in
    let own = take node.count (drop node.start fields) in
    let path = path_at fields node in
    let same = sym (path_at-grown fields node parent field grown here.within is) in
    let count : node.count ≡ grown.count - 1 = omega (arith, is.count) in
    let made : List PathField → Path = λ fs. record { cap = node.cap; fields = fs } in
    let front : path ≡ prefix_of (extended path (field ∷ [])) node.count =
    ap made (sym (take_at own (field ∷ []) node.count (length-path_at fields node here.within))) in
    let above : path ≡ prefix_of (path_at (fields_with fields node field) grown) (grown.count - 1) =
    front ∙ ap (λ n. prefix_of (extended path (field ∷ [])) n) count ∙ ap (λ p. prefix_of p (grown.count - 1)) same in
    let shape : IsShapeOf paths path parent =
    record { is_shape = starts; of_path = shape_path-paths_in fields nodes parent node starts at } in
    record {
      within = omega (
        arith,
        is.start,
        is.count,
        length-grown_fields fields node field here.within,
        length-append fields (own ++ field ∷ []),
      );
      layout = is.layout ∙ ap layout_of same;
      parent = λ some. subst (λ p. IsShapeOf (paths ++ others) p grown.parent) above
          (subst (IsShapeOf (paths ++ others) path) (sym is.above) (IsShapeOf-append paths others path parent shape));
    }

-- so all nodes are
pub each-grown : (fields : List PathField) (nodes : List Node) (parent : ℕ) (field : PathField) (node grown : Node)
    (others : List Path) → All (IsNode fields (paths_in fields nodes)) nodes
    → IsPathShape (paths_in fields nodes) parent
    → node ≡ get_or nodes (parent - first_path_shape) node → IsGrown fields node parent field grown
    → All (IsNode (fields_with fields node field) (paths_in fields nodes ++ others)) (nodes ++ grown ∷ [])
each-grown fields nodes parent field node grown others each starts at is =
    let paths = paths_in fields nodes in
    let own = take node.count (drop node.start fields) ++ field ∷ [] in
    let New = IsNode (fields_with fields node field) (paths ++ others) in
    All-push New nodes grown
    (All-weaker (IsNode fields paths) New (IsNode-append fields own paths others) nodes each)
    (IsNode-grown fields nodes parent field node grown others each starts at is)
