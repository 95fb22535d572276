-- Fields, nodes and transitions: what a tree of shapes holds of a list of paths.
use Rattle.std.specs.Prelude.{◌≡◌, ◌≢◌, ℕ, ◌+◌, ◌-◌, ◌<◌, ◌≤◌, Bool, true, false, List, [], ◌∷◌, map, length}
use Rattle.std.specs.Prelude.{take, drop, set, slice_get, All, Option, Some, None, cond, MatchOption}
use Rattle.object_graph.specs.declared.path.Path.{Path}
use Rattle.object_graph.specs.declared.path.PathField.{PathField}
use Rattle.object_graph.specs.declared.value.Rep.TheVariants.{Small, Wide}
use Rattle.object_graph.specs.Paths.{prefix_of}
use Rattle.heap_command.specs.Commands.{cap_most}
use Rattle.object_graph.specs.Invariants.{fields_most}
use Rattle.shape_tree.specs.declared.node.Node.{Node}
use Rattle.shape_tree.specs.declared.cached.Cached.{Cached}
use Rattle.shape_tree.specs.declared.transition.Transition.{Transition}
use Rattle.shape_tree.specs.contracts.transition.TransitionPartialEq.TheImpl as transition_eq
use Rattle.shape_tree.specs.declared.alterations.Altered.{Altered}
use Rattle.shape_tree.specs.declared.alterations.Alteration.{Alteration}
use Rattle.shape_tree.specs.declared.alterations.Becomes.{Becomes}
use Rattle.shape_tree.specs.declared.alterations.Becomes.TheVariants.{To, Gone}
use Rattle.shape_tree.specs.declared.located.Located.{Located}
use Rattle.shape_tree.specs.declared.located.CachedSlot.{CachedSlot}
use Rattle.shape_tree.specs.declared.located.CachedSlot.TheVariants.{InObject, InStore, Absent, Miss}
use Rattle.shape_tree.specs.declared.look_ups.LookUp.{LookUp}
use Rattle.shape_tree.specs.declared.look_ups.Site.{Site}
use Rattle.shape_tree.specs.declared.look_ups.Site.TheVariants.{Own, Stored, Other}
use Rattle.shape_tree.specs.Shapes.{IsPathShape, IsShapeOf, shape_path, has_name, changed, without}
use Rattle.shape_tree.specs.Growth.{extended}
use Rattle.shape_tree.specs.ShapeLayouts.{layout_of}

-- whether two transitions are the same, as the table asks
abbrev pub same_transition : Transition → Transition → Bool
same_transition = (transition_eq.ghosts).eq

-- the node of the path of no field and this cap
abbrev pub root_node_of : ℕ → Node
root_node_of cap =
    record { cap = cap; start = 0; count = 0; parent = 0; layout = layout_of (record { cap = cap; fields = [] }) }

-- the path of a node
abbrev pub path_at : List PathField → Node → Path
path_at fields node = record { cap = node.cap; fields = take node.count (drop node.start fields) }

-- the paths of nodes
abbrev pub paths_in : List PathField → List Node → List Path
paths_in fields nodes = map (path_at fields) nodes

-- the fields of the node are there; its layout is that of its path, and its parent the shape of the path without the
-- last field
pub record IsNode (fields : List PathField) (paths : List Path) (node : Node) : Type 0 where
  pub within : node.start + node.count ≤ length fields
  pub layout : node.layout ≡ layout_of (path_at fields node)
  pub parent : 0 < node.count → IsShapeOf paths (prefix_of (path_at fields node) (node.count - 1)) node.parent

-- the transition starts at a path's shape, and leads to the shape of that path with the field more
pub record IsTransition (paths : List Path) (step : Transition) (shape : ℕ) : Type 0 where
  pub starts : IsPathShape paths step.parent
  pub leads : IsShapeOf paths (extended (shape_path paths step.parent) (step.field ∷ [])) shape

-- a field is added behind the path of a shape
abbrev pub transition_by : ℕ → PathField → Transition
transition_by parent field = record { parent = parent; field = field }

-- how many entries the cache of transitions has
abbrev pub cache_entries : ℕ
cache_entries = 4096

-- what stands in an entry where no step is cached
abbrev pub empty_entry : Cached
empty_entry = record { step = record { parent = 0; field = record { name = 0; rep = Small } }; shape = 0 }

-- where the entry has a step, it is a transition
abbrev pub IsCached : List Path → Cached → Type 0
IsCached paths cached = 0 < cached.shape → IsTransition paths cached.step cached.shape

-- each entry has a transition, or what stands for none
pub record AreCached (paths : List Path) (cache : List Cached) : Type 0 where
  pub counted : length cache ≡ cache_entries
  pub each : All (IsCached paths) cache

-- what a field of a path becomes leads to this path: with another representation, or without it
abbrev pub altered : Path → ℕ → Becomes → Path
altered path at (To rep) = changed path at rep
altered path at Gone = without path at

-- the alteration is one of a field of a path's shape, and leads to this shape
pub record IsAlteration (paths : List Path) (alteration : Alteration) (shape : ℕ) : Type 0 where
  pub starts : IsPathShape paths alteration.shape
  pub there : alteration.at < length (shape_path paths alteration.shape).fields
  pub leads : IsShapeOf paths (altered (shape_path paths alteration.shape) alteration.at alteration.becomes) shape

-- how many entries the cache of alterations has
abbrev pub alteration_entries : ℕ
alteration_entries = 1024

-- what stands in an entry where no alteration is cached
abbrev pub no_alteration : Altered
no_alteration = record { alteration = record { shape = 0; at = 0; becomes = Gone }; shape = 0 }

-- where the entry has an alteration, it leads to its shape
abbrev pub IsAltered : List Path → Altered → Type 0
IsAltered paths altered = 0 < altered.shape → IsAlteration paths altered.alteration altered.shape

-- each entry has an alteration, or what stands for none
pub record AreAltered (paths : List Path) (cache : List Altered) : Type 0 where
  pub counted : length cache ≡ alteration_entries
  pub each : All (IsAltered paths) cache

-- how many entries the look-up cache has
abbrev pub look_up_entries : ℕ
look_up_entries = 2048

-- what stands in an entry where no look-up is cached: no path has this shape
abbrev pub no_look_up : LookUp
no_look_up =
    record { shape = 0; name = 0; at = 0; cap = 0; rep = Small; is_there = false; site = Other; slot = 0 }

-- what a look-up found: where a field stands, or none
abbrev pub found_in : LookUp → Option Located
found_in look_up =
    cond look_up.is_there
    (Some (record {
      shape = look_up.shape;
      name = look_up.name;
      at = look_up.at;
      cap = look_up.cap;
      rep = look_up.rep;
    }))
    None

-- what the entry has of its shape and name
abbrev pub cached_in : LookUp → CachedSlot
cached_in look_up = by_site look_up.site
  where
    by_site : Site → CachedSlot
    by_site Own = InObject look_up.slot look_up.rep
    by_site Stored = InStore look_up.slot look_up.rep
    by_site Other = cond look_up.is_there Miss Absent

-- the path has this cap, and the field at this place
pub record HasLocated (path : Path) (found : Located) : Type 0 where
  pub field : slice_get path.fields found.at ≡ Some (record { name = found.name; rep = found.rep })
  pub cap : found.cap ≡ path.cap

-- the look-up found where the path's field of its name stands, or none where the path has none
abbrev pub TellsOf : Path → LookUp → Type 0
TellsOf path look_up =
    MatchOption (found_in look_up) (has_name path look_up.name ≡ false) (HasLocated path)

-- the entry has a shape, and a field that is no wide one
pub record HasWord (look_up : LookUp) : Type 0 where
  pub of_shape : 0 < look_up.shape
  pub there : look_up.is_there ≡ true
  pub not_wide : look_up.rep ≢ Wide

-- an own slot is that of the field's place, and one in the store comes behind the own ones; each has the field's word
abbrev pub IsSitedBy : LookUp → Site → Type 0
IsSitedBy look_up Own = HasWord look_up × (look_up.slot ≡ look_up.at) × (look_up.at < look_up.cap)
IsSitedBy look_up Stored = HasWord look_up × (look_up.at ≡ look_up.cap + look_up.slot)
IsSitedBy look_up Other = Unit {0}

-- the entry's slot is that of its field
abbrev pub IsSited : LookUp → Type 0
IsSited look_up = IsSitedBy look_up look_up.site

-- where the entry has a shape, it is a path's, and the entry tells of that path; and its slot is that of its field
pub record IsLookedUp (paths : List Path) (look_up : LookUp) : Type 0 where
  pub tells : 0 < look_up.shape → IsPathShape paths look_up.shape × TellsOf (shape_path paths look_up.shape) look_up
  pub sited : IsSited look_up

-- each entry tells of a path, or of nothing
pub record AreLookedUp (paths : List Path) (cache : List LookUp) : Type 0 where
  pub counted : length cache ≡ look_up_entries
  pub each : All (IsLookedUp paths) cache

-- the entry of the look-up cache came to tell whether this path, which has the shape, has the name, and where
pub record Keeps (old new : List LookUp) (entry : ℕ) (path : Path) (shape name : ℕ) : Type 0 where
  pub look_up : LookUp
  pub kept : new ≡ set old entry look_up
  pub of_shape : look_up.shape ≡ shape
  pub of_name : look_up.name ≡ name
  pub tells : TellsOf path look_up
  pub sited : 0 < shape → IsSited look_up

-- the look-up finds each transition, and nothing else
pub record FindsSteps (paths : List Path) (look : Transition → Option ℕ) : Type 0 where
  pub sound : (step : Transition) (shape : ℕ) → look step ≡ Some shape → IsTransition paths step shape
  pub complete : (step : Transition) (shape : ℕ) → IsTransition paths step shape → look step ≡ Some shape

-- the node tells of the path of this shape
pub record IsNodeOf (paths : List Path) (shape : ℕ) (node : Node) : Type 0 where
  pub cap : node.cap ≡ (shape_path paths shape).cap
  pub capped : node.cap ≤ cap_most
  pub count : node.count ≡ length (shape_path paths shape).fields
  pub short : node.count ≤ fields_most
  pub layout : node.layout ≡ layout_of (shape_path paths shape)
  pub parent : 0 < node.count → IsShapeOf paths (prefix_of (shape_path paths shape) (node.count - 1)) node.parent
