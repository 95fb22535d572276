-- What the look-up cache has of a shape and a name.
use Rattle.std.specs.Prelude.{◌≡◌, ◌≢◌, ◌<◌, ◌+◌, ℕ, List, false}
use Rattle.object_graph.specs.declared.value.Rep.TheVariants.{Wide}
use Rattle.object_graph.specs.declared.path.Path.{Path}
use Rattle.shape_tree.specs.declared.located.Located.{Located}
use Rattle.shape_tree.specs.declared.located.CachedSlot.{CachedSlot}
use Rattle.shape_tree.specs.declared.located.CachedSlot.TheVariants.{InObject, InStore, Absent, Miss}
use Rattle.shape_tree.specs.Shapes.{IsPathShape, shape_path, has_name, IsLocated}

-- the path of the shape has a field of the name, it stands here, and is no wide one: its slot has the word of its value
pub record HasWordField (paths : List Path) (shape name : ℕ) (found : Located) : Type 0 where
  pub located : IsLocated paths found
  pub of_shape : found.shape ≡ shape
  pub of_name : found.name ≡ name
  pub not_wide : found.rep ≢ Wide

-- The field of the name in the path of the shape has its word in the in-object slot of this number, or in the slot of
-- this number of the property store, and this representation; or a path of the shape has no field of the name; or
-- nothing is told.
abbrev pub IsCachedSlot : List Path → ℕ → ℕ → CachedSlot → Type 0
IsCachedSlot paths shape name (InObject slot rep) =
    (found : Located) × HasWordField paths shape name found × (found.rep ≡ rep) × (found.at ≡ slot) × (slot < found.cap)
IsCachedSlot paths shape name (InStore slot rep) =
    (found : Located) × HasWordField paths shape name found × (found.rep ≡ rep) × (found.at ≡ found.cap + slot)
IsCachedSlot paths shape name Absent =
    0 < shape → IsPathShape paths shape × (has_name (shape_path paths shape) name ≡ false)
IsCachedSlot paths shape name Miss = Unit {0}
