-- Fields whose slots have the words of their values.
use Rattle.std.specs.Prelude.{◌≡◌, ◌≢◌, ℕ, ◌<◌}
use Rattle.page_space.specs.Extents.{marks_start}
use Rattle.object_graph.specs.declared.value.Rep.TheVariants.{Wide}
use Rattle.shape_tree.specs.Shapes.{IsLocated}
use Rattle.shape_tree.specs.declared.located.Located.{Located}
use Rattle.write_barrier.specs.MutatorState.{Mutator, heap_of}
use Rattle.object_cells.specs.CellsAt.{HasField}
use Rattle.shape_change.specs.declared.slots.Place.{Place}
use Rattle.shape_change.specs.Places.{place_at, StandsSlot, IsPlaceOf}

-- The plain object at the address has the field that was located, which is no wide one; its slot is at the place.
pub record StandsWord (main : Mutator) (object : ℕ) (found : Located) (place : Place) : Type 0 where
  pub located : IsLocated main.paths found
  pub not_wide : found.rep ≢ Wide
  pub there : HasField (heap_of main) object found.shape found.at
  pub stands : StandsSlot (heap_of main) object found.at place
  pub at_place : IsPlaceOf (heap_of main) object found.cap found.at place
  pub within : place_at object place < marks_start main.seat.space

-- The field of the name of the plain object at the address, which has this shape, is no wide one, and its slot is at
-- the place.
pub record HasWordAt (main : Mutator) (object shape name : ℕ) (found : Located) (place : Place) : Type 0 where
  pub stands : StandsWord main object found place
  pub of_shape : found.shape ≡ shape
  pub of_name : found.name ≡ name
