-- What rooms objects have after a command.
use Rattle.std.specs.Prelude.{◌≡◌, ℕ}
use Rattle.heap_model.specs.Types.{Command}
use Rattle.object_graph.specs.Graphs.{Graph}
use Rattle.heap_model.specs.Heaps.{Heap}
use Rattle.heap_model.specs.Slots.{IsPlace}
use Rattle.heap_model.specs.Needs.{capacity_at}
use Rattle.heap_model.specs.Rooms.{Room, HasRooms, rooms_after}

-- After the command, which leads from one graph to another, objects have the rooms that it gives them. Each object
-- that stood stands where it stood; one whose room stays, whether it can be reached or not, has a store or a table of
-- as many slots or pairs as before; and one that was made has none.
pub record KeepsStores (old new : Heap) (graph after : Graph) (command : Command) (rooms : ℕ → Room) : Type 0 where
  pub has : HasRooms new after (rooms_after graph rooms command)
  pub stays : (number at : ℕ) → IsPlace old number at → IsPlace new number at
  pub others : (number at : ℕ) → IsPlace old number at → rooms_after graph rooms command number ≡ rooms number
      → capacity_at new at ≡ capacity_at old at
  pub made : (number at : ℕ) → IsPlace new number at → (IsPlace old number at → ⊥) → capacity_at new at ≡ 0
