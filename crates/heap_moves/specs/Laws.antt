-- Laws of moved heaps: they are whole, show what was shown, and keep the room of each object.
use Rattle.std.specs.Prelude.{◌≡◌, ℕ, ◌⊎◌, ◌↔◌, List, Option, Some, IsTrue}
use Rattle.tagged_word.specs.declared.layout.Kind.TheVariants as kind
use Rattle.heap_model.specs.Types.{Cell}
use Rattle.object_graph.specs.Graphs.{Graph}
use Rattle.object_graph.specs.Reach.{is_marked, reach}
use Rattle.heap_model.specs.Heaps.{Heap, HasCell}
use Rattle.heap_model.specs.Slots.{IsPlace}
use Rattle.heap_model.specs.Wholeness.{HasSizes, HasRows, Whole}
use Rattle.heap_model.specs.Showing.{Shows}
use Rattle.heap_model.specs.Needs.{shape_at, capacity_at, count_at}
use Rattle.heap_model.specs.Rooms.{Room, HasRooms}
use Rattle.heap_moves.specs.Moved.{IsMoved}
use Rattle.heap_moves.specs.Standing.{Stays, WholeFor, ShowsFor}

-- A moved heap is whole where the old one was, but for what stood in cells that went.
abbrev pub MovesKeepWhole : Type 0
MovesKeepWhole =
    (old new : Heap) (to : ℕ → Option ℕ) → WholeFor old (Stays to) → IsMoved old new to → Whole new

-- And it shows the graph that the old one showed, but for what stood in cells that went.
abbrev pub MovesShow : Type 0
MovesShow =
    (old new : Heap) (to : ℕ → Option ℕ) (graph : Graph) → ShowsFor old graph (Stays to) → IsMoved old new to
    → Shows new graph

-- Each object that can be reached stays: this follows, and is asked of no move.
abbrev pub ReachedStay : Type 0
ReachedStay =
    (old new : Heap) (to : ℕ → Option ℕ) (graph : Graph) (number at : ℕ) → ShowsFor old graph (Stays to)
    → IsMoved old new to → IsTrue (is_marked (reach graph) number) → IsPlace old number at → Stays to at

-- The object stands there, with a store of as many slots or a table of as many pairs, and with as many elements or
-- entries.
pub record IsPlaceMoved (old new : Heap) (number at now : ℕ) : Type 0 where
  pub place : IsPlace new number now
  pub shape : shape_at new now ≡ shape_at old at
  pub capacity : capacity_at new now ≡ capacity_at old at
  pub count : (cell : Cell) (words : List ℕ) → HasCell old cell words → cell.at ≡ at
      → (cell.layout.kind ≡ kind.List) ⊎ (cell.layout.kind ≡ kind.Weak) → count_at new now ≡ count_at old at

-- Each object that stays is moved so.
abbrev pub MovesKeepRoom : Type 0
MovesKeepRoom =
    (old new : Heap) (to : ℕ → Option ℕ) (number at now : ℕ) → WholeFor old (Stays to) → IsMoved old new to
    → IsPlace old number at → to at ≡ Some now → IsPlaceMoved old new number at now

-- So the rooms of a graph's objects are the same in both heaps, and a command needs as many words on one as on the
-- other.
abbrev pub MovesKeepRooms : Type 0
MovesKeepRooms =
    (old new : Heap) (to : ℕ → Option ℕ) (graph : Graph) (rooms : ℕ → Room) → ShowsFor old graph (Stays to)
    → IsMoved old new to → HasRooms old graph rooms ↔ HasRooms new graph rooms

-- A heap is itself moved, where each cell stays where it is.
abbrev pub HeapsAreMoved : Type 0
HeapsAreMoved = (heap : Heap) → HasSizes heap → HasRows heap → IsMoved heap heap (λ at. Some at)
