-- How many pairs the table of a weak map holds, against the entries of the graph.
use Rattle.std.specs.Prelude.{◌≡◌, ℕ, ◌≤◌, List, Some, slice_get, count_by, IsTrue}
use Rattle.object_graph.specs.declared.object.Object.TheVariants.{Weak}
use Rattle.heap_command.specs.declared.command.FaultWord.TheVariants.{WeakFull}
use Rattle.object_graph.specs.Graphs.{Graph}
use Rattle.object_graph.specs.Invariants.{IsGraph}
use Rattle.object_graph.specs.Reach.{is_marked, reach}
use Rattle.object_graph.specs.Meaning.{fault, meaning}
use Rattle.object_graph.specs.Limits.{ideal_limits}
use Rattle.heap_model.specs.Types.{Entry, Command}
use Rattle.heap_model.specs.Heaps.{Heap}
use Rattle.heap_model.specs.Slots.{IsPlace}
use Rattle.heap_model.specs.Needs.{count_at}
use Rattle.heap_model.specs.Rooms.{Room, HasRooms, FindsMapFull}
use Rattle.heap_model.specs.Showing.{Shows}
use Rattle.live_cells.specs.Exact.{Exact}

-- how many of the entries have a key that can be reached
abbrev pub reached_keys : Graph → List Entry → ℕ
reached_keys graph entries = count_by (λ entry. is_marked (reach graph) entry.key) entries

-- the place of a weak map that can be reached and has these entries
pub record IsReachedMap (heap : Heap) (graph : Graph) (at : ℕ) (entries : List Entry) : Type 0 where
  pub number : ℕ
  pub place : IsPlace heap number at
  pub stands : slice_get graph.objects number ≡ Some (Weak entries)
  pub reached : IsTrue (is_marked (reach graph) number)

-- A weak map that can be reached has at least as many pairs as entries whose key can be reached.
abbrev pub MapsHaveReachedKeys : Type 0
MapsHaveReachedKeys =
    (heap : Heap) (graph : Graph) (at : ℕ) (entries : List Entry) → IsGraph graph → Shows heap graph
    → IsReachedMap heap graph at entries → reached_keys graph entries ≤ count_at heap at

-- In an exact heap it has just as many.
abbrev pub ExactMapsHaveNoOthers : Type 0
ExactMapsHaveNoOthers =
    (heap : Heap) (graph : Graph) (at : ℕ) (entries : List Entry) → IsGraph graph → Exact heap graph
    → IsReachedMap heap graph at entries → count_at heap at ≡ reached_keys graph entries

-- So a command that finds its map full there is a fault: as many keys of entries can be reached as a map may have.
abbrev pub ExactMapsAreFull : Type 0
ExactMapsAreFull =
    (heap : Heap) (graph : Graph) (rooms : ℕ → Room) (names : List (List ℕ)) (command : Command) (entries : ℕ)
    → IsGraph graph → Exact heap graph → HasRooms heap graph rooms → FindsMapFull graph rooms command entries
    → meaning ideal_limits names graph command ≡ fault WeakFull
