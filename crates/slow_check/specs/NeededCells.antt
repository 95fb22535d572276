-- What each cell of a heap is that keeps exactly what can be reached.
use Rattle.std.specs.Prelude.{◌<◌, Bool, List, IsTrue}
use Rattle.tagged_word.specs.Cells.{is_free_kind}
use Rattle.page_space.specs.Extents.{eden_start}
use Rattle.object_graph.specs.Reach.{is_marked}
use Rattle.heap_model.specs.Types.{Cell}
use Rattle.heap_model.specs.Heaps.{Heap}
use Rattle.heap_model.specs.Slots.{is_object_kind}
use Rattle.heap_model.specs.Wholeness.{IsOwnedKind}
use Rattle.live_cells.specs.Exact.{IsNamedByObject}
use Rattle.image_walk.specs.Spans.{StandsIn}

-- An object's cell carries the number of one that is marked; an object's cell names a store, a table or a box; and a
-- free cell is of a page.
pub record IsNeeded (heap : Heap) (marks : List Bool) (cell : Cell) : Type 0 where
  pub reached : IsTrue (is_object_kind cell.layout.kind) → IsTrue (is_marked marks cell.header.object)
  pub named : IsOwnedKind cell.layout.kind → IsNamedByObject heap cell.at
  pub packed : IsTrue (is_free_kind cell.layout.kind) → cell.at < eden_start heap.space

-- so it is of each cell
abbrev pub AreNeeded : Heap → List Bool → Type 0
AreNeeded heap marks = (cell : Cell) → StandsIn heap cell → IsNeeded heap marks cell
