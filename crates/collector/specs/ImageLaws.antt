-- Laws of images of a heap: what they show, which rooms objects have in them, which runs of pages are free, what is
-- young, and that nothing is kept that can not be reached.
use Rattle.std.specs.Prelude.{◌≡◌, ℕ, ◌↔◌, List}
use Rattle.object_graph.specs.Graphs.{Graph}
use Rattle.heap_model.specs.Types.{Run}
use Rattle.heap_model.specs.Heaps.{Heap}
use Rattle.heap_model.specs.Wholeness.{Whole, Blank}
use Rattle.heap_model.specs.Showing.{Shows}
use Rattle.heap_model.specs.Collectable.{AreFreeRuns}
use Rattle.heap_model.specs.Reaching.{IsTight}
use Rattle.heap_model.specs.Slots.{IsPlace}
use Rattle.heap_model.specs.Needs.{capacity_at}
use Rattle.heap_model.specs.Rooms.{Room, HasRooms}
use Rattle.scavenger.specs.Laws.{IsStuck}
use Rattle.live_cells.specs.Exact.{Exact}
use Rattle.live_cells.specs.Fitting.{DeadIsFree}
use Rattle.collector.specs.Images.{IsImageOf}

-- An image shows each graph that the heap shows, so it is whole.
abbrev pub ImagesShow : Type 0
ImagesShow = (heap image : Heap) (graph : Graph) → Shows heap graph → IsImageOf heap image → Shows image graph

-- An image of a whole heap is blank: behind the used words of eden and the cells of each segment it has words of 0.
abbrev pub ImagesAreBlank : Type 0
ImagesAreBlank = (heap image : Heap) → Whole heap → IsImageOf heap image → Blank image

-- Each object stands in an image where it stands in the heap, and has a store of as many slots there.
abbrev pub ImagesKeepStores : Type 0
ImagesKeepStores =
    (heap image : Heap) (number at : ℕ) → Whole heap → IsImageOf heap image → IsPlace heap number at
    → IsPlace image number at × (capacity_at image at ≡ capacity_at heap at)

-- The objects of a graph have exactly the rooms in an image that they have in the heap, so a command needs as many
-- words on both.
abbrev pub ImagesHaveRooms : Type 0
ImagesHaveRooms =
    (heap image : Heap) (graph : Graph) (rooms : ℕ → Room) → Shows heap graph → IsImageOf heap image
    → HasRooms heap graph rooms ↔ HasRooms image graph rooms

-- An image of a whole heap in which of young cells only those are kept that are reached is such a heap too.
abbrev pub ImagesAreTight : Type 0
ImagesAreTight = (heap image : Heap) → Whole heap → IsTight heap → IsImageOf heap image → IsTight image

-- Free runs of a whole heap, each of which is one free cell, are free runs of an image.
abbrev pub ImagesKeepFree : Type 0
ImagesKeepFree =
    (heap image : Heap) (rows : List (List Run)) → Whole heap → AreFreeRuns heap rows → IsImageOf heap image
    → AreFreeRuns image rows

-- An image of a whole heap, each young cell of which is longer than each of these runs, is such a heap too.
abbrev pub ImagesStayStuck : Type 0
ImagesStayStuck =
    (heap image : Heap) (rows : List (List Run)) → Whole heap → IsStuck heap rows → IsImageOf heap image
    → IsStuck image rows

-- An image of a heap that keeps exactly what can be reached keeps exactly that too.
abbrev pub ImagesAreExact : Type 0
ImagesAreExact = (heap image : Heap) (graph : Graph) → Exact heap graph → IsImageOf heap image → Exact image graph

-- Where each dead word of a page of a whole heap is in one of these runs, it is so in an image.
abbrev pub ImagesKeepDead : Type 0
ImagesKeepDead =
    (heap image : Heap) (rows : List (List Run)) → Whole heap → DeadIsFree heap rows → IsImageOf heap image
    → DeadIsFree image rows
