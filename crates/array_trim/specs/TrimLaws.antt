-- What the words of a trim make of the list, and of the graph that the heap shows.
use Rattle.std.specs.Prelude.{ℕ, ◌-◌, ◌≤◌, ◌<◌, length, take, drop}
use Rattle.object_graph.specs.Graphs.{Graph, ListObject}
use Rattle.page_space.specs.Sizes.{AreWithin}
use Rattle.heap_model.specs.Needs.{capacity_at}
use Rattle.write_barrier.specs.MutatorState.{Mutator, heap_of, MainShows}
use Rattle.object_cells.specs.ListObjects.{IsListAt}
use Rattle.array_trim.specs.TrimWords.{PutsShifted, PutsTruncated}
use Rattle.array_trim.specs.Trims.{HasTrimmed}

-- With the words of a list that lost its first elements, one at least, a heap within the limits of sizes shows it with
-- the others.
abbrev pub ShiftedListShows : Type 0
ShiftedListShows =
    (old new : Mutator) (graph : Graph) (at : ℕ) (list : ListObject) (gone : ℕ)
    → AreWithin old.seat.space.sizes old.seat.space.variables → MainShows old graph
    → IsListAt old graph at list → 1 ≤ gone → gone ≤ length list.elements
    → PutsShifted old new at (length list.elements) gone
    → HasTrimmed old new graph at list (drop gone list.elements) (capacity_at (heap_of old) at - gone)

-- With the words of a list that lost its last elements, one at least, such a heap shows it with the others.
abbrev pub TruncatedListShows : Type 0
TruncatedListShows =
    (old new : Mutator) (graph : Graph) (at : ℕ) (list : ListObject) (kept : ℕ)
    → AreWithin old.seat.space.sizes old.seat.space.variables → MainShows old graph
    → IsListAt old graph at list → kept < length list.elements → PutsTruncated old new at kept
    → HasTrimmed old new graph at list (take kept list.elements) kept
