-- The heap between the two steps of a full collection.
use Rattle.std.proofs.Common.{◌≡◌, ◌∙◌, sym, ap}
use Rattle.object_graph.specs.Graphs.{Graph}
use Rattle.page_space.specs.Extents.{Space}
use Rattle.collector.specs.MarkSwept.{MarkSweeps}
use Rattle.collector.specs.States.{HeapState, HeapShows}
use Rattle.collector.proofs.Keeping.{still_shows}

-- behind marking, clearing and sweeping the heap shows the graph
pub swept_shows : (heap after : HeapState) (graph : Graph) → HeapShows heap graph → after.rest ≡ heap.rest
    → MarkSweeps heap.main after.main graph → HeapShows after graph
swept_shows heap after graph shown rest swept =
    let space = swept.seat.space in
    still_shows heap after graph shown rest space swept.seat.phase
    (swept.rows ∙ ap (λ (one : Space). one.sizes.pages) space ∙ sym shown.rows) swept.shows
