-- No cycle is open, so the words may be put.
use Rattle.write_barrier.proofs.SlotCycles.{quiet_idle}
use Rattle.collector.proofs.script_heap.Heap.into_image.Goals as goal

pub blank_cells-requires-clause-quiet : goal.blank_cells-requires-clause-quiet
blank_cells-requires-clause-quiet c =
    let (graph, shown) = c.requires in
    quiet_idle (rw (← c.self.view_is) at shown.quiet)
