-- The layout words that were put are those of the shapes, the others are 0, and only layout words have changed.
use Rattle.write_barrier.specs.Layouts.{HasBothBelow, PutsLayouts}
use Rattle.write_barrier.proofs.layouts.put_layouts.Given as goal

abbrev pub invariant-loop-shape : goal.invariant-loop-shape
invariant-loop-shape l = record {
  changes : PutsLayouts l.fn.seat l.seat;
  layouts : HasBothBelow l.seat l.shapes l.shape;
}
