use Rattle.std.proofs.Common.{◌∙◌, ap, sym}
use Rattle.heap_run.specs.Opening.{inspection_for}
use Rattle.heap_run.proofs.opened.Opened.new.Goals as goal

pub returns : goal.returns
returns c =
    let heap = c.in_ok-heap.ensures in
    let inspection = c.in_ok-inspection.ensures in
    record {
      shown = heap.opened.0;
      empty = heap.opened.1;
      closed = heap.closed;
      space = heap.regions ∙ c.new-regions.ensures;
      inspected = inspection ∙ ap (inspection_for c.args.inspects) (sym heap.regions);
      quiet = c.in_ok-out.ensures;
    }
