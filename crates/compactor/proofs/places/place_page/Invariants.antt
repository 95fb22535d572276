-- The places are put up to the cell at hand.
use Rattle.std.proofs.Common.{◌-◌}
use Rattle.write_barrier.specs.MutatorState.{heap_of}
use Rattle.compactor.specs.Sliding.{CountsBefore, PlacesTo}
use Rattle.compactor.proofs.places.place_page.Given as goal

abbrev pub invariant-cells : goal.invariant-cells
invariant-cells l = record {
  to : PlacesTo (heap_of l.main) l.fn.moves l.moves l.page l.cells.limit l.next l.cells.at;
  counted : CountsBefore (heap_of l.main) l.moves l.cells.at l.moving;
}

abbrev pub decreases-cells : goal.decreases-cells
decreases-cells l = l.cells.limit - l.cells.at
