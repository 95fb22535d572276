-- The page is packed up to the cell at hand.
use Rattle.std.proofs.Common.{◌-◌}
use Rattle.write_barrier.specs.MutatorState.{Mutator}
use Rattle.compactor.specs.Sliding.{InPage, MayPack}
use Rattle.compactor.proofs.pages.pack_page.Given as goal

abbrev pub invariant-cells : goal.invariant-cells
invariant-cells l = record {
  in_page : (first : Mutator) → MayPack first l.fn.main l.moves l.page
      → InPage first l.main l.moves l.page l.cells.limit l.next l.cells.at;
}

abbrev pub decreases-cells : goal.decreases-cells
decreases-cells l = l.cells.limit - l.cells.at
