-- The cells of pages before one have their places.
use Rattle.write_barrier.specs.MutatorState.{heap_of}
use Rattle.compactor.specs.Sliding.{ArePlacedBefore, CountsBefore, page_start}
use Rattle.compactor.proofs.places.place_cells.Given as goal

abbrev pub invariant-loop-page : goal.invariant-loop-page
invariant-loop-page l = record {
  placed : ArePlacedBefore (heap_of l.main) l.moves l.page;
  counted : CountsBefore (heap_of l.main) l.moves (page_start l.page) l.moving;
}
