-- Some pairs were taken out of the map's table.
use Rattle.std.proofs.Common.{◌≡◌, ◌+◌, [], ◌∷◌}
use Rattle.heap_model.specs.Needs.{count_at}
use Rattle.write_barrier.specs.MutatorState.{heap_of}
use Rattle.ephemeron_clear.specs.Clearing.{TakesUnmarked}
use Rattle.ephemeron_clear.proofs.maps.clear_map.Given as goal

abbrev pub invariant-loop-last : goal.invariant-loop-last
invariant-loop-last l = record {
  takes : TakesUnmarked l.fn.main l.main (l.map ∷ []) l.marked.addresses;
  counted : l.gone + count_at (heap_of l.main) l.map ≡ count_at (heap_of l.fn.main) l.map;
}

abbrev pub decreases-loop-last : goal.decreases-loop-last
decreases-loop-last l = count_at (heap_of l.main) l.map
