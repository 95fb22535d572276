-- Some pairs were taken out of the map's table, one at least.
use Rattle.std.proofs.Common.{◌≡◌, ◌<◌, ◌+◌, [], ◌∷◌}
use Rattle.heap_model.specs.Needs.{count_at}
use Rattle.write_barrier.specs.MutatorState.{heap_of}
use Rattle.ephemeron_clear.specs.Clearing.{TakesUnmarked}
use Rattle.ephemeron_clear.proofs.maps.take_down.Given as goal

abbrev pub invariant-loop-place : goal.invariant-loop-place
invariant-loop-place l = record {
  takes : TakesUnmarked l.fn.main l.main (l.map ∷ []) l.marked.addresses;
  counted : l.gone + count_at (heap_of l.main) l.map ≡ count_at (heap_of l.fn.main) l.map;
  some : 0 < l.gone;
}

abbrev pub decreases-loop-place : goal.decreases-loop-place
decreases-loop-place l = count_at (heap_of l.main) l.map
