-- Where just the live cells of a heap are marked, clearing and sweeping keep nothing else.
use Rattle.std.proofs.Common.{ℕ, ◌↔◌, List, subst}
use Rattle.object_graph.specs.Graphs.{Graph}
use Rattle.heap_model.specs.Heaps.{Heap}
use Rattle.live_cells.specs.Exact.{KeepsNoOther}
use Rattle.live_cells.specs.Fitting.{DeadIsFree}
use Rattle.live_cells.specs.Live.{IsLive, IsRootTarget, AreLive}
use Rattle.live_cells.proofs.DeadIsFree.{swept_dead_is_free}
use Rattle.live_cells.proofs.KeptOnly.{swept_keeps_no_other}
use Rattle.write_barrier.specs.MutatorState.{Mutator, heap_of}
use Rattle.sweeper.specs.Swept.{IsOfMarked, place_if_marked}
use Rattle.collector.specs.Images.{IsOfSomeCell}
use Rattle.collector.specs.SweptRuns.{AreSwept}
use Rattle.collector.specs.MarkSwept.{LiveCellsStay, MarkSweeps}
use Rattle.collector.proofs.ClearedHeap.{still_exact, still_shown}
use Rattle.collector.proofs.SweptObjects.{marked_cells_stay, marked_stay}
use Rattle.collector.proofs.SweptMarked.{Steps, after, swept_words, same_heap, young_is, rest}
use Rattle.collector.proofs.SweptMarked.{still_shows, swept_marked}

module _ {old bare cleared new : Mutator} {graph : Graph} {given maps marked : List ℕ}
    (steps : Steps old bare cleared new graph given maps marked) (exact : AreLive (heap_of bare) marked) where
  -- where just the live cells were marked, nothing else is kept
  keeps : KeepsNoOther (heap_of new) graph
  keeps =
      swept_keeps_no_other (heap_of cleared) (heap_of new) marked (place_if_marked marked) graph
      (still_shown steps.within steps.is_marked steps.clears)
      (still_exact steps.within steps.is_marked steps.clears exact) (marked_stay marked) steps.sweeps.moved

  -- all else in pages is free
  dead : DeadIsFree (heap_of new) new.free
  dead =
      swept_dead_is_free (heap_of cleared) (heap_of new) marked (place_if_marked marked) graph new.free
      (still_shown steps.within steps.is_marked steps.clears)
      (still_exact steps.within steps.is_marked steps.clears exact) (marked_stay marked) steps.sweeps.moved
      (λ at below none. (steps.sweeps.filled at below).1 (λ is. none (record {
        cell = is.cell;
        words = is.words;
        has = is.has;
        among = is.among;
        of_cell = record { from = is.from; below = is.below };
      })))

  -- the words of marked cells are those of live ones
  of_live : (at : ℕ) → IsOfMarked (heap_of bare) marked at
      ↔ IsOfSomeCell (heap_of bare) (λ cell. IsLive (heap_of bare) (IsRootTarget (heap_of bare)) cell.at) at
  of_live at = (
    λ is. record {
      cell = is.cell;
      words = is.words;
      has = is.has;
      holds = (exact is.cell.at).0 is.among;
      of_cell = record { from = is.from; below = is.below };
    },
    λ is. record {
      cell = is.cell;
      words = is.words;
      has = is.has;
      among = (exact is.cell.at).1 is.holds;
      from = is.of_cell.from;
      below = is.of_cell.below;
    },
  )

  -- so free runs have all other words of pages
  swept : AreSwept (heap_of bare) new.free
  swept = record {
    words = λ at below.
        let filled = swept_words steps at below in (
          λ free is. filled.0 free ((of_live at).1 is),
          λ none. filled.1 (λ is. none ((of_live at).0 is)),
        );
    apart = steps.sweeps.apart;
  }

  -- live cells stand where they stood
  cells : LiveCellsStay (heap_of bare) (heap_of new)
  cells cell words has live = marked_cells_stay (after steps) cell words has ((exact cell.at).1 live)

  -- And all is as it should be.
  pub collected : MarkSweeps old new graph
  collected = record {
    shows = still_shows steps;
    keeps = keeps;
    dead = dead;
    swept = subst (λ (heap : Heap). AreSwept heap new.free) (same_heap steps) swept;
    rows = (swept_marked steps).rows;
    cells = subst (λ (heap : Heap). LiveCellsStay heap (heap_of new)) (same_heap steps) cells;
    rooms = (swept_marked steps).rooms;
    seat = rest steps;
    paths = (swept_marked steps).paths;
    cycle = (swept_marked steps).cycle;
    young = young_is steps;
  }
