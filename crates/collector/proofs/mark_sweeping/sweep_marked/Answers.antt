-- What each step needs of those before it, and what all of them come to.
use Rattle.std.proofs.Common.{ℕ, List, sym, subst}
use Rattle.heap_model.specs.Heaps.{Heap}
use Rattle.live_cells.specs.Live.{AreLive}
use Rattle.write_barrier.specs.MutatorState.{heap_of}
use Rattle.collector.specs.MarkSwept.{IsMarkedFrom, SweepsMarked}
use Rattle.collector.proofs.Ungranted.{heap_stays}
use Rattle.collector.proofs.ClearedHeap.{are_maps, marked_by, sweepable}
use Rattle.collector.proofs.SweptMarked.{bare_shows, swept_marked}
use Rattle.collector.proofs.Collected.{collected}
use Rattle.collector.proofs.mark_sweeping.sweep_marked.Goals as goal

pub clear-requires-clause-maps : goal.clear-requires-clause-maps
clear-requires-clause-maps c =
    let marked = subst (λ (heap : Heap). IsMarkedFrom heap c.requires.marked.0 c.args.marking.now)
    (sym (heap_stays c.ungrant.ensures)) c.requires.marked.1 in
    are_maps (marked_by c.args.marking.now (bare_shows c.requires.shown.1 c.ungrant.ensures)
    c.cells-marked.ensures.cells c.maps.ensures marked)

pub sweep-requires-clause-closed : goal.sweep-requires-clause-closed
sweep-requires-clause-closed c =
    let marked = subst (λ (heap : Heap). IsMarkedFrom heap c.requires.marked.0 c.args.marking.now)
    (sym (heap_stays c.ungrant.ensures)) c.requires.marked.1 in
    sweepable c.addresses_fit.ensures.within
    (marked_by c.args.marking.now (bare_shows c.requires.shown.1 c.ungrant.ensures) c.cells-marked.ensures.cells
    c.maps.ensures marked) c.clear.ensures.cleared

pub returns-clause-swept : goal.returns-clause-swept
returns-clause-swept c graph shows =
    let marked = subst (λ (heap : Heap). IsMarkedFrom heap c.requires.marked.0 c.args.marking.now)
    (sym (heap_stays c.ungrant.ensures)) c.requires.marked.1 in
    subst (λ (all : List ℕ). SweepsMarked c.args.main.now c.sweep.new.main all graph) c.cells-marked.ensures.cells
    (swept_marked (record {
      quiet = c.requires.quiet;
      shown = shows;
      within = c.addresses_fit.ensures.within;
      ungrants = c.ungrant.ensures;
      is_marked = marked_by c.args.marking.now (bare_shows shows c.ungrant.ensures) c.cells-marked.ensures.cells
          c.maps.ensures marked;
      clears = c.clear.ensures.cleared;
      sweeps = c.sweep.ensures.swept;
    }))

pub returns-clause-exact : goal.returns-clause-exact
returns-clause-exact c graph shows live =
    let marked = subst (λ (heap : Heap). IsMarkedFrom heap c.requires.marked.0 c.args.marking.now)
    (sym (heap_stays c.ungrant.ensures)) c.requires.marked.1 in
    let bare_live = subst (λ (heap : Heap). AreLive heap c.args.marking.now.cells)
    (sym (heap_stays c.ungrant.ensures)) live in
    collected (record {
      quiet = c.requires.quiet;
      shown = shows;
      within = c.addresses_fit.ensures.within;
      ungrants = c.ungrant.ensures;
      is_marked = marked_by c.args.marking.now (bare_shows shows c.ungrant.ensures) c.cells-marked.ensures.cells
          c.maps.ensures marked;
      clears = c.clear.ensures.cleared;
      sweeps = c.sweep.ensures.swept;
    }) (subst (AreLive (heap_of c.ungrant.new.main)) (sym c.cells-marked.ensures.cells) bare_live)
