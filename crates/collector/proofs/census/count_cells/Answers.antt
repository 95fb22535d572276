-- The count goes from region to region, to the roots, and so has counted all cells.
use Rattle.std.proofs.Common.{◌≤◌, refl, subst}
use Rattle.page_space.specs.Extents.{Space, CellsEndAt, roots_start}
use Rattle.heap_model.proofs.RegionSeams.{first_seam, next_seam, seam_stands}
use Rattle.write_barrier.specs.MutatorState.{heap_of}
use Rattle.live_cells.proofs.CountSteps.{counts_none, counts_all}
use Rattle.collector.proofs.census.count_cells.Goals as goal

pub loop-end-init : goal.loop-end-init
loop-end-init c = record {
  seam = first_seam c.args.main.now.seat.space;
  counts = counts_none (heap_of c.args.main.now);
}

pub count_row-census-requires-clause-stands : goal.count_row-census-requires-clause-stands
count_row-census-requires-clause-stands c =
    let Ends : Space → Type 0 = λ space. CellsEndAt space c.loop-end.at c.in-Some.end in
    seam_stands c.args.main.now.seat.space c.loop-end.at c.in-Some.end c.loop-end.invariant.seam
    c.regions-regions.ensures.within (subst Ends c.regions-regions.ensures.regions c.in-Some.ensures.cells)

pub loop-end-preserved : goal.loop-end-preserved
loop-end-preserved c =
    let Ends : Space → Type 0 = λ space. CellsEndAt space c.loop-end.at c.in-Some.end in
    record {
      seam = (next_seam c.args.main.now.seat.space c.loop-end.at c.in-Some.end c.loop-end.invariant.seam
          c.regions-regions.ensures.within (subst Ends c.regions-regions.ensures.regions c.in-Some.ensures.cells)).next;
      counts = c.count_row-census.ensures;
    }

pub returns : goal.returns
returns c rows are =
    let past : roots_start c.regions-regions.result ≤ c.loop-end.at = c.in_default.ensures.behind.0 refl in
    counts_all c.requires.rows are
    (subst (λ (space : Space). roots_start space ≤ c.loop-end.at) c.regions-regions.ensures.regions past)
    c.loop-end.invariant.counts
