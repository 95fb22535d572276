-- The walk goes from region to region.
use Rattle.std.proofs.Common.{subst}
use Rattle.page_space.specs.Extents.{Space, CellsEndAt}
use Rattle.heap_model.proofs.RegionSeams.{first_seam, next_seam, seam_stands}
use Rattle.marking_tests.proofs.found_cells.find_cell.Goals as goal

pub loop-end-init : goal.loop-end-init
loop-end-init c = first_seam c.args.main.now.seat.space

pub find_between-requires-clause-stands : goal.find_between-requires-clause-stands
find_between-requires-clause-stands c =
    let Ends : Space → Type 0 = λ space. CellsEndAt space c.loop-end.start c.in-Some.end in
    seam_stands c.args.main.now.seat.space c.loop-end.start c.in-Some.end c.loop-end.invariant
    c.regions-regions.ensures.within (subst Ends c.regions-regions.ensures.regions c.in-Some.ensures.cells)

pub loop-end-preserved : goal.loop-end-preserved
loop-end-preserved c =
    let Ends : Space → Type 0 = λ space. CellsEndAt space c.loop-end.start c.in-Some.end in
    (next_seam c.args.main.now.seat.space c.loop-end.start c.in-Some.end c.loop-end.invariant
    c.regions-regions.ensures.within (subst Ends c.regions-regions.ensures.regions c.in-Some.ensures.cells)).next
