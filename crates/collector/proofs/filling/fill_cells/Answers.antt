use Rattle.std.proofs.Common.{◌≡◌, ◌≤◌, ℕ, refl, subst, arith}
use Rattle.page_space.specs.Extents.{Space, CellsEndAt, roots_start}
use Rattle.write_barrier.specs.MutatorState.{heap_of}
use Rattle.heap_model.proofs.RegionSeams.{first_seam, next_seam, seam_stands, seam_at_roots}
use Rattle.collector.specs.Filling.{FillsWithin}
use Rattle.collector.proofs.FilledWords.{fills_none, fills_more}
use Rattle.collector.proofs.filling.fill_cells.Goals as goal

pub loop-end-init : goal.loop-end-init
loop-end-init c = record {
  seam = first_seam c.args.main.now.seat.space;
  fills = fills_none (heap_of c.args.main.now) c.args.words.now 0;
}

pub fill_region-requires-clause-stands : goal.fill_region-requires-clause-stands
fill_region-requires-clause-stands c =
    let space = c.args.main.now.seat.space in
    let Ends : Space → Type 0 = λ space. CellsEndAt space c.loop-end.at c.in-Some.end in
    seam_stands space c.loop-end.at c.in-Some.end c.loop-end.invariant.seam c.regions-regions.ensures.within
    (subst Ends c.regions-regions.ensures.regions c.in-Some.ensures.cells)

pub loop-end-preserved : goal.loop-end-preserved
loop-end-preserved c =
    let space = c.args.main.now.seat.space in
    let Ends : Space → Type 0 = λ space. CellsEndAt space c.loop-end.at c.in-Some.end in
    record {
      seam = (next_seam space c.loop-end.at c.in-Some.end c.loop-end.invariant.seam c.regions-regions.ensures.within
          (subst Ends c.regions-regions.ensures.regions c.in-Some.ensures.cells)).next;
      fills = fills_more (heap_of c.args.main.now) c.args.words.now c.loop-end.words c.fill_region.new.words 0
          c.loop-end.at c.in-Some.end (omega arith) (omega (arith, c.in-Some.ensures.ahead)) c.loop-end.invariant.fills
          c.fill_region.ensures;
    }

-- the roots begin where no region of cells goes on
roots_begin : (c : goal.In_default) → c.loop-end.at ≡ roots_start c.args.main.now.seat.space
roots_begin c =
    let past : roots_start c.regions-regions.result ≤ c.loop-end.at = c.in_default.ensures.behind.0 refl in
    seam_at_roots c.args.main.now.seat.space c.loop-end.at c.loop-end.invariant.seam c.regions-regions.ensures.within
    (subst (λ (space : Space). roots_start space ≤ c.loop-end.at) c.regions-regions.ensures.regions past)

pub returns-clause-roots : goal.returns-clause-roots
returns-clause-roots c = roots_begin c

pub returns-clause-filled : goal.returns-clause-filled
returns-clause-filled c =
    let Fills : ℕ → Type 0 = λ to. FillsWithin (heap_of c.args.main.now) c.args.words.now c.loop-end.words 0 to in
    subst Fills (roots_begin c) c.loop-end.invariant.fills
