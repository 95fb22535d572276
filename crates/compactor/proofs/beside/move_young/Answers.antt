-- One young region after another is done, up to where the roots begin.
use Rattle.std.proofs.Common.{◌≡◌, ◌≤◌, ℕ, ◌*◌, refl, sym, ◌∙◌, ap, subst, arith}
use Rattle.page_space.specs.declared.sizes.Sizes.{Sizes}
use Rattle.page_space.specs.Extents.{Space, CellsEndAt, eden_start, roots_start}
use Rattle.page_space.specs.RegionLaws.{IsSpace}
use Rattle.heap_model.specs.RegionRows.{StandsBetween}
use Rattle.heap_model.proofs.RegionSeams.{IsSeam, next_seam, seam_stands, seam_at_roots}
use Rattle.write_barrier.specs.MutatorState.{Mutator}
use Rattle.compactor.specs.Sliding.{IsBegun, Slid}
use Rattle.compactor.specs.Tables.{Table}
use Rattle.compactor.specs.Young.{MayMove, YoungMoved}
use Rattle.compactor.proofs.YoungSteps.{eden_seam, none_moved}
use Rattle.compactor.proofs.beside.move_young.Goals as goal

pub loop-end-init : goal.loop-end-init
loop-end-init c =
    let main = c.args.main.now in
    let same = ap (λ (sizes : Sizes). sizes.pages) c.sizes-at.ensures
    ∙ ap (λ (space : Space). space.sizes.pages) c.regions-regions.ensures.regions in
    let start : eden_start main.seat.space ≡ 2048 * c.sizes-at.result.pages = ap (λ (n : ℕ). 2048 * n) (sym same) in
    record {
      seam = subst (λ (at : ℕ). IsSeam main.seat.space at) start (eden_seam main.seat.space);
      from = omega (arith, start);
      moved = λ first begun slid.
          subst (λ (at : ℕ). YoungMoved first main main c.args.moves.now at)
          (ap (λ (space : Space). eden_start space) (sym slid.rest.seat.space) ∙ start)
          (none_moved first main c.args.moves.now);
    }

-- the next region may be done
next_may : {first was now : Mutator} {table : Table} {at end : ℕ} (told : Space) → IsBegun first
    → Slid first was table first.seat.space.sizes.pages → YoungMoved first was now table at
    → IsSeam was.seat.space at → eden_start was.seat.space ≤ at → told ≡ was.seat.space → CellsEndAt told at end
    → MayMove first was now table at end
next_may {first} {was} {at = at} {end} told begun slid moved seam from same cells =
    let back = sym slid.rest.seat.space in
    let limits : IsSpace was.seat.space = subst (λ (space : Space). IsSpace space) back begun.limits in
    let cells_too : CellsEndAt was.seat.space at end = subst (λ (space : Space). CellsEndAt space at end) same cells in
    record {
      begun = begun;
      slid = slid;
      stands = subst (λ (space : Space). StandsBetween space at end) slid.rest.seat.space
          (seam_stands was.seat.space at end seam limits cells_too);
      young = omega (arith, from, ap (λ (space : Space). eden_start space) slid.rest.seat.space);
      moved = moved;
    }

pub move_row-requires : goal.move_row-requires
move_row-requires c =
    let (first, begun, slid) = c.requires.may in
    record {
      may = (
        first,
        c.args.main.now,
        next_may c.regions-regions.result begun slid (c.loop-end.invariant.moved first begun slid)
            c.loop-end.invariant.seam c.loop-end.invariant.from c.regions-regions.ensures.regions
            c.in-Some.ensures.cells,
      );
    }

pub loop-end-preserved : goal.loop-end-preserved
loop-end-preserved c =
    let Ends : Space → Type 0 = λ space. CellsEndAt space c.loop-end.at c.in-Some.end in
    record {
      seam = (next_seam c.args.main.now.seat.space c.loop-end.at c.in-Some.end c.loop-end.invariant.seam
          c.regions-regions.ensures.within (subst Ends c.regions-regions.ensures.regions c.in-Some.ensures.cells)).next;
      from = omega (arith, c.loop-end.invariant.from, c.in-Some.ensures.ahead);
      moved = λ first begun slid.
          c.move_row.ensures first c.args.main.now
          (next_may c.regions-regions.result begun slid (c.loop-end.invariant.moved first begun slid)
          c.loop-end.invariant.seam c.loop-end.invariant.from c.regions-regions.ensures.regions
          c.in-Some.ensures.cells);
    }

pub returns : goal.returns
returns c first begun slid =
    let past : roots_start c.regions-regions.result ≤ c.loop-end.at = c.in_default.ensures.behind.0 refl in
    let at_roots = seam_at_roots c.args.main.now.seat.space c.loop-end.at c.loop-end.invariant.seam
    c.regions-regions.ensures.within
    (subst (λ (space : Space). roots_start space ≤ c.loop-end.at) c.regions-regions.ensures.regions past) in
    subst (YoungMoved first c.args.main.now c.loop-end.main c.args.moves.now)
    (at_roots ∙ ap (λ (space : Space). roots_start space) slid.rest.seat.space)
    (c.loop-end.invariant.moved first begun slid)
