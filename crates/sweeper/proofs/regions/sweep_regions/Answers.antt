-- One region after another is swept, up to where the roots begin.
use Rattle.std.proofs.Common.{◌≡◌, ◌≤◌, ℕ, List, refl, sym, ◌∙◌, ap, subst}
use Rattle.page_space.specs.Extents.{Space, CellsEndAt, roots_start}
use Rattle.page_space.specs.RegionLaws.{IsSpace}
use Rattle.heap_model.specs.RegionRows.{StandsBetween}
use Rattle.heap_model.proofs.RegionSeams.{IsSeam, first_seam, next_seam, seam_stands, seam_at_roots}
use Rattle.write_barrier.specs.MutatorState.{Mutator}
use Rattle.sweeper.specs.Sweeping.{IsBegun, MaySweep, Sweeping}
use Rattle.sweeper.proofs.regions.sweep_regions.Goals as goal

pub loop-end-init : goal.loop-end-init
loop-end-init c = record { seam = first_seam c.args.main.now.seat.space; sweeping = λ first begun sweeping. sweeping }

-- the next region may be swept
next_may : {first main now : Mutator} {marked : List ℕ} {at end : ℕ} (told : Space) → IsBegun first
    → Sweeping first main marked 0 → Sweeping first now marked at → IsSeam main.seat.space at
    → told ≡ main.seat.space → CellsEndAt told at end → MaySweep first now marked at end
next_may {first} {main} {at = at} {end} told begun from_begin sweeping seam same cells =
    let back = sym from_begin.seat.space in
    let limits : IsSpace main.seat.space = subst (λ (space : Space). IsSpace space) back begun.limits in
    let cells_too : CellsEndAt main.seat.space at end = subst (λ (space : Space). CellsEndAt space at end) same cells in
    record {
      begun = begun;
      stands = subst (λ (space : Space). StandsBetween space at end) from_begin.seat.space
          (seam_stands main.seat.space at end seam limits cells_too);
      sweeping = sweeping;
    }

pub sweep_row-requires-clause-may : goal.sweep_row-requires-clause-may
sweep_row-requires-clause-may c =
    let begun = c.requires.begun in (
      begun.0,
      next_may c.regions-regions.result begun.1 begun.2 (c.loop-end.invariant.sweeping begun.0 begun.1 begun.2)
          c.loop-end.invariant.seam c.regions-regions.ensures.regions c.in-Some.ensures.cells,
    )

pub loop-end-preserved : goal.loop-end-preserved
loop-end-preserved c =
    let Ends : Space → Type 0 = λ space. CellsEndAt space c.loop-end.at c.in-Some.end in
    record {
      seam = (next_seam c.args.main.now.seat.space c.loop-end.at c.in-Some.end c.loop-end.invariant.seam
          c.regions-regions.ensures.within (subst Ends c.regions-regions.ensures.regions c.in-Some.ensures.cells)).next;
      sweeping = λ first begun sweeping.
          c.sweep_row.ensures first
          (next_may c.regions-regions.result begun sweeping (c.loop-end.invariant.sweeping first begun sweeping)
          c.loop-end.invariant.seam c.regions-regions.ensures.regions c.in-Some.ensures.cells);
    }

pub returns : goal.returns
returns c first begun sweeping =
    let past : roots_start c.regions-regions.result ≤ c.loop-end.at = c.in_default.ensures.behind.0 refl in
    let at_roots = seam_at_roots c.args.main.now.seat.space c.loop-end.at c.loop-end.invariant.seam
    c.regions-regions.ensures.within
    (subst (λ (space : Space). roots_start space ≤ c.loop-end.at) c.regions-regions.ensures.regions past) in
    subst (Sweeping first c.loop-end.main c.args.marked.now.addresses)
    (at_roots ∙ ap (λ (space : Space). roots_start space) sweeping.seat.space)
    (c.loop-end.invariant.sweeping first begun sweeping)
