-- The cells of one page after another have their places, and are counted.
use Rattle.std.proofs.Common.{◌≡◌, ℕ, ◌∙◌, ap, subst, arith}
use Rattle.page_space.specs.declared.sizes.Sizes.{Sizes}
use Rattle.page_space.specs.Extents.{Space}
use Rattle.write_barrier.specs.MutatorState.{heap_of}
use Rattle.compactor.specs.Sliding.{ArePlacedBefore, CountsBefore, page_start}
use Rattle.compactor.proofs.CountedCells.{none_counted}
use Rattle.compactor.proofs.places.place_cells.Goals as goal

pub loop-page-init : goal.loop-page-init
loop-page-init c = record {
  placed = record { bound = c.requires.bound; placed = λ before row below. absurd (omega (arith, below)) };
  counted = none_counted (heap_of c.args.main.now) c.args.moves.now;
}

pub loop-page-preserved : goal.loop-page-preserved
loop-page-preserved c =
    record { placed = c.place_page-moving.ensures.placed; counted = c.place_page-moving.ensures.counted }

pub returns : goal.returns
returns c =
    let pages = ap (λ (sizes : Sizes). sizes.pages) c.sizes-page-end.ensures
    ∙ ap (λ (space : Space). space.sizes.pages) c.regions.ensures.regions in
    let all : c.loop-page.page ≡ c.args.main.now.seat.space.sizes.pages = omega (arith, pages) in
    let heap = heap_of c.args.main.now in
    record {
      placed = subst (λ (n : ℕ). ArePlacedBefore heap c.loop-page.moves n) all c.loop-page.invariant.placed;
      counted = subst (λ (n : ℕ). CountsBefore heap c.loop-page.moves (page_start n) c.loop-page.moving) all
          c.loop-page.invariant.counted;
    }
