-- One page after another is packed.
use Rattle.std.proofs.Common.{◌≡◌, ℕ, ◌∙◌, ap, subst, arith}
use Rattle.page_space.specs.declared.sizes.Sizes.{Sizes}
use Rattle.page_space.specs.Extents.{Space}
use Rattle.compactor.specs.Sliding.{Slid}
use Rattle.compactor.proofs.PageEnds.{none_packed}
use Rattle.compactor.proofs.pages.pack_pages.Goals as goal

pub loop-page-init : goal.loop-page-init
loop-page-init c = record { slid = none_packed c.args.main.now c.args.moves.now }

pub pack_page-requires : goal.pack_page-requires
pack_page-requires c =
    let pages = ap (λ (sizes : Sizes). sizes.pages) c.sizes-page-end.ensures
    ∙ ap (λ (space : Space). space.sizes.pages) c.regions.ensures.regions in
    record {
      may = (
        c.args.main.now,
        record {
          begun = c.requires.begun;
          places = c.requires.placed;
          there = omega (arith, pages);
          slid = c.loop-page.invariant.slid;
        },
      );
    }

pub loop-page-preserved : goal.loop-page-preserved
loop-page-preserved c =
    let pages = ap (λ (sizes : Sizes). sizes.pages) c.sizes-page-end.ensures
    ∙ ap (λ (space : Space). space.sizes.pages) c.regions.ensures.regions in
    record {
      slid = c.pack_page.ensures c.args.main.now (record {
        begun = c.requires.begun;
        places = c.requires.placed;
        there = omega (arith, pages);
        slid = c.loop-page.invariant.slid;
      });
    }

pub returns : goal.returns
returns c =
    let pages = ap (λ (sizes : Sizes). sizes.pages) c.sizes-page-end.ensures
    ∙ ap (λ (space : Space). space.sizes.pages) c.regions.ensures.regions in
    let all : c.loop-page.page ≡ c.args.main.now.seat.space.sizes.pages = omega (arith, pages) in
    subst (λ (n : ℕ). Slid c.args.main.now c.loop-page.main c.args.moves.now n) all c.loop-page.invariant.slid
