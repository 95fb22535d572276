use Rattle.std.proofs.Common.{refl, sym, ◌∙◌, ap, arith}
use Rattle.std.proofs.lemmas.Bool.{false≢true}
use Rattle.heap_model.specs.Types.{Sizes}
use Rattle.heap_model.specs.Images.{image_heap}
use Rattle.slow_check.proofs.DeadStretches.{no_page_more, fits_in_none}
use Rattle.slow_check.proofs.fitting.fits_in_page.Goals as goal

pub has_page_dead-requires-clause-there : goal.has_page_dead-requires-clause-there
has_page_dead-requires-clause-there c =
    omega (arith, c.loop-page-test.true, ap (λ (s : Sizes). s.pages) c.sizes-page-end.ensures)

pub returns-then-has_page_dead : goal.returns-then-has_page_dead
returns-then-has_page_dead c = (
  λ yes. record {
    page = c.loop-page.page;
    there = omega (arith, c.loop-page-test.true, ap (λ (s : Sizes). s.pages) c.sizes-page-end.ensures);
    has = c.has_page_dead.ensures.0 c.if-has_page_dead.true;
  },
  λ fits. refl,
)

pub loop-page-preserved : goal.loop-page-preserved
loop-page-preserved c =
    no_page_more (image_heap c.args.image.now) c.args.n c.loop-page.page c.loop-page.invariant
    (λ has. false≢true (sym c.if-has_page_dead.false ∙ c.has_page_dead.ensures.1 has))

pub returns : goal.returns
returns c = (
  λ wrong. absurd (false≢true wrong),
  λ fits. absurd (fits_in_none (image_heap c.args.image.now) c.args.n c.loop-page.page
      (omega (arith, c.loop-page-test.false, ap (λ (s : Sizes). s.pages) c.sizes-page-end.ensures))
      c.loop-page.invariant fits),
)
