use Rattle.std.proofs.Common.{refl, sym, ◌∙◌}
use Rattle.std.proofs.lemmas.Bool.{false≢true}
use Rattle.heap_model.specs.Images.{image_heap}
use Rattle.live_cells.specs.Exact.{Fits}
use Rattle.slow_check.proofs.DeadStretches.{fits_where, some_words}
use Rattle.slow_check.proofs.fitting.fits.Goals as goal

pub returns-then-fits_young : goal.returns-then-fits_young
returns-then-fits_young c = (λ yes. Fits.young (c.fits_young.ensures.0 c.if-fits_young.true), λ fits. refl)

pub fits_in_page-requires-clause-some : goal.fits_in_page-requires-clause-some
fits_in_page-requires-clause-some c =
    some_words (image_heap c.args.image.now) c.args.n c.requires.rows
    (λ room. false≢true (sym c.if-fits_young.false ∙ c.fits_young.ensures.1 room))

pub returns-else-fits_young : goal.returns-else-fits_young
returns-else-fits_young c =
    let same = fits_where (image_heap c.args.image.now) c.args.n
    (λ room. false≢true (sym c.if-fits_young.false ∙ c.fits_young.ensures.1 room)) in (
      λ yes. same.0 (c.fits_in_page.ensures.0 yes),
      λ fits. c.fits_in_page.ensures.1 (same.1 fits),
    )
