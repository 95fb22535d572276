use Rattle.heap_model.specs.Images.{image_heap}
use Rattle.slow_check.proofs.DeadStretches.{NoPageTo}
use Rattle.slow_check.proofs.fitting.fits_in_page.Given as goal

abbrev pub invariant-loop-page : goal.invariant-loop-page
invariant-loop-page l = NoPageTo (image_heap l.image) l.n l.page
