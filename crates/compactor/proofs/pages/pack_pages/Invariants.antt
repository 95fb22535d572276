-- The pages before one are packed.
use Rattle.compactor.specs.Sliding.{Slid}
use Rattle.compactor.proofs.pages.pack_pages.Given as goal

abbrev pub invariant-loop-page : goal.invariant-loop-page
invariant-loop-page l = record { slid : Slid l.fn.main l.main l.moves l.page }
