use Rattle.std.proofs.Common.{◌≡◌, ℕ, ◌<◌, Some, slice_get}
use Rattle.page_space.specs.Extents.{eden_start}
use Rattle.slow_check.proofs.remembered.are_of_pages.Given as goal

abbrev pub invariant-loop-at : goal.invariant-loop-at
invariant-loop-at l =
    (k : ℕ) → k < l.at-index → (at : ℕ) → slice_get l.slots k ≡ Some at → at < eden_start l.image.regions
