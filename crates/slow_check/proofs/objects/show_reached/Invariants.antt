use Rattle.std.proofs.Common.{◌≡◌, ℕ, ◌<◌, Some, slice_get}
use Rattle.heap_model.specs.Types.{Object}
use Rattle.heap_model.specs.Images.{image_heap}
use Rattle.slow_check.specs.Reached.{ShowsMarked}
use Rattle.slow_check.proofs.objects.show_reached.Given as goal

abbrev pub invariant-loop-number : goal.invariant-loop-number
invariant-loop-number l =
    (number : ℕ) → number < l.number → (what : Object) → slice_get l.objects number ≡ Some what
    → ShowsMarked (image_heap l.image) l.marks number what
