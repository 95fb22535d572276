-- The objects that can be reached, and what shows them.
use Rattle.std.specs.Prelude.{◌≡◌, ℕ, Bool, List, Some, slice_get, IsTrue}
use Rattle.heap_model.specs.Types.{Object}
use Rattle.object_graph.specs.Reach.{is_marked}
use Rattle.heap_model.specs.Heaps.{Heap}
use Rattle.heap_model.specs.Showing.{ShowsReached}

-- the object has one place, which shows it, if it can be reached
abbrev pub ShowsMarked : Heap → List Bool → ℕ → Object → Type 0
ShowsMarked heap marks number what = IsTrue (is_marked marks number) → ShowsReached heap marks number what

-- so it is of each of the objects
abbrev pub ShowReached : Heap → List Bool → List Object → Type 0
ShowReached heap marks objects =
    (number : ℕ) (what : Object) → slice_get objects number ≡ Some what → ShowsMarked heap marks number what
