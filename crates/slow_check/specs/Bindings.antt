-- What the variables hold, and what they are bound to.
use Rattle.std.specs.Prelude.{ℕ, ◌<◌}
use Rattle.object_graph.specs.Graphs.{Graph}
use Rattle.heap_model.specs.Types.{Held}
use Rattle.handle_roots.specs.Roots.{Holds}
use Rattle.heap_model.specs.Heaps.{Heap}
use Rattle.heap_model.specs.Showing.{ShowsBinding}

-- the root words of the variable stand for this
abbrev pub HeldBy : Heap → ℕ → Held → Type 0
HeldBy heap variable held = Holds heap.space heap.words variable held

-- the root words of each variable show what it is bound to
abbrev pub ShowBindings : Heap → Graph → Type 0
ShowBindings heap graph = (variable : ℕ) → variable < heap.space.variables → ShowsBinding heap graph variable
