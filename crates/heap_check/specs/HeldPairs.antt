-- What each pair of a weak table holds.
use Rattle.std.specs.Prelude.{◌≡◌, ℕ, ◌⊎◌, List, Some, slice_get}
use Rattle.heap_model.specs.Heaps.{Heap}
use Rattle.heap_model.specs.Kinds.{Pair, free_pair, IsFoundPair}

-- the pair at the place holds nothing, or an entry where probing finds it
abbrev pub IsHeldPair : Heap → List Pair → ℕ → Pair → Type 0
IsHeldPair heap pairs at pair = (pair ≡ free_pair) ⊎ IsFoundPair heap pairs at pair

-- so it is of each pair
abbrev pub AreHeldPairs : Heap → List Pair → Type 0
AreHeldPairs heap pairs = (at : ℕ) (pair : Pair) → slice_get pairs at ≡ Some pair → IsHeldPair heap pairs at pair
