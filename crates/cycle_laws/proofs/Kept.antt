-- A cell is kept that is young, or counts as reached or made.
use Rattle.std.proofs.Common.{◌≡◌, ℕ, ◌≤◌, ◌⊎◌, inl, inr, true, nat_le, List, Contains, arith}
use Rattle.std.proofs.lemmas.Bool.{or_cases, or_left, or_right}
use Rattle.std.proofs.lemmas.Bool.Decides.{nat_tests}
use Rattle.core_parts.specs.Lists.{is_in}
use Rattle.core_parts.proofs.Joining.{found_in, in_found}
use Rattle.page_space.specs.Extents.{eden_start}
use Rattle.heap_model.specs.Heaps.{Heap}
use Rattle.cycle_state.specs.Keeping.{IsKept}

-- which it is
pub kept_cases : (heap : Heap) (born : List ℕ) (at : ℕ) → IsKept heap born at
    → (eden_start heap.space ≤ at) ⊎ Contains born at
kept_cases heap born at is = elim (or_cases (nat_le (eden_start heap.space) at) (is_in born at) is) [
  | inl young ↦ inl (grind (arith, nat_tests))
  | inr counts ↦ inr (in_found born at counts)
]

-- a young cell is
pub young_is_kept : (heap : Heap) (born : List ℕ) (at : ℕ) → eden_start heap.space ≤ at → IsKept heap born at
young_is_kept heap born at young =
    let test : nat_le (eden_start heap.space) at ≡ true = grind (arith, nat_tests) in
    or_left (nat_le (eden_start heap.space) at) (is_in born at) test

-- and so is one that counts
pub born_is_kept : (heap : Heap) (born : List ℕ) (at : ℕ) → Contains born at → IsKept heap born at
born_is_kept heap born at there =
    or_right (nat_le (eden_start heap.space) at) (is_in born at) (found_in born at there)
