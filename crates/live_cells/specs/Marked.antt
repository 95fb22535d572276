-- Which sets of addresses a marking may end with: they have what the roots refer to, and what their cells lead to.
use Rattle.std.specs.Prelude.{ℕ, Bool, IsTrue}
use Rattle.heap_model.specs.Heaps.{Heap}
use Rattle.live_cells.specs.Live.{HasSlotTo, HasEntry, IsRootTarget}

-- what root words refer to is marked
abbrev pub HasRootTargets : Heap → (ℕ → Type 0) → Type 0
HasRootTargets heap IsMarked = (at : ℕ) → IsRootTarget heap at → IsMarked at

-- What a slot of a marked cell refers to, of those that marking visits, is marked; and so is the value of a pair whose
-- table and key are marked.
pub record IsMarkClosed (heap : Heap) (marked : ℕ → Bool) : Type 0 where
  pub slots : (from at : ℕ) → IsTrue (marked from) → HasSlotTo heap from at → IsTrue (marked at)
  pub entries : (table key at : ℕ) → IsTrue (marked table) → IsTrue (marked key) → HasEntry heap table key at
      → IsTrue (marked at)
