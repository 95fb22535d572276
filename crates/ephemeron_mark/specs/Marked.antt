-- What a marking was given and has found: the cells that are marked, and which of these are weak maps.
use Rattle.std.specs.Prelude.{◌≡◌, ℕ, List, [], Contains}
use Rattle.heap_model.specs.Types.{Cell}
use Rattle.heap_model.specs.Heaps.{Heap, HasCell}
use Rattle.heap_model.specs.Slots.{IsWeakCellAt}
use Rattle.live_cells.specs.Live.{HasSlotTo, IsLive, IsRootTarget, IsStart}

-- The bound that all addresses are below; the addresses of the marked cells, in any order; those of weak maps among
-- them that were found; and of the cells that a marking was given, before it begins, those that were given as seen.
pub record Marked : Type 0 where
  pub bound : ℕ
  pub cells : List ℕ
  pub maps : List ℕ
  pub seen : List ℕ

-- nothing is marked
abbrev pub none_marked : ℕ → Marked
none_marked bound = record { bound = bound; cells = []; maps = []; seen = [] }

-- the cell at the address is live, from what root words refer to
abbrev pub IsLiveAt : Heap → ℕ → Type 0
IsLiveAt heap at = IsLive heap (IsRootTarget heap) at

-- the cell at the address is live, from what root words refer to and from the cells at these addresses
abbrev pub IsLiveFrom : Heap → List ℕ → ℕ → Type 0
IsLiveFrom heap given at = IsLive heap (IsStart heap given) at

-- a cell of the heap stands at the address
pub record StandsInHeap (heap : Heap) (at : ℕ) : Type 0 where
  pub cell : Cell
  pub words : List ℕ
  pub has : HasCell heap cell words
  pub stands : cell.at ≡ at

-- Where a cell was given as seen, and is no weak map, its slots that marking visits refer to nothing but cells that
-- were given.
abbrev pub SeenLeadToGiven : Heap → Marked → Type 0
SeenLeadToGiven heap marking =
    (from to : ℕ) → Contains marking.seen from → (IsWeakCellAt heap from → ⊥) → HasSlotTo heap from to
    → Contains marking.cells to
