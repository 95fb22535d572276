-- Laws of live cells: they are those of what can be reached.
use Rattle.std.specs.Prelude.{ℕ, Bool, List, Contains, IsTrue}
use Rattle.heap_model.specs.Types.{Cell}
use Rattle.object_graph.specs.Graphs.{Graph}
use Rattle.object_graph.specs.Reach.{is_marked, reach}
use Rattle.heap_model.specs.Heaps.{Heap}
use Rattle.heap_model.specs.Slots.{IsPlace}
use Rattle.heap_model.specs.Wholeness.{NamesFrom}
use Rattle.heap_model.specs.Showing.{Shows}
use Rattle.live_cells.specs.Live.{HasSlotTo, HasEntry, IsLive, IsRootTarget, AreLive}
use Rattle.live_cells.specs.Marked.{HasRootTargets, IsMarkClosed}

-- The address is the place of an object that can be reached, or that of a store, a table or a box that the cell of such
-- an object names.
pub data BelongsToReached (heap : Heap) (graph : Graph) (at : ℕ) : Type 0 where
  place : (number : ℕ) → IsPlace heap number at → IsTrue (is_marked (reach graph) number)
      → BelongsToReached heap graph at
  named : (owner : Cell) (slot : ℕ) → NamesFrom heap owner slot at
      → IsTrue (is_marked (reach graph) owner.header.object) → BelongsToReached heap graph at

-- Where a heap shows a graph, each cell that is live from what root words refer to belongs to an object that can be
-- reached.
abbrev pub LiveIsReached : Type 0
LiveIsReached =
    (heap : Heap) (graph : Graph) (at : ℕ) → Shows heap graph → IsLive heap (IsRootTarget heap) at
    → BelongsToReached heap graph at

-- Where a heap shows a graph, what a slot refers to that marking visits belongs to an object that can be reached, if
-- the slot's cell does.
abbrev pub ReachedSlotsLeadOn : Type 0
ReachedSlotsLeadOn =
    (heap : Heap) (graph : Graph) (from at : ℕ) → Shows heap graph → BelongsToReached heap graph from
    → HasSlotTo heap from at → BelongsToReached heap graph at

-- So does the value of a pair of a weak table, if the table and the key do.
abbrev pub ReachedEntriesLeadOn : Type 0
ReachedEntriesLeadOn =
    (heap : Heap) (graph : Graph) (table key at : ℕ) → Shows heap graph → BelongsToReached heap graph table
    → BelongsToReached heap graph key → HasEntry heap table key at → BelongsToReached heap graph at

-- Where a heap shows a graph, a set of addresses that has what root words refer to and is closed has each place of what
-- can be reached.
abbrev pub ReachedIsMarked : Type 0
ReachedIsMarked =
    (heap : Heap) (graph : Graph) (marked : ℕ → Bool) (number at : ℕ) → Shows heap graph
    → HasRootTargets heap (λ at. IsTrue (marked at)) → IsMarkClosed heap marked
    → IsTrue (is_marked (reach graph) number) → IsPlace heap number at → IsTrue (marked at)

-- So each place of what can be reached is live.
abbrev pub ReachedIsLive : Type 0
ReachedIsLive =
    (heap : Heap) (graph : Graph) (marked : List ℕ) (number at : ℕ) → Shows heap graph → AreLive heap marked
    → IsTrue (is_marked (reach graph) number) → IsPlace heap number at → Contains marked at
