-- What of a heap is kept where its cells are moved, or taken away: some of them, for objects that can be reached alone.
use Rattle.std.specs.Prelude.{◌≡◌, ℕ, ◌≤◌, List, Option, Some, Contains, IsTrue}
use Rattle.page_space.specs.Extents.{eden_start}
use Rattle.object_graph.specs.Graphs.{Graph}
use Rattle.object_graph.specs.Reach.{is_marked, reach}
use Rattle.heap_model.specs.Types.{Cell}
use Rattle.heap_model.specs.Heaps.{Heap, HasCell}
use Rattle.heap_model.specs.Slots.{IsPlace}
use Rattle.heap_model.specs.Wholeness.{IsOwnedKind, NamesFrom}
use Rattle.heap_model.specs.Showing.{Shows}
use Rattle.heap_model.specs.Reaching.{IsReached, IsTight}
use Rattle.heap_moves.specs.Moved.{IsMoved}
use Rattle.heap_moves.specs.Standing.{Stays, ShowsFor}
use Rattle.live_cells.specs.Live.{AreLive}
use Rattle.live_cells.specs.Exact.{KeepsNoOther, Exact}

-- an object's cell at one of these addresses names the store, the table or the box at this one
pub record IsNamedAmong (heap : Heap) (kept : ℕ → Type 0) (at : ℕ) : Type 0 where
  pub owner : Cell
  pub slot : ℕ
  pub names : NamesFrom heap owner slot at
  pub among : kept owner.at

-- What stands at these addresses is kept for objects that can be reached: each object's cell there carries the number
-- of one, and an object's cell there names each store, table and box there.
pub record KeepsOnlyReached (heap : Heap) (graph : Graph) (kept : ℕ → Type 0) : Type 0 where
  pub reached : (number at : ℕ) → IsPlace heap number at → kept at → IsTrue (is_marked (reach graph) number)
  pub named : (cell : Cell) (words : List ℕ) → HasCell heap cell words → kept cell.at
      → IsOwnedKind cell.layout.kind → IsNamedAmong heap kept cell.at

-- What stands at these addresses stays where it is, and nothing else stays.
pub record StayInPlace (marked : List ℕ) (to : ℕ → Option ℕ) : Type 0 where
  pub stays : (at : ℕ) → Contains marked at → to at ≡ Some at
  pub goes : (at now : ℕ) → to at ≡ Some now → (now ≡ at) × Contains marked at

-- Where all that stays of a heap is kept for objects that can be reached, the moved heap keeps nothing else.
abbrev pub MovesForReached : Type 0
MovesForReached =
    (old new : Heap) (to : ℕ → Option ℕ) (graph : Graph) → ShowsFor old graph (Stays to)
    → KeepsOnlyReached old graph (Stays to) → IsMoved old new to → KeepsNoOther new graph

-- What is live is kept for objects that can be reached.
abbrev pub LiveIsForReached : Type 0
LiveIsForReached =
    (heap : Heap) (graph : Graph) (marked : List ℕ) → Shows heap graph → AreLive heap marked
    → KeepsOnlyReached heap graph (Contains marked)

-- So a heap of which just the live cells stay, where they are, keeps nothing but what can be reached.
abbrev pub SweptKeepsNoOther : Type 0
SweptKeepsNoOther =
    (old new : Heap) (marked : List ℕ) (to : ℕ → Option ℕ) (graph : Graph) → Shows old graph → AreLive old marked
    → StayInPlace marked to → IsMoved old new to → KeepsNoOther new graph

-- A heap that keeps nothing else keeps nothing else when it is moved.
abbrev pub MovedKeepsNoOther : Type 0
MovedKeepsNoOther =
    (old new : Heap) (to : ℕ → Option ℕ) (graph : Graph) → KeepsNoOther old graph → IsMoved old new to
    → KeepsNoOther new graph

-- And it keeps exactly what can be reached, where of young cells only those are kept that are reached: none of them is
-- free.
abbrev pub TightIsExact : Type 0
TightIsExact = (heap : Heap) (graph : Graph) → KeepsNoOther heap graph → IsTight heap → Exact heap graph

-- what stands at the address came there, and was reached where it stood
pub record IsFromReached (old : Heap) (to : ℕ → Option ℕ) (at : ℕ) : Type 0 where
  pub was : ℕ
  pub reached : IsReached old was
  pub came : to was ≡ Some at

-- So it is with a moved heap, where each young cell came from one that was reached.
abbrev pub MovedIsExact : Type 0
MovedIsExact =
    (old new : Heap) (to : ℕ → Option ℕ) (graph : Graph) → KeepsNoOther old graph → IsMoved old new to
    → ((cell : Cell) (words : List ℕ) → HasCell new cell words → eden_start new.space ≤ cell.at
    → IsFromReached old to cell.at)
    → Exact new graph
