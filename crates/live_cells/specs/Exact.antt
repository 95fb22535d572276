-- When a heap keeps exactly what can be reached, and when words fit into it.
use Rattle.std.specs.Prelude.{ℕ, ◌+◌, ◌*◌, ◌<◌, ◌≤◌, List, IsTrue}
use Rattle.tagged_word.specs.Cells.{is_free_kind, is_object_kind}
use Rattle.page_space.specs.Sizes.{page_words}
use Rattle.page_space.specs.Extents.{eden_start}
use Rattle.object_graph.specs.Graphs.{Graph}
use Rattle.object_graph.specs.Reach.{is_marked, reach}
use Rattle.heap_model.specs.Types.{Cell}
use Rattle.heap_model.specs.Heaps.{Heap, HasCell}
use Rattle.heap_model.specs.Slots.{IsPlace}
use Rattle.heap_model.specs.Wholeness.{IsOwnedKind, NamesFrom}
use Rattle.heap_model.specs.Showing.{Shows}

-- an object's cell names the store, the table or the box at the address
pub record IsNamedByObject (heap : Heap) (at : ℕ) : Type 0 where
  pub owner : Cell
  pub slot : ℕ
  pub names : NamesFrom heap owner slot at

-- The heap keeps nothing but what can be reached: it shows the graph; each object's cell carries the number of an
-- object that can be reached; and an object's cell names each store, table and box.
pub record KeepsNoOther (heap : Heap) (graph : Graph) : Type 0 where
  pub shows : Shows heap graph
  pub reached : (number at : ℕ) → IsPlace heap number at → IsTrue (is_marked (reach graph) number)
  pub named : (cell : Cell) (words : List ℕ) → HasCell heap cell words → IsOwnedKind cell.layout.kind
      → IsNamedByObject heap cell.at

-- The heap keeps exactly what can be reached: nothing else, and eden and the segments hold no free cell.
pub record Exact (heap : Heap) (graph : Graph) : Type 0 where
  pub keeps : KeepsNoOther heap graph
  pub packed : (cell : Cell) (words : List ℕ) → HasCell heap cell words → IsTrue (is_free_kind cell.layout.kind)
      → cell.at < eden_start heap.space

-- the word at the address is one of the cell's
pub record IsWordOf (cell : Cell) (at : ℕ) : Type 0 where
  pub from : cell.at ≤ at
  pub below : at < cell.at + cell.size

-- A cell that has the word at the address is no object's, and none that an object's cell names.
abbrev pub IsDeadWord : Heap → ℕ → Type 0
IsDeadWord heap at =
    (cell : Cell) (words : List ℕ) → HasCell heap cell words → IsWordOf cell at
    → (IsTrue (is_object_kind cell.layout.kind) → ⊥) × (IsNamedByObject heap cell.at → ⊥)

-- So many words fit: beside the survivors and the used words of eden into the young generation; or one behind another
-- into a page, from an address on, where they are dead.
pub data Fits (heap : Heap) (n : ℕ) : Type 0 where
  young : heap.survivors + heap.used + n ≤ heap.space.sizes.young → Fits heap n
  page : (page first : ℕ) → page < heap.space.sizes.pages → page_words * page ≤ first
      → first + n ≤ page_words * (page + 1) → ((at : ℕ) → first ≤ at → at < first + n → IsDeadWord heap at)
      → Fits heap n
