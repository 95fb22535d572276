-- Where cells stand between two commands, so that a scavenge may come, and that changes of objects keep it so.
use Rattle.std.specs.Prelude.{◌≡◌, ℕ, ◌+◌, ◌<◌, ◌≤◌, List, Contains, IsTrue}
use Rattle.tagged_word.specs.Cells.{is_free_kind}
use Rattle.page_space.specs.declared.region.Region.TheVariants.{Segment}
use Rattle.page_space.specs.Extents.{Space, Extent, ContainsAddress, eden_start}
use Rattle.heap_model.specs.Types.{Cell, Run}
use Rattle.heap_model.specs.Heaps.{Heap, HasCell, cell_extents}
use Rattle.heap_model.specs.Wholeness.{HasRows, Whole}
use Rattle.heap_model.specs.Changes.{AreFillers, CellsChange, IsOwnChange}

-- the address is in a segment of this half
pub record IsInHalf (space : Space) (half at : ℕ) : Type 0 where
  pub extent : Extent
  pub among : Contains (cell_extents space) extent
  pub worker : ℕ
  pub segment : extent.region ≡ Segment half worker
  pub holds : ContainsAddress extent at

-- No cell stands in this half, so a scavenge may copy to it.
pub record IsCollectable (heap : Heap) (half : ℕ) : Type 0 where
  pub empty : (cell : Cell) (words : List ℕ) → HasCell heap cell words → IsInHalf heap.space half cell.at → ⊥

-- the run is one free cell of a page
pub record IsFreeCell (heap : Heap) (run : Run) : Type 0 where
  pub cell : Cell
  pub words : List ℕ
  pub has : HasCell heap cell words
  pub stands : cell.at ≡ run.at
  pub size : cell.size ≡ run.words
  pub of_page : cell.at < eden_start heap.space
  pub free : IsTrue (is_free_kind cell.layout.kind)

-- each of these runs, in rows by pages, is one free cell
abbrev pub AreFreeRuns : Heap → List (List Run) → Type 0
AreFreeRuns heap rows = (row : List Run) (run : Run) → Contains rows row → Contains row run → IsFreeCell heap run

-- none of these cells has the first word of one of the free runs
abbrev pub CellsAvoidFree : List Cell → List (List Run) → Type 0
CellsAvoidFree cells rows =
    (row : List Run) (run : Run) (cell : Cell) → Contains rows row → Contains row run → Contains cells cell
    → cell.at ≤ run.at → run.at < cell.at + cell.size → ⊥

-- Free runs stay so where objects change inside their own cells, and no cell is made of them.
abbrev pub OwnChangesKeepFree : Type 0
OwnChangesKeepFree =
    (old new : Heap) (gone came made : List Cell) (rows : List (List Run)) → Whole old
    → CellsChange old new gone came made → IsOwnChange old new gone came made → CellsAvoidFree made rows
    → AreFreeRuns old rows → AreFreeRuns new rows

-- none of these cells has a word from an address up to another
abbrev pub AvoidRange : List Cell → ℕ → ℕ → Type 0
AvoidRange cells from to =
    (cell : Cell) (at : ℕ) → Contains cells cell → cell.at ≤ at → at < cell.at + cell.size → from ≤ at → at < to → ⊥

-- And so do the fillers of a range of a page, where no cell is made of them.
abbrev pub OwnChangesKeepFillers : Type 0
OwnChangesKeepFillers =
    (old new : Heap) (gone came made : List Cell) (from to : ℕ) → Whole old
    → CellsChange old new gone came made → IsOwnChange old new gone came made → AvoidRange made from to
    → AreFillers old from to → AreFillers new from to

-- A heap whose objects change inside their own cells stays so.
abbrev pub OwnChangesStayCollectable : Type 0
OwnChangesStayCollectable =
    (old new : Heap) (gone came made : List Cell) (half : ℕ) → Whole old → HasRows new
    → CellsChange old new gone came made → IsOwnChange old new gone came made → IsCollectable old half
    → IsCollectable new half
