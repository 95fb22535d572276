-- Whether the cell at the address of a run is that run.
use Rattle.std.proofs.Common.{◌≡◌, ◌<◌, IsTrue, sym, ◌∙◌, subst}
use Rattle.tagged_word.specs.Cells.{is_free_kind}
use Rattle.page_space.specs.Extents.{eden_start, is_page_region, IsInOne}
use Rattle.page_space.proofs.CellAddresses.{pages_are}
use Rattle.heap_model.specs.Types.{Cell, Run}
use Rattle.heap_model.specs.Heaps.{Heap, words_of_cell}
use Rattle.heap_model.specs.Collectable.{IsFreeCell}
use Rattle.heap_model.proofs.CellsApart.{one_at}
use Rattle.image_walk.specs.Spans.{StandsIn}

-- the free cell of a run is the one at its address
pub free_is_here : (heap : Heap) (run : Run) (cell : Cell) → StandsIn heap cell → cell.at ≡ run.at
    → (free : IsFreeCell heap run) → free.cell ≡ cell
free_is_here heap run cell stands here free = one_at free.has stands (free.stands ∙ sym here)

-- a free cell of a page at the address of a run, of as many words, is its
pub free_here : (heap : Heap) (run : Run) (cell : Cell) → StandsIn heap cell → cell.at ≡ run.at
    → cell.size ≡ run.words → IsTrue (is_free_kind cell.layout.kind) → IsInOne heap.space is_page_region run.at
    → IsFreeCell heap run
free_here heap run cell stands here size free page = record {
  cell = cell;
  words = words_of_cell heap cell;
  has = stands;
  stands = here;
  size = size;
  of_page = subst (λ n. n < eden_start heap.space) (sym here) ((pages_are heap.space run.at).1 page);
  free = free;
}

-- and the address of a run that is a free cell is of a page
pub run_of_page : (heap : Heap) (run : Run) → IsFreeCell heap run → IsInOne heap.space is_page_region run.at
run_of_page heap run free =
    (pages_are heap.space run.at).0 (subst (λ n. n < eden_start heap.space) free.stands free.of_page)
