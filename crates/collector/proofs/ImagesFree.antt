-- The free runs of a heap are those of an image.
use Rattle.std.proofs.Common.{ℕ, List, sym, subst}
use Rattle.heap_model.specs.Types.{Run}
use Rattle.heap_model.specs.Heaps.{Heap}
use Rattle.heap_model.specs.Changes.{written}
use Rattle.heap_model.specs.Collectable.{IsFreeCell, AreFreeRuns}
use Rattle.collector.specs.ImageLaws.{ImagesKeepFree}
use Rattle.collector.proofs.CopiedCells.{Copying, cell_stays}
use Rattle.collector.proofs.ImagesShow.{image_is, copying}

-- a run that is one free cell is one of the image
free_stays : {heap : Heap} {words : List ℕ} {run : Run} → Copying heap words → IsFreeCell heap run
    → IsFreeCell (written heap words) run
free_stays copied is = record {
  cell = is.cell;
  words = is.words;
  has = cell_stays copied is.has;
  stands = is.stands;
  size = is.size;
  of_page = is.of_page;
  free = is.free;
}

-- so free runs of a whole heap are free runs of an image
pub images_keep_free : ImagesKeepFree
images_keep_free heap image rows whole free is =
    let copied = copying whole is in
    subst (λ (one : Heap). AreFreeRuns one rows) (sym (image_is heap image is))
    (λ row run among there. free_stays copied (free row run among there))
