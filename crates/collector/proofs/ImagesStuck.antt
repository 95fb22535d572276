-- What is young is stuck in an image, if it is in the heap.
use Rattle.std.proofs.Common.{sym, subst}
use Rattle.heap_model.specs.Heaps.{Heap}
use Rattle.scavenger.specs.Laws.{IsStuck}
use Rattle.collector.specs.ImageLaws.{ImagesStayStuck}
use Rattle.collector.proofs.CopiedCells.{cell_stood}
use Rattle.collector.proofs.ImagesShow.{image_is, copying}

-- an image of a whole heap whose young cells are stuck is such a heap too
pub images_stay_stuck : ImagesStayStuck
images_stay_stuck heap image rows whole stuck is =
    let copied = copying whole is in
    subst (λ (one : Heap). IsStuck one rows) (sym (image_is heap image is))
    (λ cell words has above. stuck cell words (cell_stood copied has) above)
