-- An image keeps only what is reached, if the heap does.
use Rattle.std.proofs.Common.{◌≡◌, ℕ, List, slice_get, sym, ◌∙◌, subst, arith}
use Rattle.page_space.proofs.Starts.{layouts_start_is}
use Rattle.cell_layout.proofs.OneCell.{slots_lie_within}
use Rattle.handle_roots.specs.Roots.{root_at}
use Rattle.heap_model.specs.Heaps.{Heap}
use Rattle.heap_model.specs.Changes.{written}
use Rattle.heap_model.specs.Reaching.{IsReached, IsTight}
use Rattle.heap_model.specs.Remembered.{IsPageSlot}
use Rattle.heap_model.proofs.CellsApart.{has_is_cell}
use Rattle.collector.specs.ImageLaws.{ImagesAreTight}
use Rattle.collector.proofs.CopiedCells.{Copying, cell_word, cell_stays, cell_stood}
use Rattle.collector.proofs.ImagesShow.{image_is, copying}

-- the word in a slot of a page is the heap's
slot_word : {heap : Heap} {words : List ℕ} {at : ℕ} → Copying heap words → IsPageSlot heap at
    → slice_get words at ≡ slice_get heap.words at
slot_word {heap} {words} {at} copied of_page =
    let cell = of_page.cell in
    let slot = of_page.slot in
    let within =
    (slots_lie_within heap.space heap.words cell slot.offset (has_is_cell of_page.has) slot.visited).within in
    cell_word at copied of_page.has record {
      from = omega (arith, slot.stands);
      below = omega (arith, slot.stands, within);
    }

-- a slot of a page stays one
slot_stays : {heap : Heap} {words : List ℕ} {at : ℕ} → Copying heap words → IsPageSlot heap at
    → IsPageSlot (written heap words) at
slot_stays copied of_page = record {
  cell = of_page.cell;
  words = of_page.words;
  has = cell_stays copied of_page.has;
  of_page = of_page.of_page;
  slot = of_page.slot;
}

-- what is reached of the heap is reached of the image
reached_stays : {heap : Heap} {words : List ℕ} (at : ℕ) → Copying heap words → IsReached heap at
    → IsReached (written heap words) at
reached_stays {heap} _ copied (IsReached.by_variable variable at known holds) =
    let place : ℕ = root_at heap.space variable in
    let end = layouts_start_is heap.space in
    IsReached.by_variable variable at known
    (copied.are.roots place (omega arith) (omega (arith, end, known)) ∙ holds)
reached_stays _ copied (IsReached.by_page slot at of_page holds) =
    IsReached.by_page slot at (slot_stays copied of_page) (slot_word copied of_page ∙ holds)
reached_stays _ copied (IsReached.by_slot cell words offset at reached has slot refers) =
    IsReached.by_slot cell words offset at (reached_stays cell.at copied reached) (cell_stays copied has) slot refers

-- an image of a whole tight heap is tight
pub images_are_tight : ImagesAreTight
images_are_tight heap image whole tight is =
    let copied = copying whole is in
    subst IsTight (sym (image_is heap image is))
    (λ cell words has above. reached_stays cell.at copied (tight cell words (cell_stood copied has) above))
