-- What is reached from variables and from what stood in pages before is reached.
use Rattle.std.proofs.Common.{ℕ}
use Rattle.heap_model.specs.Heaps.{Heap}
use Rattle.heap_model.specs.Remembered.{IsPageSlot}
use Rattle.heap_model.specs.Reaching.{IsOldPageSlot, IsReached, IsReachedFrom}

-- a slot of a cell that stood in a page before is one of a page
slot_of_page : {old new : Heap} {at : ℕ} → IsOldPageSlot old new at → IsPageSlot new at
slot_of_page is = record { cell = is.cell; words = is.others; has = is.has; of_page = is.of_page; slot = is.slot }

-- so a way from there is one from a page
pub still_reached : {old new : Heap} (at : ℕ) → IsReachedFrom old new at → IsReached new at
still_reached _ (IsReachedFrom.by_variable variable at known holds) = IsReached.by_variable variable at known holds
still_reached _ (IsReachedFrom.by_page slot at of_page holds) = IsReached.by_page slot at (slot_of_page of_page) holds
still_reached _ (IsReachedFrom.by_slot cell words offset at reached has slot refers) =
    IsReached.by_slot cell words offset at (still_reached cell.at reached) has slot refers
