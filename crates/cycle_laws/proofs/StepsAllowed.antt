-- What a step asks of the mutator holds of a cell of a page, where the heap rests: the cell's words are claimed.
use Rattle.std.proofs.Common.{◌≡◌, ℕ, true, refl, sym, ◌∙◌, subst}
use Rattle.std.proofs.lemmas.Option.{same_Some}
use Rattle.cell_layout.specs.Cells.{reading_of}
use Rattle.mark_world.specs.Pages.{is_quiet}
use Rattle.mark_laws.specs.Types.{Reading}
use Rattle.heap_model.specs.Types.{Cell}
use Rattle.heap_model.specs.Heaps.{Heap}
use Rattle.heap_model.specs.Wholeness.{Whole}
use Rattle.mark_world.specs.Cycles.{Cycle}
use Rattle.cycle_state.specs.Claims.{Claims}
use Rattle.cycle_state.specs.Cycles.{world_in}
use Rattle.cycle_state.specs.Resting.{Rests}
use Rattle.cycle_state.proofs.Claimed.{page_cells_are_claimed, claims_allow_slots, claims_allow_owned}
use Rattle.cycle_state.proofs.Claimed.{claims_allow_headers, claims_allow_cells}
use Rattle.cycle_state.proofs.PageCells.{page_cells_are_read}
use Rattle.cycle_laws.specs.Steps.{IsPageWord, SlotsMayBeStored, QuietWordsMayBeStored, HeadersMayBeStored}
use Rattle.cycle_laws.specs.Steps.{MineMayBeginCells}

-- the words of the cell are claimed
claimed : {heap : Heap} {cycle : Cycle} {cell : Cell} {offset : ℕ} → Whole heap → Rests heap cycle
    → IsPageWord heap cell offset → Claims (world_in heap cycle) cell.at cell.size cell.layout.kind
claimed {heap} {cycle} {cell} whole rests there =
    page_cells_are_claimed heap cycle (world_in heap cycle) cell there.words whole rests (record { is = refl })
    there.has there.of_page

-- so a slot may be stored
pub slots_may_be_stored : SlotsMayBeStored
slots_may_be_stored heap cycle cell offset word whole rests there =
    claims_allow_slots (world_in heap cycle) cell.at cell.size cell.layout.kind offset word
    (claimed whole rests there) there.within

-- a quiet word
pub quiet_words_may_be_stored : QuietWordsMayBeStored
quiet_words_may_be_stored heap cycle cell offset whole rests there quiet =
    claims_allow_owned (world_in heap cycle) cell.at cell.size cell.layout.kind offset (claimed whole rests there)
    there.within (λ free other is.
    let same : reading_of cell ≡ other = same_Some (reading_of cell) other
    (sym (page_cells_are_read heap cell there.words there.has there.of_page) ∙ is) in
    subst (λ (one : Reading). is_quiet one offset ≡ true) same quiet)

-- a header
pub headers_may_be_stored : HeadersMayBeStored
headers_may_be_stored heap cycle cell word whole rests there =
    claims_allow_headers (world_in heap cycle) cell.at cell.size cell.layout.kind word (claimed whole rests there)
    there.within

-- and a new cell begun
pub mine_may_begin_cells : MineMayBeginCells
mine_may_begin_cells heap cycle cell offset whole rests there =
    claims_allow_cells (world_in heap cycle) cell.at cell.size cell.layout.kind offset (claimed whole rests there)
    there.within
