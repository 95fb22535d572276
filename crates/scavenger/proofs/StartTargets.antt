-- What a slot refers to is a cell that is not free.
use Rattle.std.proofs.Common.{◌≡◌, ℕ, ◌+◌, ◌<◌, List, Some, Contains}
use Rattle.std.proofs.Common.{refl, sym, ◌∙◌, ap, subst}
use Rattle.std.specs.Prelude.{slice_index}
use Rattle.std.proofs.lemmas.Option.{get_or_from_slice_get}
use Rattle.tagged_word.specs.Readings.{reference_in}
use Rattle.tagged_word.specs.Cells.{scavenge_offsets}
use Rattle.tagged_word.proofs.Readings.{reference_from}
use Rattle.cell_layout.proofs.OneCell.{slots_lie_within}
use Rattle.handle_roots.specs.Roots.{root_at, first_word}
use Rattle.heap_model.specs.Types.{Cell}
use Rattle.heap_model.specs.Heaps.{Heap, HasCell}
use Rattle.heap_model.specs.Wholeness.{Whole}
use Rattle.heap_model.specs.Remembered.{IsPageSlot}
use Rattle.heap_model.proofs.CellsApart.{has_is_cell}
use Rattle.heap_model.proofs.CellWords.{word_there}
use Rattle.scav_copy.specs.Renamings.{RefersToAddress}
use Rattle.heap_walk.proofs.SlotTargets.{IsUsedAt, kind_to_cell, word_reads, held_target}

-- what a slot of a cell refers to is a cell
pub cell_targets : {heap : Heap} {cell : Cell} {words : List ℕ} (offset at : ℕ) → Whole heap → HasCell heap cell words
    → Contains (scavenge_offsets cell.layout cell.length) offset
    → RefersToAddress heap.words (cell.at + offset) at → IsUsedAt heap at
cell_targets {heap} {cell} {words} offset at whole has there refers =
    let within = (slots_lie_within heap.space heap.words cell offset (has_is_cell has) there).within in
    let slot = word_there offset has within in
    let reads : reference_in slot.0 ≡ Some at = ap reference_in (sym (word_reads offset slot.0 has slot.1)) ∙ refers in
    kind_to_cell cell.layout.kind offset slot.0 at whole.sized has refl (whole.sound cell words has) there slot.1
    (reference_from slot.0 at reads).1

-- what a slot of a cell of a page refers to is one
pub recorded_targets : {heap : Heap} {place : ℕ} (at : ℕ) → Whole heap → IsPageSlot heap place
    → RefersToAddress heap.words place at → IsUsedAt heap at
recorded_targets {heap} at whole slot refers =
    cell_targets slot.slot.offset at whole slot.has slot.slot.visited
    (subst (λ (one : ℕ). RefersToAddress heap.words one at) (sym slot.slot.stands) refers)

-- what a root word refers to is a cell
pub root_targets : {heap : Heap} (variable at : ℕ) → Whole heap → variable < heap.space.variables
    → RefersToAddress heap.words (root_at heap.space variable) at → IsUsedAt heap at
root_targets {heap} variable at whole known refers =
    let root = whole.roots variable known in
    let reads : slice_index heap.words (root_at heap.space variable) ≡ first_word root.held =
    get_or_from_slice_get heap.words (root_at heap.space variable) (first_word root.held) 0 root.holds.first in
    let is = reference_from (first_word root.held) at (ap reference_in (sym reads) ∙ refers) in
    held_target heap root.held at root.is is.1
