-- The slots end by the kind of the cell.
use Rattle.std.proofs.Common.{arith}
use Rattle.tagged_word.specs.Cells.{tagged_offsets}
use Rattle.tagged_word.proofs.Layouts.{fits}
use Rattle.heap_model.proofs.CellsApart.{has_is_cell}
use Rattle.cell_layout.proofs.NextSlots.{all_below}
use Rattle.ephemeron_mark.proofs.CellSlots.{slot_within}
use Rattle.ephemeron_mark.proofs.SlotEnds.{plain_ends, other_ends}
use Rattle.ephemeron_mark.proofs.targets.mark_slots.Goals as goal

pub overflow_add-cell : goal.overflow_add-cell
overflow_add-cell c =
    omega (arith, (fits c.args.cell.now.layout (has_is_cell c.requires.stands.1).reads.is_layout).used)

pub mark_before-requires-clause-ends : goal.mark_before-requires-clause-ends
mark_before-requires-clause-ends c = plain_ends c.args.cell.now.layout c.args.cell.now.length c.in-Plain.is

pub mark_before-requires-in-Store-clause-ends : goal.mark_before-requires-in-Store-clause-ends
mark_before-requires-in-Store-clause-ends c =
    all_below (tagged_offsets c.args.cell.now.layout c.args.cell.now.length) c.args.cell.now.size
    (slot_within c.requires.stands.1)

pub mark_before-requires-in_default-clause-ends : goal.mark_before-requires-in_default-clause-ends
mark_before-requires-in_default-clause-ends c =
    other_ends c.args.cell.now.layout c.args.cell.now.length c.in_default.not-Plain c.in_default.not-Store
