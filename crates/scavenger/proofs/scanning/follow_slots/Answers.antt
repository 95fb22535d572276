-- The slots of a copy end by its kind.
use Rattle.std.proofs.Common.{arith}
use Rattle.tagged_word.specs.Cells.{scavenge_offsets}
use Rattle.tagged_word.proofs.Layouts.{fits}
use Rattle.scavenger.proofs.LoopSlots.{offset_in_cell}
use Rattle.cell_layout.proofs.NextSlots.{all_below}
use Rattle.heap_walk.proofs.SlotEnds.{plain_ends, store_ends, store_words}
use Rattle.scavenger.proofs.scanning.follow_slots.Goals as goal

pub overflow_add-slots_end : goal.overflow_add-slots_end
overflow_add-slots_end c =
    omega (arith, (fits c.args.cell.now.layout c.requires.scanned.scanned.is.sized.is_layout).used)

pub follow_before-requires-clause-ends : goal.follow_before-requires-clause-ends
follow_before-requires-clause-ends c = plain_ends c.args.cell.now.layout c.args.cell.now.length c.in-Plain.is

pub overflow_cast-slots_end : goal.overflow_cast-slots_end
overflow_cast-slots_end c =
    omega (
      arith,
      store_words c.args.cell.now.layout c.args.cell.now.length c.args.cell.now.size c.in-Store.is
          c.requires.scanned.scanned.is.sized.sized,
    )

pub follow_before-requires-in-Store-clause-ends : goal.follow_before-requires-in-Store-clause-ends
follow_before-requires-in-Store-clause-ends c =
    store_ends c.args.cell.now.layout c.args.cell.now.length c.in-Store.is

pub follow_before-requires-in_default : goal.follow_before-requires-in_default
follow_before-requires-in_default c = record {
  scanned = c.requires.scanned;
  room = c.requires.room;
  ends = all_below (scavenge_offsets c.args.cell.now.layout c.args.cell.now.length) c.args.cell.now.size
      (offset_in_cell c.requires.scanned.scanned);
}
