-- The length of a list is a word of its cell.
use Rattle.std.proofs.Common.{arith}
use Rattle.object_cells.proofs.ListCells.{sound_at, count_within, count_read}
use Rattle.object_cells.proofs.lists.count_of.Goals as goal

pub slot-requires : goal.slot-requires
slot-requires c = count_within c.requires.whole c.requires.there

pub overflow_cast-result : goal.overflow_cast-result
overflow_cast-result c =
    let sound = sound_at c.requires.whole c.requires.there in
    omega (arith, sound.few, count_read sound.count c.slot.result c.requires.there sound.counted c.slot.ensures.of_heap)

pub returns-clause-few : goal.returns-clause-few
returns-clause-few c =
    let sound = sound_at c.requires.whole c.requires.there in
    omega (arith, sound.few, count_read sound.count c.slot.result c.requires.there sound.counted c.slot.ensures.of_heap)
