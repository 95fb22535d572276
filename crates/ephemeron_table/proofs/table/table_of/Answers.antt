-- The table is read by the slot for it.
use Rattle.std.proofs.Common.{◌+◌, ◌<◌, sym, ◌∙◌, arith}
use Rattle.std.proofs.lemmas.Option.{same_Some}
use Rattle.page_space.specs.Extents.{marks_start}
use Rattle.cell_layout.proofs.OneCell.{cells_have_words}
use Rattle.heap_model.proofs.CellsApart.{has_is_cell}
use Rattle.write_barrier.specs.MutatorState.{heap_of}
use Rattle.object_cells.proofs.CellsRead.{cell_before_marks}
use Rattle.ephemeron_table.proofs.TablesRead.{weak_sound, weak_pairs, slot_within, read_table, table_is}
use Rattle.ephemeron_table.proofs.TablesRead.{table_is_none}
use Rattle.ephemeron_table.proofs.table.table_of.Goals as goal

pub slot-requires : goal.slot-requires
slot-requires c = slot_within c.requires.whole c.requires.there

-- the capacity of the table that was found is before the marks
capacity_within : (c : goal.In-Some) → c.in-Some.at + 1 < marks_start c.args.main.now.seat.space
capacity_within c =
    let sound = weak_sound c.requires.whole c.requires.there in
    let one = (read_table c.args.map c.slot.result c.in-Some.at sound.pairs (weak_pairs c.requires.there sound)
    c.slot.ensures.of_heap (sym c.address.ensures ∙ c.in-Some.is)).1 in
    omega (arith, cell_before_marks c.requires.whole.sized one.refers.has, one.size, one.stands)

pub slot-requires-in-Some : goal.slot-requires-in-Some
slot-requires-in-Some c = capacity_within c

pub overflow_cast-result : goal.overflow_cast-result
overflow_cast-result c =
    let sound = weak_sound c.requires.whole c.requires.there in
    let one = (read_table c.args.map c.slot.result c.in-Some.at sound.pairs (weak_pairs c.requires.there sound)
    c.slot.ensures.of_heap (sym c.address.ensures ∙ c.in-Some.is)).1 in
    let few = (cells_have_words c.args.main.now.seat.space (heap_of c.args.main.now).words one.cell
    (has_is_cell one.refers.has)).1 in
    omega (arith, few, one.size, same_Some _ _ (sym c.slot-in-Some.ensures.of_heap ∙ one.counted))

pub returns-in-Some : goal.returns-in-Some
returns-in-Some c =
    table_is c.args.map c.slot.result c.in-Some.at c.slot-in-Some.result c.requires.whole c.requires.there
    c.slot.ensures.of_heap (sym c.address.ensures ∙ c.in-Some.is) c.slot-in-Some.ensures.of_heap

pub returns-in-None : goal.returns-in-None
returns-in-None c =
    table_is_none c.args.map c.slot.result c.requires.whole c.addresses_fit.ensures.within c.requires.there
    c.slot.ensures.of_heap (sym c.address.ensures ∙ c.in-None.is)
