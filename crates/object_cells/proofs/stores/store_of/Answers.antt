-- The store is read by the slot for it.
use Rattle.std.proofs.Common.{◌+◌, ◌<◌, sym, ◌∙◌, arith}
use Rattle.std.proofs.lemmas.Option.{same_Some, slice_get_within}
use Rattle.page_space.specs.Extents.{marks_start}
use Rattle.cell_layout.proofs.OneCell.{cells_have_words}
use Rattle.heap_model.proofs.CellsApart.{has_is_cell}
use Rattle.heap_model.proofs.CellWords.{words_are_size}
use Rattle.write_barrier.specs.MutatorState.{heap_of}
use Rattle.object_cells.proofs.CellsRead.{cell_before_marks}
use Rattle.object_cells.proofs.StoresRead.{read_store, store_is, store_is_none}
use Rattle.object_cells.proofs.stores.store_of.Goals as goal

pub slot-requires : goal.slot-requires
slot-requires c =
    let there = c.requires.there in
    omega (
      arith,
      slice_get_within there.words 1 there.word there.slot,
      words_are_size there.has,
      cell_before_marks c.requires.whole.sized there.has,
      there.stands,
    )

-- the length of the store that was found is before the marks
length_within : (c : goal.In-Some) → c.in-Some.at + 1 < marks_start c.args.main.now.seat.space
length_within c =
    let one = (read_store c.args.object c.slot.result c.in-Some.at c.requires.there c.slot.ensures.of_heap
    (sym c.address.ensures ∙ c.in-Some.is)).found in
    omega (arith, cell_before_marks c.requires.whole.sized one.refers.has, one.size, one.stands)

pub slot-requires-in-Some : goal.slot-requires-in-Some
slot-requires-in-Some c = length_within c

pub overflow_cast-result : goal.overflow_cast-result
overflow_cast-result c =
    let one = (read_store c.args.object c.slot.result c.in-Some.at c.requires.there c.slot.ensures.of_heap
    (sym c.address.ensures ∙ c.in-Some.is)).found in
    let few = (cells_have_words c.args.main.now.seat.space (heap_of c.args.main.now).words one.cell
    (has_is_cell one.refers.has)).1 in
    omega (arith, few, one.size, same_Some _ _ (sym c.slot-in-Some.ensures.of_heap ∙ one.counted))

pub returns-in-Some : goal.returns-in-Some
returns-in-Some c =
    store_is c.args.object c.slot.result c.in-Some.at c.slot-in-Some.result c.requires.whole c.requires.there
    c.slot.ensures.of_heap (sym c.address.ensures ∙ c.in-Some.is) c.slot-in-Some.ensures.of_heap

pub returns-in-None : goal.returns-in-None
returns-in-None c =
    store_is_none c.args.object c.slot.result c.requires.whole c.addresses_fit.ensures.within c.requires.there
    c.slot.ensures.of_heap (sym c.address.ensures ∙ c.in-None.is)
