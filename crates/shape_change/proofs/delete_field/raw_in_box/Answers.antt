-- The word behind the header of the box is read.
use Rattle.std.proofs.Common.{◌≡◌, sym, ◌∙◌}
use Rattle.std.proofs.lemmas.Option.{same_Some, none-some}
use Rattle.tagged_word.proofs.Readings.{reference_to}
use Rattle.heap_model.specs.Slots.{raw_word}
use Rattle.object_cells.proofs.CellsRead.{word_is}
use Rattle.object_cells.proofs.WordsTold.{cell_fits}
use Rattle.shape_change.proofs.delete_field.raw_in_box.Goals as goal

pub unreachable-requires : goal.unreachable-requires
unreachable-requires c =
    let refers = c.requires.boxed.1 in
    let fits = cell_fits c.requires.whole.sized c.addresses_fit.ensures.within refers.target.has in
    none-some refers.cell.at
    (sym c.in-None.is ∙ c.address.ensures ∙ reference_to c.args.word.0 refers.cell.at fits refers.target.refers)

pub returns : goal.returns
returns c v refers =
    let has = refers.target.has in
    let fits = cell_fits c.requires.whole.sized c.addresses_fit.ensures.within has in
    let at : refers.cell.at ≡ c.in-Some.at = same_Some refers.cell.at c.in-Some.at
    (sym (reference_to c.args.word.0 refers.cell.at fits refers.target.refers) ∙ sym c.address.ensures
    ∙ c.in-Some.is) in
    word_is 1 (raw_word v) c.slot.result c.in-Some.at has at refers.holds c.slot.ensures.of_heap
