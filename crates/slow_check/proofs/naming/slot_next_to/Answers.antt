use Rattle.std.proofs.Common.{sym, ◌∙◌}
use Rattle.std.proofs.lemmas.Option.{same_Some}
use Rattle.heap_model.specs.Images.{image_heap}
use Rattle.heap_model.proofs.CellsApart.{has_is_cell}
use Rattle.image_walk.proofs.ObjectNaming.{slot_within, next_to_at, is_next_to}
use Rattle.slow_check.proofs.NamingSlots.{of_next_to}
use Rattle.image_walk.proofs.SpanWords.{words_count_few}
use Rattle.slow_check.proofs.naming.slot_next_to.Goals as goal

pub word_of-requires-clause-within : goal.word_of-requires-clause-within
word_of-requires-clause-within c =
    slot_within (image_heap c.args.image.now) c.args.object c.requires.stands c.requires.is

-- slot 1 refers to nothing
pub returns-in_default : goal.returns-in_default
returns-in_default c slot is =
    let at = next_to_at (image_heap c.args.image.now) c.args.object is.other c.word_of.result c.requires.sized
    (words_count_few c.args.image.now.regions c.sizes_fit.ensures) c.word_of.ensures is.next_to in
    absurd (c.in_default.not-Some is.other.at (c.address.ensures ∙ at))

-- no words read as a cell there
pub returns-in_default-cell_there : goal.returns-in_default-cell_there
returns-in_default-cell_there c slot is =
    let at = next_to_at (image_heap c.args.image.now) c.args.object is.other c.word_of.result c.requires.sized
    (words_count_few c.args.image.now.regions c.sizes_fit.ensures) c.word_of.ensures is.next_to in
    absurd (c.in_default-cell_there.ensures.cell is.other (same_Some _ _ (sym at ∙ sym c.in-Some.ensures))
    (has_is_cell is.next_to.stands))

-- the slots of that cell do not refer to the address
pub returns-in_default-slot_in : goal.returns-in_default-slot_in
returns-in_default-slot_in c slot is =
    let heap = image_heap c.args.image.now in
    let found = c.in-Some-cell_there.ensures.cell in
    let at = next_to_at heap c.args.object is.other c.word_of.result c.requires.sized
    (words_count_few c.args.image.now.regions c.sizes_fit.ensures) c.word_of.ensures is.next_to in
    c.in_default-slot_in.ensures slot
    (of_next_to heap c.args.object c.in-Some-cell_there.cell c.args.named slot c.in-Some.at found.1 found.0 is
    (same_Some _ _ (sym at ∙ sym c.in-Some.ensures)))

pub returns-in-Some-find_cell : goal.returns-in-Some-find_cell
returns-in-Some-find_cell c =
    let found = c.in-Some-cell_there.ensures.cell in
    let stands = c.in-Some-find_cell.ensures in
    record {
      other = c.in-Some-cell_there.cell;
      next_to = is_next_to (image_heap c.args.image.now) c.args.object c.in-Some-cell_there.cell
          c.in-Some-find_cell.field-0 c.word_of.result c.in-Some.at c.word_of.ensures (sym c.in-Some.ensures) found.1
          found.0 stands.1 stands.0;
      is = c.in-Some-slot_in.ensures;
    }

-- no cell of the heap stands there
pub returns-in-None : goal.returns-in-None
returns-in-None c slot is =
    let at = next_to_at (image_heap c.args.image.now) c.args.object is.other c.word_of.result c.requires.sized
    (words_count_few c.args.image.now.regions c.sizes_fit.ensures) c.word_of.ensures is.next_to in
    absurd (c.in-None.ensures is.other _ is.next_to.stands (same_Some _ _ (sym at ∙ sym c.in-Some.ensures)))
