-- A variable holds the value of a field that is no wide one, by the place of its slot.
use Rattle.std.proofs.Common.{◌≡◌, ap, sym, ◌∙◌, slice_get}
use Rattle.std.proofs.lemmas.Option.{same_Some}
use Rattle.heap_model.specs.Types.{PathField}
use Rattle.shape_tree.specs.Shapes.{shape_path}
use Rattle.write_barrier.specs.MutatorState.{heap_of}
use Rattle.write_barrier.specs.Values.{held_of_class}
use Rattle.object_cells.proofs.PlainFields.{shape_there}
use Rattle.object_cells.proofs.WordsTold.{slot_within}
use Rattle.shape_change.proofs.HeldFields.{slot_class, field_by_class}
use Rattle.shape_change.proofs.WordFields.{slot_word}
use Rattle.shape_change.proofs.get_field.hold_word_at.Goals as goal

pub word_of_place-word-requires-clause-within : goal.word_of_place-word-requires-clause-within
word_of_place-word-requires-clause-within c =
    let (found, is) = c.requires.stands in
    is.within

pub hold_tagged-requires-clause-class : goal.hold_tagged-requires-clause-class
hold_tagged-requires-clause-class c =
    let (found, is) = c.requires.stands in
    let word = c.word_of_place-word.result in
    let by = slot_class {heap = heap_of c.args.main.now} word c.addresses_fit.ensures.within
    c.requires.whole.sized (slot_word word c.requires.whole is c.word_of_place-word.ensures) in
    (by.class, by.is_class, by.bits)

pub hold_tagged-requires-clause-within : goal.hold_tagged-requires-clause-within
hold_tagged-requires-clause-within c at refers =
    let (found, is) = c.requires.stands in
    let word = c.word_of_place-word.result in
    slot_within word at (slot_word word c.requires.whole is c.word_of_place-word.ensures) refers

pub returns : goal.returns
returns c found is cell words slots field word value has stands are there slot shows =
    let shape = shape_there is.there has stands in
    let here : PathField = record { name = found.name; rep = found.rep } in
    let one : field ≡ here = same_Some field here
    (sym there ∙ ap (λ s. slice_get (shape_path c.args.main.now.paths s).fields found.at) shape ∙ is.located.field) in
    let read : c.word_of_place-word.result ≡ word = same_Some c.word_of_place-word.result word
    (sym c.word_of_place-word.ensures ∙ is.stands cell words slots has stands are ∙ slot) in
    let by = field_by_class c.addresses_fit.ensures.within c.requires.whole.sized
    (λ raw wide. is.not_wide (sym (ap (λ (f : PathField). f.rep) one) ∙ wide)) shows in
    let bits = read ∙ by.bits in
    record {
      held = held_of_class (heap_of c.args.main.now) by.class;
      shows = by.shows;
      fits = c.hold_tagged.ensures.fits by.class by.is_class bits;
      is = c.hold_tagged.ensures.held by.class by.is_class bits;
      heap = c.hold_tagged.ensures.heap by.class by.is_class bits;
    }
