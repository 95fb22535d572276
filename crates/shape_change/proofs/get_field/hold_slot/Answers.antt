-- A variable holds a field by its place: its slot is there, and holds a word of its representation.
use Rattle.std.proofs.Common.{◌≡◌, ℕ, Bool, ap, sym, ◌∙◌, subst, slice_get, nat_lt}
use Rattle.std.proofs.lemmas.Option.{same_Some}
use Rattle.heap_model.specs.Types.{PathField, Rep}
use Rattle.shape_tree.specs.Shapes.{shape_path}
use Rattle.heap_model.specs.Kinds.{HasWord}
use Rattle.heap_model.specs.Showing.{ShowsField}
use Rattle.write_barrier.specs.MutatorState.{heap_of}
use Rattle.object_cells.proofs.PlainFields.{field_slot_there, shape_there, cap_there, field_word_there}
use Rattle.shape_change.proofs.get_field.hold_slot.Goals as goal

pub slot_place-place-requires-clause-there : goal.slot_place-place-requires-clause-there
slot_place-place-requires-clause-there c = field_slot_there c.requires.whole c.requires.there

pub slot_place-place-requires-clause-cap : goal.slot_place-place-requires-clause-cap
slot_place-place-requires-clause-cap c =
    cap_there c.args.found.cap c.requires.whole c.requires.there c.requires.located.cap

pub hold_field-requires-clause-field : goal.hold_field-requires-clause-field
hold_field-requires-clause-field c =
    let found = c.args.found in
    let whole = c.requires.whole in
    let there = field_slot_there whole c.requires.there in
    let own : c.is_own.result ≡ nat_lt found.at (shape_path c.args.main.now.paths found.shape).cap =
    c.is_own.ensures ∙ c.slot_place-place.ensures.own ∙ ap (nat_lt found.at) c.requires.located.cap in
    let word : HasWord there.slots found.at c.word_of_place-word.result =
    sym (c.slot_place-place.ensures.stands there.cell there.words there.slots there.has there.stands there.are)
    ∙ c.word_of_place-word.ensures in
    field_word_there whole c.requires.there c.is_own.result (record { name = found.name; rep = found.rep })
    c.word_of_place-word.result own c.requires.located.field word

pub returns : goal.returns
returns c cell words slots field word value has stands are there slot shows =
    let found = c.args.found in
    let shape = shape_there c.requires.there has stands in
    let own : nat_lt found.at (shape_path c.args.main.now.paths cell.header.shape).cap ≡ c.is_own.result =
    ap (λ s. nat_lt found.at (shape_path c.args.main.now.paths s).cap) shape ∙ sym (
    c.is_own.ensures ∙ c.slot_place-place.ensures.own ∙ ap (nat_lt found.at) c.requires.located.cap) in
    let here : PathField = record { name = found.name; rep = found.rep } in
    let one : field ≡ here = same_Some field here
    (sym there ∙ ap (λ s. slice_get (shape_path c.args.main.now.paths s).fields found.at) shape
    ∙ c.requires.located.field) in
    let read : word ≡ c.word_of_place-word.result = same_Some word c.word_of_place-word.result
    (sym slot ∙ sym (c.slot_place-place.ensures.stands cell words slots has stands are)
    ∙ c.word_of_place-word.ensures) in
    let heap = heap_of c.args.main.now in
    let P : Bool → Type 0 = λ o. ShowsField heap o word field.rep value in
    let Q : ℕ → Type 0 = λ w. ShowsField heap c.is_own.result w field.rep value in
    let R : Rep → Type 0 = λ r. ShowsField heap c.is_own.result c.word_of_place-word.result r value in
    c.hold_field.ensures value (subst R (ap (λ (f : PathField). f.rep) one) (subst Q read (subst P own shows)))
