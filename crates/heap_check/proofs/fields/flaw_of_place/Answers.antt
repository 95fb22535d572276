use Rattle.std.proofs.Common.{◌≤◌, ◌<◌, length, nat_lt, refl, sym, ◌∙◌, ap, arith}
use Rattle.std.proofs.lemmas.Bool.{false≢true}
use Rattle.shape_tree.specs.Shapes.{shape_path}
use Rattle.heap_model.specs.Images.{image_heap}
use Rattle.heap_model.specs.Types.{Path}
use Rattle.heap_check.specs.PathSlots.{FitsSlot}
use Rattle.image_walk.proofs.SlotKinds.{field_from, field_to}
use Rattle.heap_check.specs.Cells.{asked_at}
use Rattle.heap_check.specs.declared.flaw.Flaw.{Flaw}
use Rattle.heap_check.proofs.JoinedFinds.{first_of_word}
use Rattle.heap_check.proofs.FieldSlots.{asked_behind, asked_within, field_fits, fits_field}
use Rattle.heap_check.proofs.fields.flaw_of_place.Goals as goal

pub returns-then-place-fields : goal.returns-then-place-fields
returns-then-place-fields c =
    let heap = image_heap c.args.image.now in
    let path : Path = shape_path heap.paths c.args.shape in
    let past : length path.fields ≤ c.args.place = omega (arith, c.fields.ensures.counted, c.if-place-fields.true) in
    first_of_word c.args.at c.args.found (FitsSlot heap path c.args.place) (asked_at path c.args.place)
    (record { at = c.args.at; found = c.args.found; wanted = c.odd.result.0 })
    (λ fits. false≢true (sym c.if-is_hole.false ∙ c.is_hole.ensures.1 (fits.rest past))) refl refl
    (c.odd.ensures ∙ asked_behind path c.args.place c.args.found past)

pub returns-then-is_field : goal.returns-then-is_field
returns-then-is_field c =
    let heap = image_heap c.args.image.now in
    let path : Path = shape_path heap.paths c.args.shape in
    field_fits heap path c.args.place c.args.found (nat_lt c.args.place c.cap.result) c.field-field.result
    c.field-field.ensures (ap (nat_lt c.args.place) c.cap.ensures.cap)
    (field_from heap (nat_lt c.args.place c.cap.result) c.field-field.result.rep c.args.found c.referent.result
    c.referent.ensures (sym c.is_field.ensures ∙ c.if-is_field.true))

pub returns : goal.returns
returns c =
    let heap = image_heap c.args.image.now in
    let path : Path = shape_path heap.paths c.args.shape in
    let own = nat_lt c.args.place c.cap.result in
    let within : c.args.place < length path.fields = omega (arith, c.fields.ensures.counted, c.if-place-fields.false) in
    first_of_word c.args.at c.args.found (FitsSlot heap path c.args.place) (asked_at path c.args.place)
    c.slot_flaw.result
    (λ fits. false≢true (sym c.if-is_field.false ∙ c.is_field.ensures
    ∙ field_to heap own c.field-field.result.rep c.args.found c.referent.result c.referent.ensures
    (fits_field heap path c.args.place c.args.found own c.field-field.result c.field-field.ensures
    (ap (nat_lt c.args.place) c.cap.ensures.cap) fits)))
    (ap (λ (f : Flaw). f.at) c.slot_flaw.ensures) (ap (λ (f : Flaw). f.found) c.slot_flaw.ensures)
    (ap (λ (f : Flaw). f.wanted) c.slot_flaw.ensures ∙ asked_within path c.args.place c.args.found within)
