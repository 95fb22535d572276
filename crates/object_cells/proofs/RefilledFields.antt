-- Words of a plain object's own cells were written in a whole heap, and its fields become others: its words come from
-- where they may, and its cell shows its new fields.
use Rattle.std.proofs.Common.{◌≡◌, ℕ, true, List, Option, Some, None, slice_get, nat_lt, refl, sym, ◌∙◌, ap, subst}
use Rattle.std.proofs.lemmas.Option.{same_Some}
use Rattle.tagged_word.specs.Cells.{proto_slot}
use Rattle.object_graph.specs.declared.value.Rep.TheVariants as rep
use Rattle.heap_model.specs.Types.{Field, Path, Cell}
use Rattle.heap_model.specs.Heaps.{Heap, words_of_cell}
use Rattle.heap_model.specs.Kinds.{HasWord, IsProtoWord, IsPlainCell}
use Rattle.heap_model.specs.Wholeness.{Whole}
use Rattle.heap_model.specs.Showing.{ShowsField, ShowsPlain, ShowsProto}
use Rattle.heap_model.proofs.WordsStay.{shown_field, refers_to_place_stays}
use Rattle.heap_model.proofs.SlotWords.{proto_names_nothing}
use Rattle.object_cells.specs.CellWrites.{reshaped}
use Rattle.object_cells.specs.SlotChanges.{WritesFields, IsTaggedSlot, HasTagged, ShowsSlot, RefillsSlots}
use Rattle.heap_model.proofs.OneBeside.{one_slots}
use Rattle.object_cells.proofs.PlainFields.{plain_sound}
use Rattle.object_cells.proofs.FieldWords.{path_field, field_is_tagged}
use Rattle.object_cells.proofs.NumberedSlots.{IsNumbered, ProtoNamesNone, slot_kind, slot_of_number, has_numbers}
use Rattle.object_cells.proofs.OwnerWrites.{plain_owns}
use Rattle.object_cells.proofs.OwnSteps.{OwnStep, own_step, stands, own_places_stay, own_proto_stays, own_box_stays}
use Rattle.object_cells.proofs.OwnNames.{Renames, refills_rename}

module _ {old new : Heap} {cell : Cell} {shape : ℕ} {others made : List Cell} {before after : List Field}
    (whole : Whole old) (shown : ShowsPlain old cell (words_of_cell old cell) cell.layout.cap before)
    (writes : WritesFields old new cell shape others made)
    (slots : RefillsSlots old new cell shape others made before after) where
  -- what the object's cell becomes
  abbrev came : Cell
  came = reshaped new.paths cell shape

  -- the cells of the object change, and no others
  pub fields_step : OwnStep old new cell came others others made
  fields_step = own_step plain_owns whole writes

  -- the object's cell was sound
  abbrev was_sound : IsPlainCell old cell (words_of_cell old cell)
  was_sound = plain_sound whole writes.stood writes.of_kind

  -- its prototype stands in its slot then, and is one still
  pub proto_stands : HasWord (words_of_cell new came) proto_slot was_sound.proto
  proto_stands = slots.proto ∙ was_sound.proto_has

  pub proto_is : IsProtoWord new was_sound.proto
  proto_is = own_proto_stays fields_step was_sound.proto was_sound.proto_is

  -- so this slot names nothing
  proto_names_none : ProtoNamesNone new (words_of_cell new came)
  proto_names_none word there named words refers owned =
      let same : was_sound.proto ≡ word = same_Some was_sound.proto word (sym proto_stands ∙ there) in
      proto_names_nothing word (subst (IsProtoWord new) same proto_is) refers owned

  -- each word comes from where it may
  pub fields_rename : Renames old new cell came others others made (HasTagged cell slots.slots)
      (IsNumbered old cell (words_of_cell old cell)) (HasTagged came slots.now)
      (IsNumbered new came (words_of_cell new came))
  fields_rename =
      refills_rename plain_owns whole writes slots.refills (has_numbers whole.rows writes.stood fields_step.object
      (λ k word there. slot_of_number k word writes.stood writes.of_kind slots.were there.0 there.1)
      (λ at word slot names. slot_kind (stands fields_step) refl slots.are proto_names_none slot names))

  -- a field that stood before and is not raw stood in a tagged slot
  was_tagged : (origin : ℕ) (was : Field) → slice_get before origin ≡ Some was
      → (nat_lt origin cell.layout.cap ≡ true → was.rep ≡ rep.Wide → ⊥) → IsTaggedSlot cell origin
  was_tagged origin was there not_raw =
      let among = path_field cell.layout.cap before origin was there in
      field_is_tagged origin (record { name = was.name; rep = was.rep }) whole.sized writes.stood writes.of_kind
      was_sound.shape (ap (λ (path : Path). slice_get path.fields origin) shown.path ∙ among) not_raw

  -- each slot shows its field
  pub field_shown : (slot word : ℕ) (field : Field) → slice_get after slot ≡ Some field → HasWord slots.now slot word
      → ShowsField new (nat_lt slot cell.layout.cap) word field.rep field.value
  field_shown slot word field there stands_now = elim (slots.each_field slot word field there stands_now) [
    | ShowsSlot.fresh shows ↦ shows
    | ShowsSlot.kept was stood same_rep same_value held same_place no_box ↦
        let origin : ℕ = slots.refills.origin slot in
        let own = nat_lt origin cell.layout.cap in
        let showed = shown.each origin was word stood
        (ap (λ all. slice_get all origin) (sym (one_slots slots.were shown.has)) ∙ held) in
        let shows : ShowsField new own word was.rep was.value =
        shown_field own word was.rep was.value (own_places_stay fields_step)
        (λ not_raw. own_box_stays fields_step word (no_box (was_tagged origin was stood not_raw))) showed in
        subst (λ b. ShowsField new b word field.rep field.value) (sym same_place)
        (subst (λ one. ShowsField new own word one field.value) same_rep
        (subst (λ value. ShowsField new own word was.rep value) same_value shows))
  ]

  -- so the object's cell shows its fields
  pub cell_shows : ShowsPlain new came (words_of_cell new came) cell.layout.cap after
  cell_shows = record {
    of_kind = refl;
    path = slots.path;
    slots = slots.now;
    has = slots.are;
    each = λ slot field word there stands_now. field_shown slot word field there stands_now;
  }

  -- and its prototype, if it showed that
  pub proto_shown : (proto : Option ℕ) → ShowsProto old (words_of_cell old cell) proto
      → ShowsProto new (words_of_cell new came) proto
  proto_shown None shows = slots.proto ∙ shows
  proto_shown (Some number) (word, there, refers) =
      (word, slots.proto ∙ there, refers_to_place_stays (own_places_stay fields_step) refers)
