-- Where a field was taken out of a plain object, what is recorded follows its cells: the slots from that of the field
-- to the last are touched as the fields say that stand there now, and no others.
use Rattle.std.proofs.Common.{◌≡◌, ℕ, suc, ◌+◌, ◌-◌, ◌<◌, ◌≤◌, inl, inr, true, List, [], ◌∷◌, Some, None, length}
use Rattle.std.proofs.Common.{slice_get, refl, sym, ◌∙◌, ap, subst, arith}
use Rattle.std.specs.Prelude.{Option}
use Rattle.std.proofs.lemmas.Bool.{cases_lt, cases_eq, lt-ltb, le-ltb}
use Rattle.std.proofs.lemmas.Option.{slice_get_past}
use Rattle.tagged_word.specs.declared.layout.Kind.TheVariants as kind
use Rattle.tagged_word.specs.Cells.{plain_head, store_head}
use Rattle.page_space.specs.Extents.{eden_start}
use Rattle.page_space.proofs.Starts.{roots_start_is, layouts_start_is}
use Rattle.shape_tree.specs.Shapes.{shape_path, without}
use Rattle.heap_model.specs.Remembered.{Touch}
use Rattle.heap_model.specs.Types.{Field, Path, PathField, Cell}
use Rattle.heap_model.proofs.CellWords.{words_by_kind, words_are_size}
use Rattle.write_barrier.specs.MutatorState.{Mutator, heap_of}
use Rattle.object_cells.specs.SureCells.{RemembersSurely}
use Rattle.object_cells.proofs.OwnerWrites.{becomes_cap}
use Rattle.object_cells.proofs.PathOffsets.{AreAlike}
use Rattle.object_cells.proofs.PlainFields.{plain_sound}
use Rattle.object_cells.proofs.StoreCells.{store_at, store_cell_there, is_store_cell, slots_counted}
use Rattle.object_cells.proofs.TouchedCells.{FitsTouch, kept_fits}
use Rattle.object_cells.proofs.TouchedFields.{beside_fits, TouchesObject}
use Rattle.object_cells.proofs.TouchedFields.{Refields, refields, header_fits, own_emptied}
use Rattle.shape_change.specs.Shifts.{field_touch}
use Rattle.shape_change.proofs.SlotAddresses.{slot_at-own, slot_at-beside}
use Rattle.shape_change.proofs.SlotTouches.{found_or_not, field_is_touched, none_from}
use Rattle.shape_change.proofs.FieldsLess.{less_before}
use Rattle.shape_change.proofs.TakenOut.{without_counted}
use Rattle.shape_change.proofs.DeletedSlots.{Deleting, cap_is, count_is, room_is, address, address_is}
use Rattle.shape_change.proofs.DeletedCells.{others_of, deleted_writes, one_of}
use Rattle.shape_change.proofs.TouchedSlots.{field_fits}
use Rattle.shape_change.proofs.RunTouches.{touches_alone, fields_with_remembered}

module _ {old new : Mutator} {cell : Cell} {slot : ℕ} {fields : List Field}
    (deleting : Deleting old new cell slot fields) where
  -- the cells that went
  abbrev gone : List Cell
  gone = cell ∷ others_of deleting

  -- and those that came
  abbrev came : List Cell
  came = one_of deleting ∷ others_of deleting

  -- the path of the object before
  abbrev path_before : Path
  path_before = shape_path old.paths cell.header.shape

  -- and after
  abbrev path_after : Path
  path_after = shape_path new.paths deleting.taken.next

  -- the address of an in-object slot
  abbrev own_place : ℕ → ℕ
  own_place one = cell.at + (plain_head + one)

  -- the path before has as many in-object slots as the cell
  caps_before : path_before.cap ≡ cell.layout.cap
  caps_before = ap (λ (p : Path). p.cap) deleting.shows.path

  -- its fields are those before without the one
  fields_after : path_after ≡ without path_before slot
  fields_after = deleting.taken.leads.shape_is.of_path

  -- it has as many as there are before the last
  counted_after : length path_after.fields ≡ deleting.taken.last
  counted_after =
      let counted = deleting.taken.counted in
      omega (
        arith,
        ap (λ (p : Path). length p.fields) fields_after,
        without_counted path_before slot (omega (arith, deleting.there, count_is deleting, counted)),
        counted,
      )

  -- the fields of the object become others
  fields_change : Refields (heap_of old) (heap_of new) cell deleting.taken.next (others_of deleting) [] path_before
      path_after
  fields_change =
      refields deleting.whole deleting.has (plain_sound deleting.whole deleting.has deleting.shows.of_kind).shape refl
      refl (caps_before ∙ sym (becomes_cap (deleted_writes deleting).becomes)) (deleted_writes deleting)

  -- an in-object slot fits that was touched as the field says which stands there now, or as none says
  own_fits : (one : ℕ) (found : Option PathField) → one < path_before.cap → slice_get path_after.fields one ≡ found
      → FitsTouch gone came (own_place one) (field_touch true found)
  own_fits one None own is = own_emptied fields_change one own (none_from path_after.fields one is)
  own_fits one (Some field) own is = field_fits fields_change one field own is

  -- and a slot of the store
  store_fits : (one : ℕ) → cell.layout.cap ≤ one → one ≤ deleting.taken.last
      → FitsTouch gone came (store_at deleting.shows.has.stands + (store_head + (one - cell.layout.cap))) Touch.Stored
  store_fits one behind high =
      let are = deleting.shows.has in
      let counted = slots_counted deleting.has deleting.shows.of_kind are in
      let room = room_is deleting in
      let there = store_cell_there are.stands (omega (arith, counted, room, behind, high)) in
      let is = is_store_cell are.stands there.0 there.1 in
      let long = words_by_kind kind.Store is.refers.has is.of_kind in
      beside_fits fields_change there.0 there.1 is.of_kind (record {
        from = omega (arith, is.at);
        below = omega (arith, is.at, is.size, long, words_are_size is.refers.has, counted, room, behind, high);
      })

  -- an in-object slot that moved was touched as the field says which stands there now
  own_how : (one : ℕ) → slot ≤ one → one ≤ deleting.taken.last → one < cell.layout.cap
      → deleting.taken.touch (own_place one) ≡ field_touch true (slice_get path_after.fields one)
  own_how one low high own =
      let taken = deleting.taken in
      let at = slot_at-own cell.at cell.layout.cap (store_at deleting.shows.has.stands) one own in
      ap taken.touch (sym at ∙ sym (address_is deleting one high)) ∙ taken.slot_touches one low high
      ∙ ap (λ test. field_touch test (slice_get path_after.fields one))
      (lt-ltb one taken.cap (omega (arith, cap_is deleting, own)))

  -- and one of the store as a slot
  beside_how : (one : ℕ) → slot ≤ one → one ≤ deleting.taken.last → cell.layout.cap ≤ one
      → deleting.taken.touch (store_at deleting.shows.has.stands + (store_head + (one - cell.layout.cap)))
      ≡ Touch.Stored
  beside_how one low high behind =
      let taken = deleting.taken in
      let at = slot_at-beside cell.at cell.layout.cap (store_at deleting.shows.has.stands) one behind in
      ap taken.touch (sym at ∙ sym (address_is deleting one high)) ∙ taken.slot_touches one low high
      ∙ ap (λ test. field_touch test (slice_get path_after.fields one))
      (le-ltb one taken.cap (omega (arith, cap_is deleting, behind)))

  -- an address fits its touch where it is the place of one that fits
  fits_as : {at place : ℕ} {how : Touch} → place ≡ at → deleting.taken.touch place ≡ how
      → FitsTouch gone came place how → FitsTouch gone came at (deleting.taken.touch at)
  fits_as {place = place} same is fits =
      subst (λ n. FitsTouch gone came n (deleting.taken.touch n)) same (subst (FitsTouch gone came place) (sym is) fits)

  -- so each slot that moved fits
  moved_fits : (one : ℕ) → slot ≤ one → one ≤ deleting.taken.last
      → FitsTouch gone came (address deleting one) (deleting.taken.touch (address deleting one))
  moved_fits one low high =
      let store : ℕ = store_at deleting.shows.has.stands in
      elim (cases_lt one cell.layout.cap) [
        | inl own ↦
            fits_as (sym (slot_at-own cell.at cell.layout.cap store one own)) (own_how one low high own)
            (own_fits one (slice_get path_after.fields one) (omega (arith, own, caps_before)) refl)
        | inr behind ↦
            fits_as (sym (slot_at-beside cell.at cell.layout.cap store one behind)) (beside_how one low high behind)
            (store_fits one behind high)
      ]

  -- and each address
  each_fits : (at : ℕ) → FitsTouch gone came at (deleting.taken.touch at)
  each_fits at =
      let taken = deleting.taken in
      let many : ℕ = suc taken.last - slot in
      let within : slot ≤ taken.last = omega (arith, deleting.there, count_is deleting) in
      elim (cases_eq cell.at at) [
        | inl same ↦ fits_as same taken.headed_touch (header_fits fields_change)
        | inr apart ↦ elim (found_or_not (address deleting) slot many at) [
          | inl found ↦
              let low = found.low in
              let high = found.high in
              subst (λ n. FitsTouch gone came n (taken.touch n)) found.stands
              (moved_fits found.one low (omega (arith, high, within)))
          | inr none ↦
              kept_fits gone came at (taken.touch at) (taken.others_touch at apart (λ one low high same.
              none one low (omega (arith, high, within)) (sym (address_is deleting one high) ∙ same)))
        ]
      ]

  -- where an in-object slot was kept, the same field stands there, or none as before
  own_alike : (one : ℕ) → one < path_before.cap → deleting.taken.touch (own_place one) ≡ Touch.Kept
      → AreAlike path_before path_after one
  own_alike one below kept = elim (cases_lt one slot) [
    | inl before ↦
        AreAlike.same_field (sym (less_before path_before.fields slot one before)
        ∙ ap (λ (p : Path). slice_get p.fields one) (sym fields_after))
    | inr from ↦ elim (cases_lt deleting.taken.last one) [
      | inl past ↦
          AreAlike.same_field (slice_get_past path_before.fields one (omega (arith, deleting.taken.counted, past))
          ∙ sym (slice_get_past path_after.fields one (omega (arith, counted_after, past))))
      | inr few ↦
          absurd (field_is_touched true (slice_get path_after.fields one)
          (sym (own_how one from few (omega (arith, below, caps_before))) ∙ kept))
    ]
  ]

  -- what is recorded follows the cells
  pub deleted_remembers : old.recorded.bound ≡ eden_start old.seat.space → RemembersSurely old new gone came []
  deleted_remembers bounded =
      let taken = deleting.taken in
      let space = old.seat.space in
      fields_with_remembered fields_change (touches_alone (record {
        touches =
            TouchesObject.slots (taken.touches (omega (arith, bounded, roots_start_is space, layouts_start_is space)));
        surely = taken.surely;
      }))
      each_fits own_alike
