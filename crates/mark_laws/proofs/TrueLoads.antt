-- Snaps are true when they begin, and stay so as more of their cells is read.
use Rattle.std.proofs.Common.{ℕ, ◌+◌, ◌<◌, ◌≡◌, ◌≢◌, ◌==◌, ◌∙◌, inl, inr, true, IsTrue, []}
use Rattle.std.proofs.Common.{◌∷◌, ◌++◌, length, slice_index, slice_get, Option, Some, Contains}
use Rattle.std.proofs.Common.{refl, sym, ap, subst, arith, eqb-true}
use Rattle.std.proofs.lemmas.Bool.{eqb-false}
use Rattle.std.proofs.lemmas.List.Elements.{Contains-append_left, Contains-push, Contains-push_cases}
use Rattle.std.proofs.lemmas.Option.{get_or_from_slice_get, slice_get-get_or}
use Rattle.mark_laws.specs.Types.{Header, Reading, Laid, Snap, SnapSlot, World}
use Rattle.tagged_word.specs.Cells.{length_offset, marks_by_length}
use Rattle.tagged_word.specs.Readings.{header_in}
use Rattle.tagged_word.specs.Shapes.{shapes_most}
use Rattle.tagged_word.proofs.Cells.{some_same}
use Rattle.tagged_word.proofs.Members.{in_map, map_from}
use Rattle.core_parts.proofs.Joining.{decided}
use Rattle.mark_world.specs.Safety.{laid_in, slots_by}
use Rattle.mark_world.specs.Naming.{read_offsets}
use Rattle.mark_world.specs.Steps.{snap_begun, with_layout, with_length, with_slot}
use Rattle.mark_world.specs.Coverage.{cell_of}
use Rattle.mark_world.specs.Soundness.{IsFreshSlot, IsTrueSnap}
use Rattle.mark_laws.proofs.Laid.{cell_laid, laid_of}
use Rattle.mark_laws.proofs.Names.{safe_unmarked, second_is, was_header}
use Rattle.mark_laws.proofs.Slots.{some_from}
use Rattle.mark_laws.proofs.TrueSnaps.{IsTrueSlot, true_slot, true_slots}

-- a snap is true when it begins: its header stands, and no slot was read
pub begun_true : (world : World) (at : ℕ) → IsTrueSnap world (snap_begun at (slice_index world.words at))
begun_true world at =
    let snap : Snap = snap_begun at (slice_index world.words at) in
    record {
      header = inl refl;
      layout = tt;
      length = tt;
      slots = true_slots world snap (λ cell e offset there. inr (
        subst (λ (o : Option Laid). Contains (slots_by o cell.length) offset) (sym (cell_laid world at cell e)) there,
        inl (λ none. absurd (omega (arith, none.1))),
      ));
    }

-- a snap stays true where its layout word is read
pub layout_read_true : (world : World) (snap : Snap) (found : ℕ) → length world.layouts ≡ shapes_most
    → IsTrueSnap world snap
    → ((header : Header) → header_in snap.header ≡ Some header
    → (header.shape < shapes_most) × (found ≡ slice_index world.layouts header.shape))
    → IsTrueSnap world (with_layout found snap)
layout_read_true world snap found sizes is_true reads = record {
  header = is_true.header;
  layout = some_from (λ (header : Header). slice_get world.layouts header.shape ≡ Some found) (header_in snap.header)
      (λ header e.
      let is = reads header e in
      let within : header.shape < length world.layouts = omega (arith, is.0, sizes) in
      slice_get-get_or world.layouts header.shape 0 within ∙ ap (λ w. Some w) (sym is.1));
  length = is_true.length;
  slots = is_true.slots;
}

-- a snap of a cell that is read stays true where its length is read
pub length_read_true : (world : World) (snap : Snap) (cell : Reading) → cell_of world snap.cell ≡ Some cell
    → IsTrueSnap world snap
    → IsTrueSnap world (with_length (slice_index world.words (snap.cell + length_offset)) snap)
length_read_true world snap cell e is_true =
    let was = was_header world snap cell is_true e in
    let at : ℕ = snap.cell + length_offset in
    let found : ℕ = slice_index world.words at in
    record {
      header = is_true.header;
      layout = is_true.layout;
      length = some_from (λ (l : Laid). IsTrue (marks_by_length l.layout.kind) → slice_get world.words at ≡ Some found)
          (laid_in world.layouts snap.header) (λ laid f marks.
          let is : laid ≡ was.laid = some_same f was.is in
          let marks_was = subst (λ (l : Laid). marks_by_length l.layout.kind ≡ true) is marks in
          elim was.still [
            | inl same ↦
                let second = second_is world snap.cell cell e
                (subst (λ (l : Laid). marks_by_length l.layout.kind ≡ true) same marks_was) in
                second ∙ ap (λ w. Some w) (sym (get_or_from_slice_get world.words at cell.length 0 second))
            | inr change ↦ absurd (safe_unmarked was.laid (laid_of cell) change marks_was)
          ]);
      slots = is_true.slots;
    }

-- a slot is not read where another was read beside those before
unread_still : (snap : Snap) (offset found other : ℕ) → other ≢ offset → (Contains (read_offsets snap) other → ⊥)
    → Contains (read_offsets (with_slot offset found snap)) other → ⊥
unread_still snap offset found other differs unread there =
    let new : SnapSlot = record { offset = offset; word = found } in
    let slot = map_from (λ (s : SnapSlot). s.offset) (snap.slots ++ new ∷ []) other there in
    elim (Contains-push_cases snap.slots new slot.0 slot.1) [
      | inl before ↦ unread (subst (Contains (read_offsets snap)) slot.2
          (in_map (λ (s : SnapSlot). s.offset) snap.slots slot.0 before))
      | inr is ↦ differs (sym slot.2 ∙ ap (λ (s : SnapSlot). s.offset) (sym is))
    ]

-- a slot that was read now was read with the word that stands, and the others stay fresh
fresh_still : (world : World) (snap : Snap) (offset other : ℕ)
    → IsFreshSlot snap other (slice_index world.words (snap.cell + other))
    → IsFreshSlot (with_slot offset (slice_index world.words (snap.cell + offset)) snap) other
    (slice_index world.words (snap.cell + other))
fresh_still world snap offset other (inr read) =
    inr (Contains-append_left snap.slots (record {
      offset = offset;
      word = slice_index world.words
          (snap.cell + offset);
    } ∷ [])
    (record { offset = other; word = slice_index world.words (snap.cell + other) }) read)
fresh_still world snap offset other (inl unread) = elim (decided (other == offset)) [
  | inl same ↦ inr (subst (λ (o : ℕ). Contains
      (snap.slots ++ record { offset = offset; word = slice_index world.words (snap.cell + offset) } ∷ [])
      (record { offset = o; word = slice_index world.words (snap.cell + o) })) (sym (eqb-true _ _ same))
      (Contains-push snap.slots (record { offset = offset; word = slice_index world.words (snap.cell + offset) })))
  | inr differs ↦ inl (unread_still snap offset (slice_index world.words (snap.cell + offset)) other
      (eqb-false other offset differs) unread)
]

-- what a snap tells of a slot where another was read
slot_after : (world : World) (snap : Snap) (long offset other : ℕ)
    → IsTrueSlot world snap long other (slice_index world.words (snap.cell + other))
    → IsTrueSlot world (with_slot offset (slice_index world.words (snap.cell + offset)) snap) long other
    (slice_index world.words (snap.cell + other))
slot_after world snap long offset other (inl covered) = inl covered
slot_after world snap long offset other (inr fresh) = inr (fresh.0, fresh_still world snap offset other fresh.1)

-- a snap stays true where a slot is read
pub slot_read_true : (world : World) (snap : Snap) (offset : ℕ) → IsTrueSnap world snap
    → IsTrueSnap world (with_slot offset (slice_index world.words (snap.cell + offset)) snap)
slot_read_true world snap offset is_true =
    let later : Snap = with_slot offset (slice_index world.words (snap.cell + offset)) snap in
    record {
      header = is_true.header;
      layout = is_true.layout;
      length = is_true.length;
      slots = true_slots world later (λ cell e other there.
          slot_after world snap cell.length offset other (true_slot world snap cell other is_true e there));
    }
