-- The header of a plain object changes safely where its path becomes one with a field more.
use Rattle.std.specs.Prelude.{IsSomeAnd, Option}
use Rattle.std.proofs.Common.{◌≡◌, ℕ, ◌+◌, ◌-◌, ◌<◌, ◌≤◌, ◌⊎◌, inl, inr, List, [], ◌∷◌, ◌++◌, length, Contains, Some}
use Rattle.std.proofs.Common.{slice_get, length-append, refl, sym, ◌∙◌, ap, subst, arith}
use Rattle.std.proofs.lemmas.Bool.{cases_lt}
use Rattle.std.proofs.lemmas.List.Elements.{All-get_or}
use Rattle.std.proofs.lemmas.Option.{same_Some, slice_get_within}
use Rattle.tagged_word.specs.Cells.{plain_head, store_slot, proto_slot, tagged_offsets}
use Rattle.tagged_word.specs.Headers.{IsHeader, header_bits}
use Rattle.tagged_word.specs.Layouts.{layout_bits}
use Rattle.tagged_word.specs.Shapes.{first_path_shape, shapes_most}
use Rattle.tagged_word.proofs.Offsets.{IsPlainSlot, plain_slot_is, plain_has_store, plain_has_proto}
use Rattle.tagged_word.proofs.Readings.{header_to, layout_to}
use Rattle.cell_layout.specs.Cells.{layouts_in}
use Rattle.cell_layout.proofs.CellsThere.{slice_get-layouts_in}
use Rattle.heap_command.specs.Commands.{cap_most}
use Rattle.mark_world.specs.Safety.{laid_in, plain_slots, IsSafe, IsSafeChange}
use Rattle.mark_laws.specs.Types.{Laid}
use Rattle.mark_laws.proofs.Joins.{all_from}
use Rattle.mark_laws.proofs.Laid.{laid_is, shape_is}
use Rattle.object_graph.specs.Invariants.{IsPath}
use Rattle.shape_tree.specs.Shapes.{AreShapes, IsPathShape, shape_path}
use Rattle.shape_tree.specs.ShapeLayouts.{layout_of, raw_bit}
use Rattle.shape_tree.proofs.PathLayouts.{layout_word-path, IsLayout-path}
use Rattle.heap_model.specs.Types.{Header, Path, PathField, Cell}
use Rattle.heap_model.specs.Heaps.{Heap}
use Rattle.heap_model.specs.Remembered.{IsSlotOf}
use Rattle.heap_model.specs.Wholeness.{HasSizes}
use Rattle.heap_model.proofs.CellWords.{slice_get-append_left}
use Rattle.shape_change.proofs.FieldsAlike.{push_last}
use Rattle.object_cells.proofs.PathOffsets.{field_has_slot, slot_has_field}

-- a path that has no shape
abbrev no_path : Path
no_path = record { cap = 0; fields = [] }

-- a path has few in-object slots
path_cap : (paths : List Path) (shape : ℕ) → AreShapes paths → IsPathShape paths shape
    → (shape_path paths shape).cap ≤ cap_most
path_cap paths shape are is =
    (All-get_or IsPath paths (shape - first_path_shape) no_path (omega (arith, is.from, is.below)) are.are.each).cap

-- the header of a path's shape stands for it and for the layout of the path
pub laid_path : {heap : Heap} (header : Header) → HasSizes heap → IsHeader header
    → IsPathShape heap.paths header.shape → laid_in (layouts_in heap.space heap.words) (header_bits header)
    ≡ Some (record { header = header; layout = layout_of (shape_path heap.paths header.shape) })
laid_path {heap} header sized is shape =
    let path : Path = shape_path heap.paths header.shape in
    let below : header.shape < shapes_most = omega (arith, shape.below, sized.shapes.few) in
    let stands = slice_get-layouts_in heap.space heap.words header.shape below
    ∙ sized.layouts header.shape below ∙ ap (λ word. Some word) (layout_word-path heap.paths header.shape shape) in
    laid_is (layouts_in heap.space heap.words) (header_bits header) header (layout_of path)
    (header_to (header_bits header) header is refl)
    (shape_is (layouts_in heap.space heap.words) header.shape (layout_bits (layout_of path)) (layout_of path) below
    stands
    (layout_to (layout_bits (layout_of path)) (layout_of path)
    (IsLayout-path path (path_cap heap.paths header.shape sized.shapes shape)) refl))

-- a cell with the layout of a path
abbrev cell_of_path : Path → Cell
cell_of_path path = record {
  at = 0;
  header = record { shape = 0; object = 0 };
  layout = layout_of path;
  length = 0;
  size = 0;
}

-- a field that is not wide and stands in the object has a tagged slot
field_slot : (path : Path) (number : ℕ) (field : PathField) → number < path.cap
    → slice_get path.fields number ≡ Some field → raw_bit field.rep ≡ 0
    → Contains (tagged_offsets (layout_of path) 0) (plain_head + number)
field_slot path number field below there tagged =
    let slot = field_has_slot (cell_of_path path) path number field refl below there tagged in
    subst (Contains (tagged_offsets (layout_of path) 0)) (omega (arith, slot.stands)) slot.visited

-- a tagged slot is one of the first two, or that of such a field
pub data IsTagged (path : Path) (offset : ℕ) : Type 0 where
  head : (offset ≡ store_slot) ⊎ (offset ≡ proto_slot) → IsTagged path offset
  own : (number : ℕ) (field : PathField) → offset ≡ plain_head + number → number < path.cap
      → slice_get path.fields number ≡ Some field → raw_bit field.rep ≡ 0 → IsTagged path offset

pub tagged_is : (path : Path) (offset : ℕ) → Contains (tagged_offsets (layout_of path) 0) offset → IsTagged path offset
tagged_is path offset among = elim (plain_slot_is (layout_of path) offset among) [
  | IsPlainSlot.store same ↦ IsTagged.head (inl (sym same))
  | IsPlainSlot.proto same ↦ IsTagged.head (inr (sym same))
  | IsPlainSlot.own place ↦
      let number : ℕ = offset - plain_head in
      let is : plain_head + number ≡ offset = omega (arith, place.behind) in
      let slot : IsSlotOf (cell_of_path path) (0 + (plain_head + number)) = record {
        offset = offset;
        visited = among;
        stands = omega (arith, is);
      } in
      let has = slot_has_field (cell_of_path path) path number refl slot in
      IsTagged.own number has.0 (sym is) has.1.0 has.1.1 has.1.2
]

module _ (before after : Path) (field : PathField) (cap : before.cap ≡ after.cap)
    (fields : after.fields ≡ before.fields ++ field ∷ []) where
  -- the slots of the first two words are tagged in any plain object
  head_kept : (path : Path) (offset : ℕ) → (offset ≡ store_slot) ⊎ (offset ≡ proto_slot)
      → Contains (tagged_offsets (layout_of path) 0) offset
  head_kept path offset is = elim is [
    | inl same ↦ subst (Contains (tagged_offsets (layout_of path) 0)) (sym same) (plain_has_store (layout_of path))
    | inr same ↦ subst (Contains (tagged_offsets (layout_of path) 0)) (sym same) (plain_has_proto (layout_of path))
  ]

  -- what was tagged is tagged
  still_tagged : (offset : ℕ) → Contains (tagged_offsets (layout_of before) 0) offset
      → Contains (tagged_offsets (layout_of after) 0) offset
  still_tagged offset among = elim (tagged_is before offset among) [
    | IsTagged.head is ↦ head_kept after offset is
    | IsTagged.own number one is below there tagged ↦
        let within = slice_get_within before.fields number one there in
        subst (Contains (tagged_offsets (layout_of after) 0)) (sym is)
        (field_slot after number one (omega (arith, below, cap)) (ap (λ all. slice_get all number) fields
        ∙ slice_get-append_left before.fields (field ∷ []) number within ∙ there) tagged)
  ]

  -- and what is tagged was, or is the slot of the field
  pub newly_tagged : (offset : ℕ) → Contains (tagged_offsets (layout_of after) 0) offset
      → Contains (tagged_offsets (layout_of before) 0) offset
      ⊎ ((offset ≡ plain_head + length before.fields) × (length before.fields < before.cap) × (raw_bit field.rep ≡ 0))
  newly_tagged offset among = elim (tagged_is after offset among) [
    | IsTagged.head is ↦ inl (head_kept before offset is)
    | IsTagged.own number one is below there tagged ↦ elim (cases_lt number (length before.fields)) [
      | inl within ↦
          inl (subst (Contains (tagged_offsets (layout_of before) 0)) (sym is)
          (field_slot before number one (omega (arith, below, cap))
          (sym (slice_get-append_left before.fields (field ∷ []) number within)
          ∙ ap (λ all. slice_get all number) (sym fields) ∙ there) tagged))
      | inr from ↦
          let few = slice_get_within after.fields number one there in
          let long : length after.fields ≡ length before.fields + 1 = omega
          (arith, ap length fields, length-append before.fields (field ∷ [])) in
          let last : number ≡ length before.fields = omega (arith, few, from, long) in
          let same : one ≡ field = same_Some one field (sym there ∙ ap (slice_get after.fields) last
          ∙ ap (λ all. slice_get all (length before.fields)) fields ∙ push_last before.fields field) in
          inr (
            omega (arith, is, last),
            omega (arith, below, cap, last),
            ap (λ (f : PathField). raw_bit f.rep)
                (sym same) ∙ tagged,
          )
    ]
  ]

  -- so a header changes safely from one to the other
  pub changes_safely : {heap : Heap} (header : Header) (shape : ℕ) → HasSizes heap → IsHeader header
      → IsHeader (record header { shape = shape }) → IsPathShape heap.paths header.shape
      → IsPathShape heap.paths shape → shape_path heap.paths header.shape ≡ before
      → shape_path heap.paths shape ≡ after
      → IsSafe (layouts_in heap.space heap.words) (header_bits header) (header_bits (record header { shape = shape }))
  changes_safely {heap} header shape sized is is_next was_shape next_shape was next =
      let layouts : List ℕ = layouts_in heap.space heap.words in
      let old : Laid = record { header = header; layout = layout_of before } in
      let new : Laid = record { header = record header { shape = shape }; layout = layout_of after } in
      let laid_old : laid_in layouts (header_bits header) ≡ Some old =
      laid_path header sized is was_shape ∙ ap (λ p. Some (record { header = header; layout = layout_of p })) was in
      let laid_new : laid_in layouts (header_bits (record header { shape = shape })) ≡ Some new =
      laid_path (record header { shape = shape }) sized is_next next_shape
      ∙ ap (λ p. Some (record { header = record header { shape = shape }; layout = layout_of p })) next in
      let safe : IsSafeChange old new = record {
        old_plain = refl;
        new_plain = refl;
        one_object = refl;
        one_cap = cap;
        tagged = all_from (Contains (plain_slots new)) (plain_slots old) still_tagged;
      } in
      subst (λ (o : Option Laid). IsSomeAnd o (λ first. IsSomeAnd
      (laid_in layouts (header_bits (record header { shape = shape }))) (IsSafeChange first))) (sym laid_old)
      (subst (λ (o : Option Laid). IsSomeAnd o (IsSafeChange old)) (sym laid_new) safe)
