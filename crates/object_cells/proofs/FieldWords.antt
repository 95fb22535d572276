-- The words of the fields of plain objects: what shows a field is a word of its representation, and a field that is not
-- raw stands in a tagged slot.
use Rattle.std.proofs.Common.{◌≡◌, ℕ, ◌+◌, ◌-◌, ◌<◌, Bool, true, false, List, Contains, Some, slice_get}
use Rattle.std.proofs.Common.{nat_lt, ◌==◌, refl, sym, ◌∙◌, ap, subst, arith, get_or, length, length-take}
use Rattle.std.specs.Prelude.{ℤ, option_map}
use Rattle.std.proofs.lemmas.Bool.Decides.{nat_tests}
use Rattle.std.proofs.lemmas.Option.{slice_get-map, slice_get-get_or}
use Rattle.tagged_word.specs.declared.layout.Kind.TheVariants as kind
use Rattle.heap_model.specs.Types.{LayoutWord, Value, Rep, Field, Path, PathField, Cell}
use Rattle.tagged_word.specs.Layouts.{is_raw}
use Rattle.tagged_word.specs.Cells.{scavenge_offsets, in_object_offsets, plain_head}
use Rattle.tagged_word.proofs.Offsets.{IsInObject, in_object_in, IsPlainSlot, plain_slot_is, plain_has_own}
use Rattle.object_graph.specs.declared.value.Rep.TheVariants as rep
use Rattle.object_graph.specs.Paths.{path_of}
use Rattle.shape_tree.specs.Shapes.{IsPathShape, shape_path}
use Rattle.shape_tree.specs.ShapeLayouts.{layout_of, raw_bit}
use Rattle.heap_model.specs.Heaps.{Heap, HasCell}
use Rattle.heap_model.specs.Slots.{IsValueWord, IsWideWord, IsFieldWord}
use Rattle.heap_model.specs.Wholeness.{HasSizes}
use Rattle.heap_model.specs.Showing.{ShowsValue, ShowsWide, ShowsField}
use Rattle.heap_model.proofs.CellWords.{slots_by_kind}
use Rattle.heap_model.proofs.PathLayouts.{layout_is, in_object_used, in_object_raw}
use Rattle.heap_model.proofs.SlotWords.{in_object_not_wide}
use Rattle.object_cells.specs.SlotChanges.{IsTaggedSlot}

-- what shows a value is the word of one
pub value_word : {heap : Heap} (word : ℕ) (value : Value) → ShowsValue heap word value → IsValueWord heap word
value_word {heap} word value (ShowsValue.small_integer v is same) =
    subst (IsValueWord heap) (sym same) (IsValueWord.small_integer v is)
value_word word value (ShowsValue.boxed v wide refers) = IsValueWord.boxed word v refers wide
value_word {heap} word value (ShowsValue.undefined same) = subst (IsValueWord heap) (sym same) IsValueWord.undefined
value_word word value (ShowsValue.object number refers) = IsValueWord.object word (number, refers)

-- what shows the integer of a wide field is the word of one
wide_word : {heap : Heap} (own : Bool) (word : ℕ) (v : ℤ) → ShowsWide heap own word v → IsWideWord heap own word
wide_word true word v shows = IsWideWord.raw word
wide_word false word v shows = IsWideWord.boxed word v shows

-- what shows a field is the word of one
pub field_word : {heap : Heap} {own : Bool} (word : ℕ) (one : Rep) (value : Value) → ShowsField heap own word one value
    → IsFieldWord heap own one word
field_word {heap} {own} word one value (ShowsField.small_integer v is same) =
    subst (IsFieldWord heap own rep.Small) (sym same) (IsFieldWord.small_integer v is)
field_word {own = own} word one value (ShowsField.wide v shows) = IsFieldWord.wide word (wide_word own word v shows)
field_word word one value (ShowsField.tagged of shows) = IsFieldWord.tagged word (value_word word of shows)

-- the field of an object at a place is that of its path
pub path_field : (cap : ℕ) (fields : List Field) (k : ℕ) (field : Field) → slice_get fields k ≡ Some field
    → slice_get (path_of cap fields).fields k ≡ Some (record { name = field.name; rep = field.rep })
path_field cap fields k field there =
    let part : Field → PathField = λ f. record { name = f.name; rep = f.rep } in
    slice_get-map part fields k ∙ ap (option_map part) there

-- a field for want of another
abbrev no_field : PathField
no_field = record { name = 0; rep = rep.Small }

-- a representation that is not wide has no bit in the mask
no_bit : (one : Rep) → (one ≡ rep.Wide → ⊥) → raw_bit one ≡ 0
no_bit rep.Small apart = refl
no_bit rep.Wide apart = absurd (apart refl)
no_bit rep.Tagged apart = refl

-- the offset of a field in the object that is not wide is one of the slots
in_object_tagged : (path : Path) (at : ℕ) (field : PathField) → slice_get path.fields at ≡ Some field → at < path.cap
    → (field.rep ≡ rep.Wide → ⊥) → Contains (in_object_offsets (layout_of path)) (plain_head + at)
in_object_tagged path at field there below apart =
    let offset : ℕ = plain_head + at in
    let used = in_object_used path at field there below in
    let raw : is_raw (layout_of path) at ≡ false =
    in_object_raw path at field there below ∙ ap (λ n. n == 1) (no_bit field.rep apart) in
    let is : at ≡ offset - plain_head = omega arith in
    let own : IsInObject (layout_of path) offset = record {
      behind = omega arith;
      used = omega (arith, used);
      tagged = subst (λ n. is_raw (layout_of path) n ≡ false) is raw;
    } in
    in_object_in (layout_of path) offset own

-- a field that is not raw stands in a tagged slot
pub field_is_tagged : {heap : Heap} {cell : Cell} {words : List ℕ} (at : ℕ) (field : PathField) → HasSizes heap
    → HasCell heap cell words → cell.layout.kind ≡ kind.Plain → IsPathShape heap.paths cell.header.shape
    → slice_get (shape_path heap.paths cell.header.shape).fields at ≡ Some field
    → (nat_lt at cell.layout.cap ≡ true → field.rep ≡ rep.Wide → ⊥) → IsTaggedSlot cell at
field_is_tagged {heap} {cell} at field sized has plain shape there not_raw below =
    let path : Path = shape_path heap.paths cell.header.shape in
    let laid : cell.layout ≡ layout_of path = layout_is sized has shape in
    let within : at < path.cap = subst (λ (layout : LayoutWord). at < layout.cap) laid below in
    let test : nat_lt at cell.layout.cap ≡ true = grind (arith, nat_tests) in
    let own = in_object_tagged path at field there within (not_raw test) in
    let own_cell = subst (λ layout. Contains (in_object_offsets layout) (plain_head + at)) (sym laid) own in
    slots_by_kind cell kind.Plain (plain_head + at) plain (plain_has_own cell.layout (plain_head + at) own_cell)

-- the slot of this number is that of a field in the object that is not wide
pub record IsTaggedField (path : Path) (slot : ℕ) : Type 0 where
  pub field : PathField
  pub there : slice_get path.fields slot ≡ Some field
  pub apart : field.rep ≡ rep.Wide → ⊥

-- a tagged slot in an object of a path's layout is that of such a field
pub tagged_is_field : (cell : Cell) (path : Path) (slot : ℕ) → cell.layout ≡ layout_of path → IsTaggedSlot cell slot
    → slot < path.cap → IsTaggedField path slot
tagged_is_field cell path slot laid tagged below =
    let offset : ℕ = plain_head + slot in
    let within : slot < cell.layout.cap = subst (λ (layout : LayoutWord). slot < layout.cap) (sym laid) below in
    let among : Contains (scavenge_offsets (layout_of path) cell.length) offset =
    subst (λ layout. Contains (scavenge_offsets layout cell.length) offset) laid (tagged within) in
    elim (plain_slot_is (layout_of path) offset among) [
      | IsPlainSlot.store same ↦ absurd (omega (arith, same))
      | IsPlainSlot.proto same ↦ absurd (omega (arith, same))
      | IsPlainSlot.own own ↦
          let is : offset - plain_head ≡ slot = omega arith in
          let few : slot < length path.fields = omega (arith, own.used, length-take path.cap path.fields) in
          let field : PathField = get_or path.fields slot no_field in
          let there : slice_get path.fields slot ≡ Some field = slice_get-get_or path.fields slot no_field few in
          let not_raw = subst (λ n. is_raw (layout_of path) n ≡ false) is own.tagged in
          record { field = field; there = there; apart = in_object_not_wide path slot field there below not_raw }
    ]
