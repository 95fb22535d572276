-- Where the slots of an object lie, and what they hold.
use Rattle.std.proofs.Common.{◌≡◌, ℕ, ◌+◌, ◌-◌, ◌*◌, ◌<◌, inl, inr, false, List, ◌++◌, length}
use Rattle.std.proofs.Common.{drop, Some, Contains, slice_get, get_or, IsTrue, sym, ◌∙◌, subst, arith, length-take}
use Rattle.std.proofs.lemmas.Bool.{false≢true}
use Rattle.std.proofs.lemmas.Option.{slice_get_within, slice_get-get_or}
use Rattle.heap_model.specs.Types.{Kind, LayoutWord, Path, PathField, Cell}
use Rattle.tagged_word.specs.declared.layout.Kind.TheVariants as kind
use Rattle.tagged_word.specs.Layouts.{is_raw}
use Rattle.tagged_word.specs.Cells.{scavenge_offsets, scavenge_offsets_of, store_head, store_slot}
use Rattle.tagged_word.specs.Cells.{plain_head, is_object_kind}
use Rattle.tagged_word.proofs.Members.{one_in, range_bounds}
use Rattle.tagged_word.proofs.Offsets.{IsInObject, IsPlainSlot, plain_slot_is}
use Rattle.object_graph.specs.declared.value.Rep.TheVariants as rep
use Rattle.shape_tree.specs.Shapes.{shape_path}
use Rattle.shape_tree.specs.ShapeLayouts.{layout_of, in_object_fields}
use Rattle.cell_layout.proofs.OneCell.{slots_lie_within}
use Rattle.heap_model.specs.Heaps.{Heap, HasCell}
use Rattle.heap_model.specs.Slots.{RefersTo, IsSlotWord}
use Rattle.heap_model.specs.Kinds.{HasWord, IsPlainCell, IsStoreCell, IsSoundOf, IsSoundCell}
use Rattle.heap_model.specs.Wholeness.{HasSizes, HasSlotAt, Whole}
use Rattle.heap_model.proofs.CellsApart.{IsOfCell, has_is_cell}
use Rattle.heap_model.proofs.CellWords.{slice_get-drop, slice_get-append_left, slots_of_kind}
use Rattle.heap_model.proofs.PathLayouts.{layout_is}
use Rattle.heap_model.proofs.SlotWords.{IsStoreKind, IsStoreWord, store_word_of, store_word, store_target}
use Rattle.heap_model.proofs.SlotWords.{proto_word, proto_is_slot, field_is_slot, in_object_not_wide, All-slice_get}

-- what a slot of an object holds: what the slot of a store or table holds, or a slot word
pub data Holding (heap : Heap) (word : ℕ) : Type 0 where
  to_store : IsStoreWord heap word → Holding heap word
  as_slot : IsSlotWord heap word → Holding heap word

-- a field for want of another
abbrev no_field : PathField
no_field = record { name = 0; rep = rep.Small }

-- an in-object slot of a plain object that is no raw one holds a slot word
in_object_holds : {heap : Heap} {cell : Cell} {words : List ℕ} (offset word : ℕ) → HasSizes heap
    → HasCell heap cell words
    → IsPlainCell heap cell words → IsInObject cell.layout offset → HasWord words offset word
    → IsSlotWord heap word
in_object_holds {heap} {cell} {words} offset word sized has sound own slot =
    let path : Path = shape_path heap.paths cell.header.shape in
    let laid : cell.layout ≡ layout_of path = layout_is sized has sound.shape in
    let at : ℕ = offset - plain_head in
    let used : at < length (in_object_fields path) = subst (λ (layout : LayoutWord). at < layout.used) laid own.used in
    let below : at < path.cap = omega (arith, length-take path.cap path.fields, used) in
    let among : at < length path.fields = omega (arith, length-take path.cap path.fields, used) in
    let field : PathField = get_or path.fields at no_field in
    let field_there : slice_get path.fields at ≡ Some field = slice_get-get_or path.fields at no_field among in
    let here : HasWord (drop plain_head words) at word =
    slice_get-drop plain_head words at offset (omega (arith, own.behind)) ∙ slot in
    let within : at < length (drop plain_head words) = slice_get_within (drop plain_head words) at word here in
    let in_both : HasWord (drop plain_head words ++ sound.has.beside) at word =
    slice_get-append_left (drop plain_head words) sound.has.beside at within ∙ here in
    let in_slots : HasWord sound.slots at word = subst (λ all. HasWord all at word) (sym sound.has.are) in_both in
    let tagged = subst (λ layout. is_raw layout at ≡ false) laid own.tagged in
    field_is_slot field.rep word (sound.hold.each at field word field_there in_slots)
    (λ own_is_true wide. in_object_not_wide path at field field_there below tagged wide)

-- a slot in the cell of an object that is sound holds what one may, kind by kind
pub own_slot_holds : {heap : Heap} {cell : Cell} {words : List ℕ} (k : Kind) (offset word : ℕ) → HasSizes heap
    → HasCell heap cell words → IsTrue (is_object_kind k)
    → IsSoundOf k heap cell words → Contains (scavenge_offsets_of k cell.layout cell.length) offset
    → HasWord words offset word → Holding heap word
own_slot_holds {heap} {cell} {words} kind.Plain offset word sized has is sound there slot =
    elim (plain_slot_is cell.layout offset there) [
      | IsPlainSlot.store same ↦
          let store = subst (λ n. HasWord words n word) (sym same) slot in
          Holding.to_store (store_word_of heap cell words kind.Plain word is sound store)
      | IsPlainSlot.proto same ↦
          let proto = subst (λ n. HasWord words n word) (sym same) slot in
          Holding.as_slot (proto_is_slot word (proto_word word sound proto))
      | IsPlainSlot.own own ↦ Holding.as_slot (in_object_holds offset word sized has sound own slot)
    ]
own_slot_holds {heap} {cell} {words} kind.List offset word sized has is sound there slot =
    let store = subst (λ n. HasWord words n word) (sym (one_in store_slot offset there)) slot in
    Holding.to_store (store_word_of heap cell words kind.List word is sound store)
own_slot_holds {heap} {cell} {words} kind.Weak offset word sized has is sound there slot =
    let store = subst (λ n. HasWord words n word) (sym (one_in store_slot offset there)) slot in
    Holding.to_store (store_word_of heap cell words kind.Weak word is sound store)
own_slot_holds _ offset word sized has is sound there slot = absurd (false≢true is)

-- a slot of a store or table that is sound holds a slot word
pub beside_holds : {heap : Heap} (other : Cell) (others : List ℕ) (offset word : ℕ) → IsSoundCell heap other others
    → IsStoreKind other.layout.kind → Contains (scavenge_offsets other.layout other.length) offset
    → HasWord others offset word → IsSlotWord heap word
beside_holds {heap} other others offset word is_sound (inl is) there slot =
    let sound : IsStoreCell heap other others = subst (λ k. IsSoundOf k heap other others) is is_sound in
    let behind = (range_bounds store_head other.length offset (slots_of_kind other kind.Store offset is there)).0 in
    let at : ℕ = offset - store_head in
    All-slice_get (IsSlotWord heap) (drop store_head others) at word sound.slots
    (slice_get-drop store_head others at offset (omega (arith, behind)) ∙ slot)
beside_holds {heap} other others offset word is_sound (inr is) there slot =
    let sound : IsStoreCell heap other others = subst (λ k. IsSoundOf k heap other others) is is_sound in
    let behind = (range_bounds store_head (2 * other.length) offset
    (slots_of_kind other kind.Table offset is there)).0 in
    let at : ℕ = offset - store_head in
    All-slice_get (IsSlotWord heap) (drop store_head others) at word sound.slots
    (slice_get-drop store_head others at offset (omega (arith, behind)) ∙ slot)

-- each slot of an object holds what one may
pub slot_holds : {heap : Heap} {cell : Cell} {words : List ℕ} {slot word : ℕ} → Whole heap → HasCell heap cell words
    → IsTrue (is_object_kind cell.layout.kind) → HasSlotAt heap cell words slot word → Holding heap word
slot_holds {heap} {cell} {words} whole has object (HasSlotAt.own offset word there stands) =
    own_slot_holds cell.layout.kind offset word whole.sized has object (whole.sound cell words has) there stands
slot_holds {heap} {cell} {words} whole has object
    (HasSlotAt.beside store other others offset word slot refers there stands) =
    let is = store_target (store_word store whole has object slot) refers in
    Holding.as_slot (beside_holds other others offset word (whole.sound other others refers.has) is there stands)

-- A slot of an object lies in its cell, or in that of its store or table.
pub data SlotIn (heap : Heap) (cell : Cell) (words : List ℕ) (slot : ℕ) : Type 0 where
  in_own : IsOfCell cell slot → SlotIn heap cell words slot
  in_store : (store : ℕ) (other : Cell) (others : List ℕ) → HasWord words store_slot store
      → RefersTo heap store other others
      → IsStoreKind other.layout.kind → IsOfCell other slot → SlotIn heap cell words slot

-- a slot of a cell is one of its addresses
of_cell : {heap : Heap} {cell : Cell} {words : List ℕ} (offset : ℕ) → HasCell heap cell words
    → Contains (scavenge_offsets cell.layout cell.length) offset → IsOfCell cell (cell.at + offset)
of_cell {heap} {cell} offset has there =
    let within = (slots_lie_within heap.space heap.words cell offset (has_is_cell has) there).within in
    record { from = omega arith; below = omega (arith, within) }

-- each slot of an object lies there
pub slot_in : {heap : Heap} {cell : Cell} {words : List ℕ} {slot word : ℕ} → Whole heap → HasCell heap cell words
    → IsTrue (is_object_kind cell.layout.kind) → HasSlotAt heap cell words slot word → SlotIn heap cell words slot
slot_in whole has object (HasSlotAt.own offset word there stands) = SlotIn.in_own (of_cell offset has there)
slot_in whole has object (HasSlotAt.beside store other others offset word slot refers there stands) =
    let is = store_target (store_word store whole has object slot) refers in
    SlotIn.in_store store other others slot refers is (of_cell offset refers.has there)
