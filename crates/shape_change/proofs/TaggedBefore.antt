-- The tagged slots of a plain object with one field more: those that were tagged before, and maybe that of the field.
use Rattle.std.proofs.Common.{◌≡◌, ℕ, ◌<◌, List, length}
use Rattle.std.proofs.Common.{sym, ap, arith, inl, inr}
use Rattle.tagged_word.specs.declared.layout.Kind.TheVariants as kind
use Rattle.heap_model.specs.Types.{Path, PathField, Rep, Cell}
use Rattle.object_graph.specs.declared.value.Rep.TheVariants as rep
use Rattle.shape_tree.specs.Shapes.{IsPathShape, shape_path, stepped}
use Rattle.shape_tree.specs.ShapeLayouts.{layout_of}
use Rattle.heap_model.specs.Heaps.{Heap, HasCell}
use Rattle.heap_model.specs.Wholeness.{HasSizes}
use Rattle.object_cells.specs.SlotChanges.{IsTaggedSlot}
use Rattle.shape_change.proofs.AddedFields.{push_cases}
use Rattle.object_cells.proofs.FieldWords.{field_is_tagged, tagged_is_field}

-- a slot that is tagged where the path has a field more, and is not that field's, was tagged before
pub tagged_before : {heap : Heap} {cell : Cell} {words : List ℕ} (new : Cell) (name : ℕ) (one : Rep) (slot : ℕ)
    → HasSizes heap → HasCell heap cell words → cell.layout.kind ≡ kind.Plain → IsPathShape heap.paths cell.header.shape
    → cell.layout.cap ≡ (shape_path heap.paths cell.header.shape).cap
    → new.layout ≡ layout_of (stepped (shape_path heap.paths cell.header.shape) name one)
    → (slot ≡ length (shape_path heap.paths cell.header.shape).fields → ⊥) → IsTaggedSlot new slot
    → IsTaggedSlot cell slot
tagged_before {heap} {cell} new name one slot sized has plain shape caps laid apart tagged below =
    let path : Path = shape_path heap.paths cell.header.shape in
    let of_path = tagged_is_field new (stepped path name one) slot laid tagged (omega (arith, below, caps)) in
    elim (push_cases path.fields (record { name = name; rep = one }) slot of_path.field of_path.there) [
      | inl old ↦ field_is_tagged slot of_path.field sized has plain shape old.1 (λ own wide. of_path.apart wide) below
      | inr last ↦ absurd (apart last.0)
    ]

-- the slot of a wide field in the object is not tagged
pub wide_not_tagged : (new : Cell) (path : Path) (name slot : ℕ)
    → new.layout ≡ layout_of (stepped path name rep.Wide) → slot ≡ length path.fields → slot < path.cap
    → IsTaggedSlot new slot → ⊥
wide_not_tagged new path name slot laid last below tagged =
    let of_path = tagged_is_field new (stepped path name rep.Wide) slot laid tagged below in
    elim (push_cases path.fields (record { name = name; rep = rep.Wide }) slot of_path.field of_path.there) [
      | inl old ↦ omega (arith, old.0, last)
      | inr same ↦ of_path.apart (sym (ap (λ (f : PathField). f.rep) same.1))
    ]
