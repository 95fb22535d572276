-- The layout of a plain cell is that of the path of its shape.
use Rattle.std.proofs.Common.{◌≡◌, ℕ, zero, suc, ◌-◌, ◌/◌, ◌%◌, ◌^◌, ◌≤◌, ◌<◌, List, []}
use Rattle.std.proofs.Common.{◌∷◌, Some, slice_get, sym, ◌∙◌, ap}
use Rattle.std.proofs.Common.{arith, ◌==◌}
use Rattle.std.proofs.Math.Nat.{pow-succ', div-div-eq-div-mul}
use Rattle.std.proofs.lemmas.List.Elements.{All-get_or}
use Rattle.std.proofs.lemmas.Option.{slice_get_within, same_Some}
use Rattle.tagged_word.specs.Layouts.{layout_bits, is_raw}
use Rattle.tagged_word.specs.Shapes.{first_path_shape, shapes_most}
use Rattle.tagged_word.proofs.Layouts.{same_layout}
use Rattle.heap_model.specs.Types.{Path, PathField, Rep, Cell}
use Rattle.object_graph.specs.declared.value.Rep.TheVariants as rep
use Rattle.heap_command.specs.Commands.{cap_most}
use Rattle.object_graph.specs.Invariants.{IsPath}
use Rattle.shape_tree.specs.Shapes.{AreShapes, IsPathShape, shape_path}
use Rattle.shape_tree.specs.ShapeLayouts.{in_object_fields, raw_bit, raw_mask, layout_of}
use Rattle.shape_tree.proofs.PathLayouts.{layout_word-path, IsLayout-path}
use Rattle.cell_layout.proofs.CellsThere.{slice_get-layouts_in}
use Rattle.heap_model.specs.Heaps.{Heap, HasCell}
use Rattle.heap_model.specs.Wholeness.{HasSizes}
use Rattle.heap_model.proofs.CellsApart.{has_is_cell}
use Rattle.heap_model.proofs.CellWords.{slice_get-take}

-- the path of no shape
abbrev no_path : Path
no_path = record { cap = 0; fields = [] }

-- a bit is 0 or 1
raw_bit_most : (one : Rep) → raw_bit one ≤ 1
raw_bit_most rep.Small = omega arith
raw_bit_most rep.Wide = omega arith
raw_bit_most rep.Tagged = omega arith

-- the bit of a field in the mask says whether it is wide
raw_mask_at : (fields : List PathField) (k : ℕ) (field : PathField) → slice_get fields k ≡ Some field
    → raw_mask fields / 2 ^ k % 2 ≡ raw_bit field.rep
raw_mask_at [] k field there = cc
raw_mask_at (first ∷ fields) zero field there =
    let same : raw_bit first.rep ≡ raw_bit field.rep =
    ap (λ (f : PathField). raw_bit f.rep) (same_Some first field there) in
    omega (arith, same, raw_bit_most first.rep)
raw_mask_at (first ∷ fields) (suc k) field there =
    let mask : ℕ = raw_mask (first ∷ fields) in
    let half : mask / 2 ≡ raw_mask fields = omega (arith, raw_bit_most first.rep) in
    ap (λ n. mask / n % 2) (pow-succ' 2 k) ∙ ap (λ n. n % 2) (sym (div-div-eq-div-mul mask 2 (2 ^ k)))
    ∙ ap (λ n. n / 2 ^ k % 2) half ∙ raw_mask_at fields k field there

-- each path of a tree of shapes has few in-object slots
cap_few : (paths : List Path) (shape : ℕ) → AreShapes paths → IsPathShape paths shape
    → (shape_path paths shape).cap ≤ cap_most
cap_few paths shape are is =
    (All-get_or IsPath paths (shape - first_path_shape) no_path (omega (arith, is.from, is.below)) are.are.each).cap

-- the layout of a cell of a path's shape is that of the path
pub layout_is : {heap : Heap} {cell : Cell} {words : List ℕ} → HasSizes heap → HasCell heap cell words
    → IsPathShape heap.paths cell.header.shape → cell.layout ≡ layout_of (shape_path heap.paths cell.header.shape)
layout_is {heap} {cell} sized has is =
    let reads = (has_is_cell has).reads in
    let shape : ℕ = cell.header.shape in
    let below : shape < shapes_most = omega (arith, is.below, sized.shapes.few) in
    let bits : layout_bits cell.layout ≡ layout_bits (layout_of (shape_path heap.paths shape)) =
    same_Some _ _ (sym reads.of_shape ∙ slice_get-layouts_in heap.space heap.words shape below
    ∙ sized.layouts shape below ∙ ap (λ word. Some word) (layout_word-path heap.paths shape is)) in
    same_layout cell.layout (layout_of (shape_path heap.paths shape)) reads.is_layout
    (IsLayout-path (shape_path heap.paths shape) (cap_few heap.paths shape sized.shapes is)) bits

-- the field of a path at a place in the object is used
pub in_object_used : (path : Path) (at : ℕ) (field : PathField) → slice_get path.fields at ≡ Some field → at < path.cap
    → at < (layout_of path).used
in_object_used path at field there own =
    slice_get_within (in_object_fields path) at field (slice_get-take path.cap path.fields at own ∙ there)

-- its bit of the mask says whether it is wide
pub in_object_raw : (path : Path) (at : ℕ) (field : PathField) → slice_get path.fields at ≡ Some field → at < path.cap
    → is_raw (layout_of path) at ≡ (raw_bit field.rep == 1)
in_object_raw path at field there own =
    ap (λ n. n == 1) (raw_mask_at (in_object_fields path) at field (slice_get-take path.cap path.fields at own ∙ there))
