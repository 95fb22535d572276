-- The shape of a box is that of no other cell, so the header tells a box.
use Rattle.std.proofs.Common.{◌≡◌, ℕ, zero, suc, true, false, List, Option}
use Rattle.std.proofs.Common.{Some, None, slice_get, unwrap_or, IsTrue, refl, sym, ◌∙◌, ap, subst, arith}
use Rattle.std.specs.Prelude.{option_map}
use Rattle.std.proofs.lemmas.Bool.{ne_eqb, eq-eqb, false≢true}
use Rattle.std.proofs.lemmas.Option.{same_Some, slice_get-map}
use Rattle.heap_model.specs.Types.{Kind, LayoutWord, Path, Cell}
use Rattle.tagged_word.specs.declared.layout.Kind.TheVariants as kind
use Rattle.tagged_word.specs.Layouts.{layout_bits, IsLayoutOfKind}
use Rattle.tagged_word.specs.Shapes.{box_shape}
use Rattle.tagged_word.proofs.Layouts.{same_layout}
use Rattle.shape_tree.specs.ShapeLayouts.{layout_of, layout_word}
use Rattle.cell_layout.proofs.CellsThere.{slice_get-layouts_in}
use Rattle.heap_model.specs.Heaps.{Heap, HasCell}
use Rattle.tagged_word.specs.Cells.{is_object_kind}
use Rattle.heap_model.specs.Wholeness.{HasSizes}
use Rattle.heap_model.specs.Needs.{shape_at, is_box_at}
use Rattle.heap_model.proofs.CellsApart.{has_is_cell}
use Rattle.heap_model.proofs.WordsRead.{shape_is}

-- the layout word of a path
abbrev word_of : Path → ℕ
word_of path = layout_bits (layout_of path)

-- no path has the layout word of a box
no_path_word : (found : Option Path) → unwrap_or (option_map word_of found) 0 ≡ 6 → ⊥
no_path_word None same = omega (arith, same)
no_path_word (Some path) same = omega (arith, same)

-- the layout word of a box is that of its shape alone
box_word_is : (paths : List Path) (shape : ℕ) → layout_word paths shape ≡ 6 → shape ≡ box_shape
box_word_is paths zero same = absurd (omega (arith, same))
box_word_is paths (suc zero) same = absurd (omega (arith, same))
box_word_is paths (suc (suc zero)) same = absurd (omega (arith, same))
box_word_is paths (suc (suc (suc zero))) same = absurd (omega (arith, same))
box_word_is paths (suc (suc (suc (suc zero)))) same = absurd (omega (arith, same))
box_word_is paths (suc (suc (suc (suc (suc zero))))) same = refl
box_word_is paths (suc (suc (suc (suc (suc (suc zero)))))) same = absurd (omega (arith, same))
box_word_is paths (suc (suc (suc (suc (suc (suc (suc zero))))))) same = absurd (omega (arith, same))
box_word_is paths (suc (suc (suc (suc (suc (suc (suc (suc place)))))))) same =
    absurd (no_path_word (slice_get paths place)
    (ap (λ found. unwrap_or found 0) (sym (slice_get-map word_of paths place)) ∙ same))

-- the layout word of a cell is that of its shape
bits_are : {heap : Heap} {cell : Cell} {words : List ℕ} → HasSizes heap → HasCell heap cell words
    → layout_bits cell.layout ≡ layout_word heap.paths cell.header.shape
bits_are {heap} {cell} sized has =
    let reads = (has_is_cell has).reads in
    same_Some _ _ (sym reads.of_shape ∙ slice_get-layouts_in heap.space heap.words cell.header.shape reads.known
    ∙ sized.layouts cell.header.shape reads.known)

-- the layout of a box
abbrev box_layout : LayoutWord
box_layout = record { kind = kind.Boxed; cap = 0; used = 0; raw = 0 }

-- a cell of this shape is a box
box_of_shape : {heap : Heap} {cell : Cell} {words : List ℕ} → HasSizes heap → HasCell heap cell words
    → cell.header.shape ≡ box_shape → cell.layout.kind ≡ kind.Boxed
box_of_shape {heap} {cell} sized has same =
    let bits : layout_bits cell.layout ≡ 6 = bits_are sized has ∙ ap (layout_word heap.paths) same in
    ap (λ (layout : LayoutWord). layout.kind)
    (same_layout cell.layout box_layout (has_is_cell has).reads.is_layout
    (record { cap = refl; used = refl; raw = refl }) bits)

-- a layout of a box has this word
box_bits : (layout : LayoutWord) → IsLayoutOfKind kind.Boxed layout → layout.kind ≡ kind.Boxed → layout_bits layout ≡ 6
box_bits layout none same =
    ap (λ (k : Kind). layout_bits (record layout { kind = k })) same ∙ omega (arith, none.cap, none.used, none.raw)

-- a box is of this shape
shape_of_box : {heap : Heap} {cell : Cell} {words : List ℕ} → HasSizes heap → HasCell heap cell words
    → cell.layout.kind ≡ kind.Boxed → cell.header.shape ≡ box_shape
shape_of_box {heap} {cell} sized has same =
    let none : IsLayoutOfKind kind.Boxed cell.layout =
    subst (λ (k : Kind). IsLayoutOfKind k cell.layout) same (has_is_cell has).reads.is_layout in
    box_word_is heap.paths cell.header.shape (sym (bits_are sized has) ∙ box_bits cell.layout none same)

-- a box is told
pub told_box : {heap : Heap} {cell : Cell} {words : List ℕ} → HasSizes heap → HasCell heap cell words
    → cell.layout.kind ≡ kind.Boxed → is_box_at heap (Some cell.at) ≡ true
told_box {heap} {cell} sized has same = eq-eqb (shape_at heap cell.at) box_shape
    (shape_is has ∙ shape_of_box sized has same)

-- an object is told from it
pub told_object : {heap : Heap} {cell : Cell} {words : List ℕ} → HasSizes heap → HasCell heap cell words
    → IsTrue (is_object_kind cell.layout.kind) → is_box_at heap (Some cell.at) ≡ false
told_object {heap} {cell} sized has object =
    ne_eqb (shape_at heap cell.at) box_shape
    (λ same. false≢true (sym (ap is_object_kind (box_of_shape sized has (sym (shape_is has) ∙ same))) ∙ object))
