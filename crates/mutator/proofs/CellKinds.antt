-- The kind of a cell by the shape in its header.
use Rattle.std.proofs.Common.{◌≡◌, ℕ, zero, suc, ◌+◌, ◌%◌, ◌≤◌, ◌<◌, List, length, map, Option}
use Rattle.std.proofs.Common.{refl, sym, ◌∙◌, ap, arith, inl, inr, length-append, unwrap_or}
use Rattle.std.proofs.lemmas.List.{length-map}
use Rattle.std.proofs.lemmas.Bool.{cases_lt}
use Rattle.std.proofs.lemmas.Option.{slice_get_past, same_Some}
use Rattle.heap_model.specs.Types.{Kind, LayoutWord, Path, Cell}
use Rattle.tagged_word.specs.declared.layout.Kind.TheVariants as kind
use Rattle.tagged_word.specs.Layouts.{layout_bits, kind_number}
use Rattle.tagged_word.specs.Shapes.{first_path_shape, fixed_layout_words}
use Rattle.tagged_word.proofs.Layouts.{parts}
use Rattle.shape_tree.specs.Shapes.{IsPathShape}
use Rattle.shape_tree.specs.ShapeLayouts.{layout_of, layout_word, layout_words}
use Rattle.cell_layout.proofs.CellsThere.{slice_get-layouts_in}
use Rattle.heap_model.specs.Heaps.{Heap, HasCell}
use Rattle.heap_model.specs.Wholeness.{HasSizes}
use Rattle.heap_model.proofs.CellsApart.{has_is_cell}
use Rattle.heap_model.proofs.PathLayouts.{layout_is}

-- the number of a cell's kind is the rest of the layout word of its shape by 16
kind_word : {heap : Heap} {cell : Cell} {words : List ℕ} → HasSizes heap → HasCell heap cell words
    → layout_word heap.paths cell.header.shape % 16 ≡ kind_number cell.layout.kind
kind_word {heap} {cell} sized has =
    let reads = (has_is_cell has).reads in
    let shape : ℕ = cell.header.shape in
    let word : layout_bits cell.layout ≡ layout_word heap.paths shape =
    same_Some _ _ (sym reads.of_shape ∙ slice_get-layouts_in heap.space heap.words shape reads.known
    ∙ sized.layouts shape reads.known) in
    ap (λ n. n % 16) (sym word) ∙ (parts (layout_bits cell.layout) cell.layout reads.is_layout refl).number

-- kinds are numbered from 1 on
kind_number_least : (one : Kind) → 1 ≤ kind_number one
kind_number_least kind.Plain = omega arith
kind_number_least kind.List = omega arith
kind_number_least kind.Weak = omega arith
kind_number_least kind.Store = omega arith
kind_number_least kind.Table = omega arith
kind_number_least kind.Boxed = omega arith
kind_number_least kind.Filler = omega arith
kind_number_least kind.Gap = omega arith

-- the layout word of a shape that is not in use is 0
word_past : (paths : List Path) (shape : ℕ) → first_path_shape + length paths ≤ shape → layout_word paths shape ≡ 0
word_past paths shape past =
    let words : List ℕ = map (λ path. layout_bits (layout_of path)) paths in
    let eight : length fixed_layout_words ≡ 8 = refl in
    let long : length (layout_words paths) ≤ shape =
    omega (arith, length-append fixed_layout_words words, length-map paths (λ path. layout_bits (layout_of path))) in
    ap (λ (found : Option ℕ). unwrap_or found 0) (slice_get_past (layout_words paths) shape long)

-- a cell with the shape of a path is a plain one
pub path_is_plain : {heap : Heap} {cell : Cell} {words : List ℕ} → HasSizes heap → HasCell heap cell words
    → first_path_shape ≤ cell.header.shape → cell.layout.kind ≡ kind.Plain
path_is_plain {heap} {cell} sized has from = elim (cases_lt cell.header.shape (first_path_shape + length heap.paths)) [
  | inl below ↦
      let path : IsPathShape heap.paths cell.header.shape = record { from = from; below = below } in
      ap (λ (layout : LayoutWord). layout.kind) (layout_is sized has path)
  | inr past ↦
      absurd (omega (
        arith,
        word_past heap.paths cell.header.shape past,
        kind_word sized has,
        kind_number_least cell.layout.kind,
      ))
]

-- the fixed shape whose layout word has this number
fixed_number : (paths : List Path) (shape n : ℕ) → shape < first_path_shape → layout_word paths shape % 16 ≡ n → 1 ≤ n
    → (shape + 1 ≡ n) × (2 ≤ n)
fixed_number paths zero n below is some = absurd (omega (arith, is))
fixed_number paths (suc zero) n below is some = (is, omega (arith, is))
fixed_number paths (suc (suc zero)) n below is some = (is, omega (arith, is))
fixed_number paths (suc (suc (suc zero))) n below is some = (is, omega (arith, is))
fixed_number paths (suc (suc (suc (suc zero)))) n below is some = (is, omega (arith, is))
fixed_number paths (suc (suc (suc (suc (suc zero))))) n below is some = (is, omega (arith, is))
fixed_number paths (suc (suc (suc (suc (suc (suc zero)))))) n below is some = (is, omega (arith, is))
fixed_number paths (suc (suc (suc (suc (suc (suc (suc zero))))))) n below is some = (is, omega (arith, is))
fixed_number paths (suc (suc (suc (suc (suc (suc (suc (suc more)))))))) n below is some = absurd (omega arith)

-- a cell of a fixed shape is not plain, and its kind has the next number
pub fixed_kind : {heap : Heap} {cell : Cell} {words : List ℕ} → HasSizes heap → HasCell heap cell words
    → cell.header.shape < first_path_shape
    → (cell.header.shape + 1 ≡ kind_number cell.layout.kind) × (2 ≤ kind_number cell.layout.kind)
fixed_kind {heap} {cell} sized has below =
    fixed_number heap.paths cell.header.shape (kind_number cell.layout.kind) below (kind_word sized has)
    (kind_number_least cell.layout.kind)

-- one that is not has a fixed shape, that before the number of its kind
pub other_has_fixed : {heap : Heap} {cell : Cell} {words : List ℕ} (of : Kind) → HasSizes heap → HasCell heap cell words
    → cell.layout.kind ≡ of → 2 ≤ kind_number of → cell.header.shape + 1 ≡ kind_number of
other_has_fixed {cell = cell} of sized has is other = elim (cases_lt cell.header.shape first_path_shape) [
  | inl below ↦ (fixed_kind sized has below).0 ∙ ap kind_number is
  | inr from ↦ absurd (omega (arith, ap kind_number is, ap kind_number (path_is_plain sized has from)))
]
