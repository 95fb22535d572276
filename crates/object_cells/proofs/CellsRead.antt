-- Cells as they are read: their words by address, their layouts, and which shape is that of boxes.
use Rattle.std.proofs.Common.{◌≡◌, ℕ, ◌+◌, ◌-◌, ◌≤◌, ◌<◌, List, length, map, drop, Some}
use Rattle.std.proofs.Common.{◌%◌, Option}
use Rattle.std.proofs.Common.{slice_get, refl, sym, ◌∙◌, ap, subst, arith, length-append, unwrap_or}
use Rattle.std.proofs.lemmas.List.{length-map}
use Rattle.std.proofs.lemmas.Option.{slice_get_within, slice_get_past, same_Some}
use Rattle.tagged_word.specs.declared.layout.Kind.TheVariants as kind
use Rattle.heap_model.specs.Types.{Path, Cell}
use Rattle.tagged_word.specs.Layouts.{layout_bits, kind_number}
use Rattle.tagged_word.specs.Shapes.{box_shape, first_path_shape, fixed_layout_words}
use Rattle.tagged_word.proofs.Layouts.{parts, same_kind}
use Rattle.page_space.specs.Sizes.{AreWithin}
use Rattle.page_space.specs.Extents.{Space, layouts_start, marks_start}
use Rattle.page_space.proofs.Limits.{words_count_most}
use Rattle.page_space.proofs.Starts.{layouts_start_is, marks_start_is, board_start_is, words_count_is}
use Rattle.std.proofs.Common.{Fits, w32}
use Rattle.shape_tree.specs.ShapeLayouts.{layout_of, layout_word, layout_words}
use Rattle.cell_layout.proofs.CellsThere.{slice_get-layouts_in}
use Rattle.heap_model.specs.Heaps.{Heap, HasCell}
use Rattle.heap_model.specs.Slots.{IsPlace}
use Rattle.heap_model.specs.Kinds.{HasWord}
use Rattle.heap_model.specs.Wholeness.{HasSizes, Whole}
use Rattle.heap_model.proofs.CellsApart.{has_is_cell, first_of_cell, used_few}
use Rattle.heap_model.proofs.CellWords.{slice_get-take, slice_get-drop, words_are_size}
use Rattle.heap_model.proofs.WordsAlike.{cell_below_roots}

-- a word of a cell stands at its address
pub word_stands : {heap : Heap} {cell : Cell} {words : List ℕ} (k word : ℕ) → HasCell heap cell words
    → HasWord words k word → slice_get heap.words (cell.at + k) ≡ Some word
word_stands {heap} {cell} {words} k word has there =
    let size : ℕ = cell.at + cell.size - cell.at in
    let below : k < size = omega (arith, slice_get_within words k word there, words_are_size has) in
    sym (slice_get-drop cell.at heap.words k (cell.at + k) refl)
    ∙ sym (slice_get-take size (drop cell.at heap.words) k below)
    ∙ ap (λ all. slice_get all k) has.words_are ∙ there

-- so what is read there is that word
pub word_is : {heap : Heap} {cell : Cell} {words : List ℕ} (k word read at : ℕ) → HasCell heap cell words → cell.at ≡ at
    → HasWord words k word → slice_get heap.words (at + k) ≡ Some read → read ≡ word
word_is {heap} k word read at has stands there reads =
    same_Some read word (sym reads ∙ ap (λ from. slice_get heap.words (from + k)) (sym stands)
    ∙ word_stands k word has there)

-- no address of a heap is past 32 bits
pub fits_address : {space : Space} {at : ℕ} → at < marks_start space → AreWithin space.sizes space.variables
    → Fits w32 at
fits_address {space} below within =
    omega (arith, words_count_most space within, marks_start_is space, board_start_is space, words_count_is space)

-- a cell ends before the marks
pub cell_before_marks : {heap : Heap} {cell : Cell} {words : List ℕ} → HasSizes heap → HasCell heap cell words
    → cell.at + cell.size ≤ marks_start heap.space
cell_before_marks sized has = omega (arith, (has_is_cell has).reads.there, sized.words)

-- and before the layout words
pub cell_before_layouts : {heap : Heap} {cell : Cell} {words : List ℕ} → Whole heap → HasCell heap cell words
    → cell.at + cell.size ≤ layouts_start heap.space
cell_before_layouts {heap} whole has =
    omega (arith, cell_below_roots (used_few whole.rows) has, layouts_start_is heap.space)

-- a cell begins before the marks
pub cell_at_before_marks : {heap : Heap} {cell : Cell} {words : List ℕ} → HasSizes heap → HasCell heap cell words
    → cell.at < marks_start heap.space
cell_at_before_marks sized has = omega (arith, cell_before_marks sized has, (first_of_cell has).below)

-- so does an object's, where it stands
pub place_before_marks : {heap : Heap} {number at : ℕ} → HasSizes heap → IsPlace heap number at
    → at < marks_start heap.space
place_before_marks {heap} sized place =
    subst (λ n. n < marks_start heap.space) place.stands (cell_at_before_marks sized place.has)

-- so does each word of a cell at an address
pub word_before_marks : {heap : Heap} {cell : Cell} {words : List ℕ} {at : ℕ} (k word : ℕ) → HasSizes heap
    → HasCell heap cell words → cell.at ≡ at → HasWord words k word → at + k < marks_start heap.space
word_before_marks {words = words} k word sized has stands there =
    omega (arith, slice_get_within words k word there, words_are_size has, cell_before_marks sized has, stands)

-- the layout of a cell is that of its shape
pub layout_stands : {heap : Heap} {cell : Cell} {words : List ℕ} → HasSizes heap → HasCell heap cell words
    → layout_bits cell.layout ≡ layout_word heap.paths cell.header.shape
layout_stands {heap} {cell} sized has =
    let reads = (has_is_cell has).reads in
    same_Some _ _ (sym reads.of_shape ∙ slice_get-layouts_in heap.space heap.words cell.header.shape reads.known
    ∙ sized.layouts cell.header.shape reads.known)

-- the number of its kind is the rest of its layout word by 16
kind_stands : {heap : Heap} {cell : Cell} {words : List ℕ} → HasCell heap cell words
    → layout_bits cell.layout % 16 ≡ kind_number cell.layout.kind
kind_stands {cell = cell} has =
    (parts (layout_bits cell.layout) cell.layout (has_is_cell has).reads.is_layout refl).number

-- a cell of the shape of boxes is a box
pub shape_is_box : {heap : Heap} {cell : Cell} {words : List ℕ} → HasSizes heap → HasCell heap cell words
    → cell.header.shape ≡ box_shape → cell.layout.kind ≡ kind.Boxed
shape_is_box {heap} {cell} sized has is =
    let word : layout_bits cell.layout ≡ 6 = layout_stands sized has ∙ ap (layout_word heap.paths) is in
    same_kind cell.layout.kind kind.Boxed (sym (kind_stands has) ∙ ap (λ n. n % 16) word)

-- a shape that is not in use has the layout word 0
word_past : (paths : List Path) (shape : ℕ) → first_path_shape + length paths ≤ shape → layout_word paths shape ≡ 0
word_past paths shape past =
    let words : List ℕ = map (λ path. layout_bits (layout_of path)) paths in
    let eight : length fixed_layout_words ≡ 8 = refl in
    let long : length (layout_words paths) ≤ shape =
    omega (arith, length-append fixed_layout_words words, length-map paths (λ path. layout_bits (layout_of path))) in
    ap (λ (found : Option ℕ). unwrap_or found 0) (slice_get_past (layout_words paths) shape long)
