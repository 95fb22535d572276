-- The words that are read at the addresses of a cell are the cell's, and so is its shape.
use Rattle.std.proofs.Common.{◌≡◌, ℕ, ◌+◌, ◌-◌, ◌<◌, List, Some, drop, slice_get, unwrap_or, refl, sym}
use Rattle.std.proofs.Common.{◌∙◌, ap, arith}
use Rattle.std.proofs.Common.{Option, option_map}
use Rattle.std.specs.Option.{option_and_then}
use Rattle.std.proofs.lemmas.Option.{slice_get_within}
use Rattle.heap_model.specs.Types.{Header, Cell}
use Rattle.tagged_word.specs.Headers.{header_bits}
use Rattle.tagged_word.specs.Readings.{header_in, header_at}
use Rattle.tagged_word.proofs.Readings.{header_to}
use Rattle.heap_model.specs.Heaps.{Heap, HasCell}
use Rattle.heap_model.specs.Kinds.{HasWord}
use Rattle.heap_model.specs.Needs.{word_at, shape_at}
use Rattle.heap_model.proofs.CellsApart.{has_is_cell}
use Rattle.heap_model.proofs.CellWords.{slice_get-take, slice_get-drop, words_are_size}

-- the word of a cell at an offset stands at its address
pub word_of_cell : {heap : Heap} {cell : Cell} {words : List ℕ} (offset word : ℕ) → HasCell heap cell words
    → HasWord words offset word → word_at heap (cell.at + offset) ≡ word
word_of_cell {heap} {cell} {words} offset word has there =
    let size : ℕ = cell.at + cell.size - cell.at in
    let below : offset < size = omega (arith, slice_get_within words offset word there, words_are_size has) in
    let stands : slice_get heap.words (cell.at + offset) ≡ Some word =
    sym (slice_get-drop cell.at heap.words offset (cell.at + offset) refl)
    ∙ sym (slice_get-take size (drop cell.at heap.words) offset below)
    ∙ ap (λ all. slice_get all offset) has.words_are ∙ there in
    ap (λ found. unwrap_or found 0) stands

-- the shape at a cell is that of its header
pub shape_is : {heap : Heap} {cell : Cell} {words : List ℕ} → HasCell heap cell words
    → shape_at heap cell.at ≡ cell.header.shape
shape_is {heap} {cell} has =
    let reads = (has_is_cell has).reads in
    let there : header_at heap.words cell.at ≡ Some cell.header =
    ap (option_and_then header_in) reads.first ∙ header_to (header_bits cell.header) cell.header reads.is_header refl in
    ap (λ (found : Option Header). unwrap_or (option_map (λ (header : Header). header.shape) found) 0) there
