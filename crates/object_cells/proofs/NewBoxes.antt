-- A box that was made.
use Rattle.std.proofs.Common.{◌≡◌, ℕ, ◌+◌, [], ◌∷◌, Some, slice_get, refl, subst, arith}
use Rattle.tagged_word.specs.declared.layout.Kind.TheVariants as kind
use Rattle.tagged_word.specs.Headers.{header_bits}
use Rattle.heap_model.specs.Types.{Cell}
use Rattle.cell_layout.specs.Cells.{IsCell, IsRow}
use Rattle.heap_model.specs.Heaps.{Heap}
use Rattle.heap_model.specs.Needs.{box_words}
use Rattle.heap_model.specs.Wholeness.{HasSizes}
use Rattle.object_cells.specs.Formats.{box_header}
use Rattle.object_cells.proofs.RunCells.{bare_layout, AreOfRegion, run_cell}

-- the cell of a box
abbrev pub box_cell : ℕ → Cell
box_cell at = record { at = at; header = box_header; layout = bare_layout kind.Boxed; length = 0; size = box_words }

-- it stands where its header does, in words of one region
pub box_is_cell : (heap : Heap) (at : ℕ) → HasSizes heap → slice_get heap.words at ≡ Some (header_bits box_header)
    → AreOfRegion heap.space at (at + box_words) → IsCell heap.space heap.words (box_cell at)
box_is_cell heap at sized header region =
    run_cell heap (box_cell at) sized (record {
      is_header = record { shape = omega arith; object = omega arith };
      known = omega arith;
      is_layout = record { cap = refl; used = refl; raw = refl };
      laid = refl;
      sized = refl;
      some = omega arith;
      first = header;
      second = refl;
    }) region

-- alone it is the row of its words
pub row_of_box : (heap : Heap) (at end : ℕ) → IsCell heap.space heap.words (box_cell at) → at + box_words ≡ end
    → IsRow heap.space heap.words at end (box_cell at ∷ [])
row_of_box heap at end is ends =
    IsRow.next (box_cell at) end [] is
    (subst (λ n. IsRow heap.space heap.words (at + box_words) n []) ends (IsRow.none (at + box_words)))
