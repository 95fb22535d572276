-- Words over which a free cell was put: a row of a filler or a gap, or of no cell where they are none.
use Rattle.std.proofs.Common.{◌≡◌, ℕ, ◌+◌, ◌<◌, ◌≤◌, List, []}
use Rattle.std.proofs.Common.{◌∷◌, length, Contains, Some, slice_get}
use Rattle.std.proofs.Common.{inl, inr, refl, ◌∙◌, ap, subst, arith, length-set}
use Rattle.std.specs.Prelude.{slice_set}
use Rattle.std.proofs.lemmas.Bool.{cases_lt}
use Rattle.tagged_word.specs.Headers.{header_bits}
use Rattle.tagged_word.specs.Cells.{length_offset}
use Rattle.tagged_word.proofs.Members.{one_in}
use Rattle.object_graph.proofs.Lists.{slice_get-set_same, slice_get-set_other}
use Rattle.heap_model.specs.Types.{Cell}
use Rattle.cell_layout.specs.Cells.{IsCell, IsRow}
use Rattle.cell_layout.proofs.OneCell.{cells_have_words}
use Rattle.heap_model.specs.Heaps.{Heap}
use Rattle.heap_model.proofs.BoundHeaps.{none_in}
use Rattle.heap_model.proofs.CellsApart.{has_is_cell}
use Rattle.heap_model.proofs.Rewrites.{row_of_one}
use Rattle.write_barrier.specs.MutatorState.{gap_header}
use Rattle.write_barrier.specs.FreeCells.{filler_header, with_free_cell}
use Rattle.write_barrier.proofs.FreeCells.{PutAs, put_as, beside_free_cell}
use Rattle.array_trim.proofs.StorePieces.{HadCell, filler_cell, gap_cell, filler_read, gap_read, stands_inside}
use Rattle.array_trim.proofs.TrimmedCells.{IsFreeCell}

-- a word elsewhere stays
pub covered_stays : (words : List ℕ) (at count a : ℕ) → (at ≤ a → a < at + count → ⊥)
    → slice_get (with_free_cell words at count) a ≡ slice_get words a
covered_stays words at count a outside = beside_free_cell words at count a (elim (cases_lt a at) [
  | inl before ↦ inl before
  | inr behind ↦ elim (cases_lt a (at + count)) [
    | inl inside ↦ absurd (outside behind inside)
    | inr beyond ↦ inr beyond
  ]
])

-- free cells stand in a row from an address to another
pub record IsCovered (heap : Heap) (from to : ℕ) : Type 0 where
  pub cells : List Cell
  pub row : IsRow heap.space heap.words from to cells
  pub free : (one : Cell) → Contains cells one → IsFreeCell one

-- one free cell does
covered_by_one : {new : Heap} (cell : Cell) (from to : ℕ) → IsCell new.space new.words cell
    → IsFreeCell cell → cell.at ≡ from → cell.at + cell.size ≡ to → IsCovered new from to
covered_by_one cell from to is_cell free at ends = record {
  cells = cell ∷ [];
  row = row_of_one from to is_cell at ends;
  free = λ one among. subst IsFreeCell (one_in cell one among) free;
}

-- so they do where they were put in the words of an old cell
pub covering : {old new : Heap} {stood : Cell} (words : List ℕ) (at count : ℕ) → HadCell old new stood
    → new.words ≡ with_free_cell words at count → length words ≡ length old.words → stood.at ≤ at
    → at + count ≤ stood.at + stood.size → IsCovered new at (at + count)
covering {old} {new} {stood} words at count had are long from below =
    let was = has_is_cell had.has in
    let few = (cells_have_words old.space old.words stood was).1 in
    let there = was.reads.there in
    elim (put_as words at count) [
      | PutAs.none is same ↦ let none_more : at ≡ at + count = omega (arith, is) in record {
        cells = [];
        row = subst (λ end. IsRow new.space new.words at end []) none_more (IsRow.none at);
        free = λ one among. absurd (none_in one among);
      }
      | PutAs.filler is same ↦
          let header : slice_get new.words at ≡ Some (header_bits filler_header) =
          ap (λ all. slice_get all at) (are ∙ same)
          ∙ slice_get-set_same words at (header_bits filler_header) (omega (arith, there, long, below, is)) in
          let is_cell = stands_inside (filler_cell at) had (filler_read at header) from (omega (arith, below, is)) in
          covered_by_one (filler_cell at) at (at + count) is_cell (record { of_kind = inl refl; no_number = refl }) refl
          (omega (arith, is))
      | PutAs.gap some same ↦
          let first : List ℕ = slice_set words at (header_bits gap_header) in
          let first_long : length first ≡ length words = length-set words at (header_bits gap_header) in
          let header : slice_get new.words at ≡ Some (header_bits gap_header) =
          ap (λ all. slice_get all at) (are ∙ same)
          ∙ slice_get-set_other first (at + length_offset) at count (λ there. omega (arith, there))
          ∙ slice_get-set_same words at (header_bits gap_header) (omega (arith, there, long, below, some)) in
          let counted : slice_get new.words (at + 1) ≡ Some count =
          ap (λ all. slice_get all (at + 1)) (are ∙ same)
          ∙ slice_get-set_same first (at + length_offset) count (omega (arith, there, long, first_long, below, some)) in
          let reads = gap_read at count header counted some (omega (arith, few, from, below)) in
          let is_cell = stands_inside (gap_cell at count) had reads from below in
          covered_by_one (gap_cell at count) at (at + count) is_cell (record { of_kind = inr refl; no_number = refl })
          refl refl
    ]
