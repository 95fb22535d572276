-- The free cell at the end of a page stands there.
use Rattle.std.proofs.Common.{◌≡◌, ℕ, zero, suc, ◌+◌, ◌-◌, ◌≤◌, ◌<◌}
use Rattle.std.proofs.Common.{inl, inr, List, [], ◌∷◌, Some}
use Rattle.std.proofs.Common.{length, slice_get, slice_set, nat_lt, if◌then◌else◌, refl, sym, ◌∙◌, ap, subst, arith}
use Rattle.std.proofs.Common.{length-set}
use Rattle.std.proofs.lemmas.Bool.{cases_lt, lt-ltb, le-ltb}
use Rattle.std.proofs.lemmas.Option.{none-some, same_Some}
use Rattle.tagged_word.specs.Cells.{cell_words_most, length_offset}
use Rattle.tagged_word.specs.Headers.{header_bits}
use Rattle.page_space.specs.Extents.{Space, CellsEndAt}
use Rattle.cell_layout.specs.Cells.{IsCell, IsRow, none}
use Rattle.object_graph.proofs.Lists.{slice_get-set_same, slice_get-set_other}
use Rattle.heap_model.specs.Types.{Cell}
use Rattle.heap_model.proofs.Rewrites.{row_of_one}
use Rattle.write_barrier.specs.FreeCells.{filler_header, with_free_cell}
use Rattle.write_barrier.specs.MutatorState.{gap_header}
use Rattle.write_barrier.proofs.FreeCells.{HasFreeLayouts, PutAs, free_cell, free_cell_put, put_as}

-- the free cell over the words from an address up to another, if there are any
abbrev pub end_cells : ℕ → ℕ → List Cell
end_cells from to = if nat_lt from to then (free_cell from (to - from) ∷ []) else []

-- a word that is put where it stands changes nothing
set_there : (words : List ℕ) (at word : ℕ) → slice_get words at ≡ Some word → slice_set words at word ≡ words
set_there [] zero word is = absurd (none-some word is)
set_there [] (suc at) word is = absurd (none-some word is)
set_there (first ∷ words) zero word is = ap (λ (one : ℕ). one ∷ words) (sym (same_Some first word is))
set_there (first ∷ words) (suc at) word is = ap (λ (more : List ℕ). first ∷ more) (set_there words at word is)

-- So does a free cell that is put where one was put.
put_again : (words put : List ℕ) (at count : ℕ) → 1 ≤ count → at + count ≤ length words
    → length put ≡ length words
    → ((a : ℕ) → at ≤ a → a < at + count → slice_get words a ≡ slice_get (with_free_cell put at count) a)
    → with_free_cell words at count ≡ words
put_again words put at count some long same_long alike = elim (put_as put at count) [
  | PutAs.none is same ↦ absurd (omega (arith, some, is))
  | PutAs.filler is same ↦
      let header : slice_get words at ≡ Some (header_bits filler_header) =
      alike at (omega arith) (omega (arith, some)) ∙ ap (λ all. slice_get all at) same
      ∙ slice_get-set_same put at (header_bits filler_header) (omega (arith, long, same_long, some)) in
      elim (put_as words at count) [
        | PutAs.none no_words same_too ↦ same_too
        | PutAs.filler one same_too ↦ same_too ∙ set_there words at (header_bits filler_header) header
        | PutAs.gap two same_too ↦ absurd (omega (arith, is, two))
      ]
  | PutAs.gap two same ↦
      let first : List ℕ = slice_set put at (header_bits gap_header) in
      let header : slice_get words at ≡ Some (header_bits gap_header) =
      alike at (omega arith) (omega (arith, some)) ∙ ap (λ all. slice_get all at) same
      ∙ slice_get-set_other first (at + length_offset) at count (λ there. omega (arith, there))
      ∙ slice_get-set_same put at (header_bits gap_header) (omega (arith, long, same_long, some)) in
      let counted : slice_get words (at + length_offset) ≡ Some count =
      alike (at + length_offset) (omega arith) (omega (arith, two))
      ∙ ap (λ all. slice_get all (at + length_offset)) same
      ∙ slice_get-set_same first (at + length_offset) count
      (omega (arith, long, same_long, two, length-set put at (header_bits gap_header))) in
      elim (put_as words at count) [
        | PutAs.none no_words same_too ↦ same_too
        | PutAs.filler one same_too ↦ absurd (omega (arith, one, two))
        | PutAs.gap more same_too ↦
            same_too
            ∙ ap (λ (all : List ℕ). slice_set all (at + length_offset) count)
            (set_there words at (header_bits gap_header) header)
            ∙ set_there words (at + length_offset) count counted
      ]
]

-- So a free cell stands where the words are those of one that was put.
pub free_there : {space : Space} {words : List ℕ} (put : List ℕ) (at count end : ℕ) → HasFreeLayouts space words
    → CellsEndAt space at end → 1 ≤ count → count ≤ cell_words_most → at + count ≤ end
    → at + count ≤ length words → length put ≡ length words
    → ((a : ℕ) → at ≤ a → a < at + count → slice_get words a ≡ slice_get (with_free_cell put at count) a)
    → IsCell space words (free_cell at count)
free_there {space} {words} put at count end has stands some few within long same_long alike =
    subst (λ (all : List ℕ). IsCell space all (free_cell at count))
    (put_again words put at count some long same_long alike)
    (free_cell_put space words at count end has stands some few within long)

-- So the words from an address to the end of a page are a row of free cells.
pub end_row : {space : Space} {words : List ℕ} (put : List ℕ) (from to : ℕ) → HasFreeLayouts space words
    → from ≤ to → to ≤ from + cell_words_most → (from < to → CellsEndAt space from to) → to ≤ length words
    → length put ≡ length words
    → ((a : ℕ) → from ≤ a → a < to → slice_get words a ≡ slice_get (with_free_cell put from (to - from)) a)
    → IsRow space words from to (end_cells from to)
end_row {space} {words} put from to has ascends few stands long same_long alike = elim (cases_lt from to) [
  | inl some ↦
      let one : List Cell = free_cell from (to - from) ∷ [] in
      let is_cell = free_there put from (to - from) to has (stands some) (omega (arith, some)) (omega (arith, few))
      (omega (arith, ascends)) (omega (arith, ascends, long)) same_long
      (λ a above below. alike a above (omega (arith, below, ascends))) in
      subst (λ (cells : List Cell). IsRow space words from to cells)
      (sym (ap (λ test. if test then one else []) (lt-ltb from to some)))
      (row_of_one from to is_cell refl (omega (arith, ascends)))
  | inr over ↦
      let one : List Cell = free_cell from (to - from) ∷ [] in
      let same : from ≡ to = omega (arith, ascends, over) in
      subst (λ (cells : List Cell). IsRow space words from to cells)
      (sym (ap (λ test. if test then one else []) (le-ltb from to over)))
      (subst (λ (end : ℕ). IsRow space words from end []) same (none from))
]
