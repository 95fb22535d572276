-- The cells that come to stand in the words of a free run: the copy, and the free cell behind it.
use Rattle.std.proofs.Common.{◌≡◌, ℕ, ◌+◌, ◌-◌, ◌<◌, inl, inr, Bool, true, false, List, [], ◌∷◌, Contains}
use Rattle.std.proofs.Common.{Option, Some, IsTrue, slice_get, refl, sym, ◌∙◌, ap, subst, arith}
use Rattle.std.proofs.lemmas.Bool.{cases_lt}
use Rattle.tagged_word.specs.Cells.{has_length, length_by, is_free_kind}
use Rattle.tagged_word.proofs.Members.{first_in, one_in}
use Rattle.page_space.specs.Extents.{Space, CellsEndAt}
use Rattle.cell_layout.specs.Cells.{IsCell, IsRow}
use Rattle.cell_layout.proofs.Puts.{two_words}
use Rattle.cell_layout.proofs.Rows.{row_from}
use Rattle.heap_model.specs.Types.{Cell, Run}
use Rattle.heap_model.specs.Kinds.{HasNoNumber}
use Rattle.write_barrier.proofs.FreeCells.{free_cell, free_cell_is_free, free_cell_no_number, shapes_have_free}
use Rattle.write_barrier.proofs.FreeCells.{free_cell_within}
use Rattle.scav_copy.specs.declared.places.Home.{Home}
use Rattle.scav_copy.specs.Places.{Fixed}
use Rattle.scav_copy.proofs.Spots.{none_in}
use Rattle.scavenger.specs.Starts.{Start}
use Rattle.scavenger.specs.Filling.{StandsIn}
use Rattle.scavenger.specs.Paging.{promoted_words}
use Rattle.scavenger.proofs.PagesWords.{layout_stays, cell_stays}
use Rattle.scavenger.proofs.PagesTaking.{Taking, they_stand, say_layouts, as_many_now, beside_stays, rest_same}
use Rattle.scavenger.proofs.PagesTaking.{copy_same}

-- a length is read of equal words, where there is one
second_same : (long : Bool) (old new : Option ℕ) (n : ℕ) → (IsTrue long → new ≡ old)
    → length_by long old ≡ Some n → length_by long new ≡ Some n
second_same true old new n same is = same refl ∙ is
second_same false old new n same is = is

-- the cell at another address
abbrev pub placed_at : Cell → ℕ → Cell
placed_at cell at = record cell { at = at }

-- The free cells of these words: none where none are left, or one.
pub record IsRest (space : Space) (words : List ℕ) (from to : ℕ) : Type 0 where
  pub cells : List Cell
  pub row : IsRow space words from to cells
  pub each : (one : Cell) → Contains cells one → (from < to) × (one.at ≡ from) × (one.at + one.size ≡ to)
      × IsTrue (is_free_kind one.layout.kind) × HasNoNumber one
  pub first : from < to → StandsIn cells from

-- one free cell is the rest
rest_of_one : (space : Space) (words : List ℕ) (from to : ℕ) (one : Cell) → IsCell space words one → from < to
    → one.at ≡ from → one.at + one.size ≡ to → IsTrue (is_free_kind one.layout.kind) → HasNoNumber one
    → IsRest space words from to
rest_of_one space words from to one is_cell more at ends free no_number = record {
  cells = one ∷ [];
  row = row_from record {
    starts = at;
    is_cell = is_cell;
    rest = subst (λ (end : ℕ). IsRow space words (one.at + one.size) end []) ends (IsRow.none (one.at + one.size));
  };
  each = λ other there.
      subst (λ (cell : Cell). (from < to) × (cell.at ≡ from) × (cell.at + cell.size ≡ to)
      × IsTrue (is_free_kind cell.layout.kind) × HasNoNumber cell) (one_in one other there)
      (more, at, ends, free, no_number);
  first = λ less. record { cell = one; among = first_in one []; stands = at };
}

-- no words have no rest
rest_of_none : (space : Space) (words : List ℕ) (from to : ℕ) → from ≡ to → IsRest space words from to
rest_of_none space words from to same = record {
  cells = [];
  row = subst (λ (end : ℕ). IsRow space words from end []) same (IsRow.none from);
  each = λ one there. absurd (none_in one there);
  first = λ less. absurd (omega (arith, less, same));
}

module _ {start : Start} {fixed : Fixed} {words : List ℕ} {rows left : List (List Run)} {homes : List Home} {fill : ℕ}
    {cell free : Cell} {run : Run} (taking : Taking start fixed words rows left homes fill cell free run) where
  -- the copy is a cell of the words of afterwards
  pub copy_is_cell : IsCell start.heap.space (promoted_words words cell free run.at) (placed_at cell run.at)
  copy_is_cell =
      let space = start.heap.space in
      let now = promoted_words words cell free run.at in
      let they = they_stand taking in
      let was = taking.unmoved.is_cell in
      let reads = was.reads in
      let here = taking.is.is_cell in
      let back : run.at ≡ run.at + 0 = omega arith in
      let from : cell.at + 0 ≡ cell.at = omega arith in
      record {
        end = here.end;
        stands = subst (λ (at : ℕ). CellsEndAt space at here.end) they.free_at here.stands;
        reads = record {
          is_header = reads.is_header;
          first = ap (λ (at : ℕ). slice_get now at) back ∙ copy_same taking 0 (omega (arith, they.some))
              ∙ ap (λ (at : ℕ). slice_get words at) from ∙ reads.first;
          known = reads.known;
          is_layout = reads.is_layout;
          of_shape = layout_stays cell.header.shape (beside_stays taking 0 0 (omega arith) (inl (omega arith)))
              reads.known ∙ reads.of_shape;
          second = second_same (has_length cell.layout.kind) (slice_get words (cell.at + 1))
              (slice_get now (run.at + 1)) cell.length
              (λ long. copy_same taking 1 (omega (arith, two_words space words cell was long))) reads.second;
          sized = reads.sized;
          ends = omega (arith, here.reads.ends, they.enough, they.free_at);
          there = omega (
            arith,
            as_many_now taking,
            they.enough,
            they.in_page,
            they.long,
            they.pages,
            they.roots,
            they.marks,
          );
        };
      }

  -- what is left of the free cell is one, where that is something
  pub rest_is : IsRest start.heap.space (promoted_words words cell free run.at) (run.at + cell.size)
      (run.at + free.size)
  rest_is =
      let space = start.heap.space in
      let they = they_stand taking in
      let from : ℕ = run.at + cell.size in
      let count : ℕ = free.size - cell.size in
      elim (cases_lt cell.size free.size) [
        | inl more ↦
            let has = shapes_have_free space words start.heap.paths
            (say_layouts taking.begun taking.filled.copying) in
            let put = free_cell_within space words free from count has taking.is.is_cell
            (omega (arith, they.free_at)) (omega (arith, more)) (omega (arith, they.free_at, more)) in
            rest_of_one space (promoted_words words cell free run.at) from (run.at + free.size) (free_cell from count)
            (cell_stays (free_cell from count) (rest_same taking) put (omega arith) (omega (arith, more)))
            (omega (arith, more)) refl (omega (arith, more)) (free_cell_is_free from count)
            (free_cell_no_number from count)
        | inr none ↦
            rest_of_none space (promoted_words words cell free run.at) from (run.at + free.size)
            (omega (arith, none, they.enough))
      ]

  -- The cells in the words of the free one: the copy, and what is left.
  abbrev pub changed : List Cell
  changed = placed_at cell run.at ∷ rest_is.cells

  -- they stand in a row
  pub changed_row : IsRow start.heap.space (promoted_words words cell free run.at) free.at (free.at + free.size) changed
  changed_row =
      let space = start.heap.space in
      let now = promoted_words words cell free run.at in
      let they = they_stand taking in
      let end : run.at + free.size ≡ free.at + free.size = omega (arith, they.free_at) in
      row_from record {
        starts = sym they.free_at;
        is_cell = copy_is_cell;
        rest = subst (λ (to : ℕ). IsRow space now (run.at + cell.size) to rest_is.cells) end rest_is.row;
      }
