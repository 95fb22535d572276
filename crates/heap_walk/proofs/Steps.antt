-- A step of a walk along cells that stand in a row: it comes to the first of them, or the row has ended.
use Rattle.std.proofs.Common.{◌≡◌, ◌≢◌, ℕ, ◌+◌, ◌<◌, ◌≤◌, inl, inr, List, [], ◌∷◌, Some, slice_get}
use Rattle.std.proofs.Common.{refl, ◌∙◌, ap, subst, arith}
use Rattle.page_space.specs.Extents.{Space}
use Rattle.cell_layout.specs.Cells.{IsRow}
use Rattle.cell_layout.proofs.OneCell.{cells_have_words}
use Rattle.cell_layout.proofs.Rows.{row_begins, row_of_none, row_ascends, first_ends}
use Rattle.heap_model.specs.Types.{Cell}
use Rattle.heap_model.proofs.RowEnds.{first_word_counts}
use Rattle.heap_walk.specs.Walks.{StandAhead, IsNext}

-- the first of the cells ahead, which has some words and ends where the row does, or before
pub record IsFirst (space : Space) (words : List ℕ) (at limit row_end : ℕ) (cells : List Cell) : Type 0 where
  pub cell : Cell
  pub is : IsNext space words at limit row_end cells cell
  pub some : 1 ≤ cell.size
  pub within : at + cell.size ≤ row_end

-- before its limit, and where no 0 stands, a row goes on
pub row_goes_on : {space : Space} {words : List ℕ} {at limit row_end : ℕ} (cells : List Cell)
    → StandAhead space words at limit row_end cells → at < limit → slice_get words at ≢ Some 0
    → IsFirst space words at limit row_end cells
row_goes_on {words = words} [] ahead below counts =
    let ended = row_of_none ahead.stand in
    elim ahead.ends.stops [
      | inl at_limit ↦ absurd (omega (arith, ended, at_limit, below))
      | inr zero ↦ absurd (counts (ap (slice_get words) ended ∙ zero))
    ]
row_goes_on {space} {words} {at} {limit} {row_end} (cell ∷ more) ahead below counts =
    let begins = row_begins ahead.stand in
    let Rest : ℕ → Type 0 = λ from. IsRow space words (from + cell.size) row_end more in
    record {
      cell = cell;
      is = record {
        more = more;
        are = refl;
        stands = record { is_cell = begins.is_cell; stands = begins.starts };
        ahead = record { stand = subst Rest begins.starts begins.rest; ends = ahead.ends };
      };
      some = (cells_have_words space words cell begins.is_cell).0;
      within = (first_ends space words at row_end cell more begins).1;
    }

-- at its limit a row has ended
pub ends_at_limit : {space : Space} {words : List ℕ} {at limit row_end : ℕ} (cells : List Cell)
    → StandAhead space words at limit row_end cells → limit ≤ at → at ≡ row_end
ends_at_limit {space} {words} {at} {limit} {row_end} cells ahead past =
    omega (arith, row_ascends space words at row_end cells ahead.stand, ahead.ends.within, past)

-- and so it has where a 0 stands, since no cell begins with it
pub ends_at_zero : {space : Space} {words : List ℕ} {at limit row_end : ℕ} (cells : List Cell)
    → StandAhead space words at limit row_end cells → slice_get words at ≡ Some 0 → at ≡ row_end
ends_at_zero [] ahead zero = row_of_none ahead.stand
ends_at_zero {space} {words} (cell ∷ more) ahead zero =
    let begins = row_begins ahead.stand in
    absurd (first_word_counts space words cell begins.is_cell (ap (slice_get words) begins.starts ∙ zero))
