-- A walk along the used row of a region.
use Rattle.std.proofs.Common.{◌≡◌, ℕ, ◌+◌, ◌≤◌, List, Contains, refl, sym, ◌∙◌, subst, arith}
use Rattle.tagged_word.proofs.Members.{first_in, rest_in}
use Rattle.page_space.specs.Extents.{roots_start}
use Rattle.page_space.specs.RegionLaws.{IsSpace}
use Rattle.cell_layout.specs.Cells.{IsRow}
use Rattle.heap_model.specs.Types.{Cell}
use Rattle.heap_model.specs.Heaps.{Heap, Row, HasCell, words_of_cell}
use Rattle.heap_model.specs.RegionRows.{StandsBetween, IsRowFrom}
use Rattle.heap_model.specs.Wholeness.{HasRows}
use Rattle.heap_model.proofs.RegionRows.{row_between, one_row_from}
use Rattle.heap_model.proofs.WordsAlike.{extent_below_roots}
use Rattle.heap_walk.specs.Limits.{EndsRow, IsLimit}
use Rattle.heap_walk.specs.Walks.{StandAhead, IsNext}

-- A walk along the used row of the region between two addresses has come to an address, where these cells are left.
pub record Walking (heap : Heap) (start end limit at : ℕ) : Type 0 where
  pub row : Row
  pub is : IsRowFrom heap start row
  pub region_ends : row.extent.start + row.extent.words ≡ end
  pub left : List Cell
  pub among : (cell : Cell) → Contains left cell → Contains row.cells cell
  pub ahead : StandAhead heap.space heap.words at limit row.end left

-- it begins where the region does
pub walk_begins : {heap : Heap} {start end limit : ℕ} → HasRows heap → StandsBetween heap.space start end
    → IsLimit heap start end limit → Walking heap start end limit start
walk_begins {heap} rows stands is_limit =
    let own = row_between rows.are stands in
    let Row_from : ℕ → Type 0 = λ from. IsRow heap.space heap.words from own.row.end own.row.cells in
    record {
      row = own.row;
      is = own.is;
      region_ends = own.ends;
      left = own.row.cells;
      among = λ cell there. there;
      ahead = record {
        stand = subst Row_from own.is.starts own.is.used.stands;
        ends = is_limit.ends own.row own.is;
      };
    }

module _ {heap : Heap} {start end limit at : ℕ} (walking : Walking heap start end limit at) where
  -- the region ends before the roots
  pub end_below_roots : end ≤ roots_start heap.space
  end_below_roots =
      omega (arith, extent_below_roots heap.space walking.row.extent walking.is.among, walking.region_ends)

  -- at the end of its row a walk has come to the end of the region's
  pub walk_ends : IsSpace heap.space → at ≡ walking.row.end → EndsRow heap start at
  walk_ends limits over row is = (one_row_from limits is walking.is).end ∙ sym over

  module _ {cell : Cell} (next : IsNext heap.space heap.words at limit walking.row.end walking.left cell) where
    -- a cell that a walk comes to is one of the heap
    pub next_has : HasCell heap cell (words_of_cell heap cell)
    next_has =
        let Has : List Cell → Type 0 = λ cells. Contains cells cell in
        record {
          row = walking.row;
          in_region = walking.is.among;
          used = walking.is.used;
          in_row = walking.among cell (subst Has (sym next.are) (first_in cell next.more));
          words_are = refl;
        }

    -- and the walk goes on after it
    pub walk_goes_on : Walking heap start end limit (at + cell.size)
    walk_goes_on =
        let Has : Cell → List Cell → Type 0 = λ one cells. Contains cells one in
        record {
          row = walking.row;
          is = walking.is;
          region_ends = walking.region_ends;
          left = next.more;
          among = λ one there. walking.among one (subst (Has one) (sym next.are) (rest_in cell next.more one there));
          ahead = next.ahead;
        }
