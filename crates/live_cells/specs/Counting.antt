-- A count of objects' cells, and how far it has come.
use Rattle.std.specs.Prelude.{◌≡◌, ℕ, ◌*◌, ◌≤◌, List, filter, length, sum_by, nat_lt}
use Rattle.heap_model.specs.Types.{Cell}
use Rattle.heap_model.specs.Heaps.{Heap, Row, AreRows}
use Rattle.live_cells.specs.Census.{objects_in, pairs_counted}

-- So many objects there are among these cells, and their weak maps count so many pairs together.
pub record CountsCellsAndPairs (heap : Heap) (cells : List Cell) (many pairs : ℕ) : Type 0 where
  pub objects : many ≡ length cells
  pub entries : pairs ≡ sum_by (λ cell. pairs_counted heap cell.layout.kind cell.at) cells

-- the objects' cells of rows that begin before an address
abbrev pub objects_before : List Row → ℕ → List Cell
objects_before rows to = filter (λ cell. nat_lt cell.at to) (objects_in rows)

-- The most pairs that are counted for a word of an object's cell: that of a weak map has 3 words, and its table, which
-- is no longer than a page, no more than 1,023 pairs.
abbrev pub word_pairs_most : ℕ
word_pairs_most = 341

-- A count has come to an address: these are the objects and the pairs of the cells that begin before it, and there are
-- no more than the words before it may have.
pub record CountsTo (heap : Heap) (to objects entries : ℕ) : Type 0 where
  pub counted : (rows : List Row) → AreRows heap rows
      → CountsCellsAndPairs heap (objects_before rows to) objects entries
  pub few_objects : objects ≤ to
  pub few_entries : entries ≤ word_pairs_most * to
