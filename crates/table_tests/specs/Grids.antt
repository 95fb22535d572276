-- A cycle on pages that are cut into cells of four words, with the numbers 0, 1, 2 and so on; the mutator has trimmed
-- the first of them.
use Rattle.std.specs.Prelude.{◌≡◌, ◌≤◌, ◌<◌, ◌*◌, ◌%◌, ◌==◌, ◌||◌, ℕ, Bool, true, List, [], Contains, IsTrue}
use Rattle.std.specs.Prelude.{Some, IfSome, length, slice_get, slice_index}
use Rattle.std.specs.List.{list_all, range_with_len}
use Rattle.atomic_table.specs.Seated.{TableId}
use Rattle.tagged_word.specs.Shapes.{shapes_most}
use Rattle.core_parts.specs.Lists.{is_in}
use Rattle.mark_world.specs.Cycles.{Cycle}
use Rattle.mark_world.specs.Pages.{EachFree, is_free}
use Rattle.shared_table.specs.declared.overview.Overview.{Overview}
use Rattle.shared_table.specs.declared.phase.Phase.TheVariants.{Mark}
use Rattle.shared_table.specs.Owned.{Own}
use Rattle.shared_table.specs.Seats.{Side}
use Rattle.marker.specs.Markers.{Marking}
use Rattle.table_tests.specs.CellPages.{are_cells}

-- The cells begin at multiples of 4, each of the first of them is published and born, and the mutator made none black.
pub record IsCut (count : ℕ) (cycle : Cycle) : Type 0 where
  pub aligned : (at : ℕ) → Contains cycle.starts at → at % 4 ≡ 0
  pub published : (cell : ℕ) → cell < count → Contains cycle.starts (4 * cell)
  pub born : (cell : ℕ) → cell < count → Contains cycle.born (4 * cell)
  pub mine : cycle.mine ≡ []

-- it is such a cycle, with as many cells as it says that objects were made
abbrev pub IsCutSo : Own → ℕ → Overview → Cycle → Type 0
IsCutSo own made main cycle = IsCut made cycle

-- whether the addresses of a list are 0, 4, 8 and so on
abbrev pub are_cut : List ℕ → ℕ → Bool
are_cut starts count = list_all (λ cell. slice_index starts cell == 4 * cell) (range_with_len 0 count)

-- whether a word is the header of a plain cell of one field: one whose field is raw, or one whose field is tagged
abbrev pub is_plain_head : ℕ → Bool
is_plain_head word = word == 34 || word == 38

-- whether each of the cells has such a header
abbrev pub have_plain_heads : List ℕ → ℕ → Bool
have_plain_heads words count =
    list_all (λ cell. is_plain_head (slice_index words (4 * cell))) (range_with_len 0 count)

-- pages: their words, the layout words, and where cells begin
pub record PageLists : Type 0 where
  pub words : List ℕ
  pub layouts : List ℕ
  pub starts : List ℕ

-- The pages are cut into so many cells of four words, each with one of the two headers. Their tagged slots refer to
-- none but these. The layout words of the two headers are in place.
pub record AreCutPages (pages : PageLists) (old count : ℕ) : Type 0 where
  pub words : length pages.words ≡ old
  pub layouts : length pages.layouts ≡ shapes_most
  pub room : 4 * count ≤ old
  pub one_raw : slice_index pages.layouts 8 ≡ 4369
  pub none_raw : slice_index pages.layouts 9 ≡ 273
  pub starts : length pages.starts ≡ count
  pub cut : are_cut pages.starts count ≡ true
  pub heads : have_plain_heads pages.words count ≡ true
  pub cells : are_cells old pages.words pages.layouts pages.starts ≡ true

-- a cycle is open in which these cells are born
pub record IsOpenGrid (main : Overview) (count : ℕ) : Type 0 where
  pub phase : main.phase ≡ Mark
  pub room : 4 * count ≤ main.old
  pub born : (cell : ℕ) → cell < count → IsTrue (is_in main.view.born (4 * cell))

-- So many of the cells were trimmed by the mutator, the first ones. No other start lies before their end. Each of the
-- others is a free start, and has one of the two headers.
pub record IsWholeGrid (main : Overview) (count trimmed : ℕ) : Type 0 where
  pub grid : IsOpenGrid main count
  pub few : trimmed ≤ count
  pub one_raw : slice_get main.layouts 8 ≡ Some 4369
  pub none_raw : slice_get main.layouts 9 ≡ Some 273
  pub aligned : EachFree main.view (λ start. (start % 4 ≡ 0) × (4 * trimmed ≤ start))
  pub free : (cell : ℕ) → trimmed ≤ cell → cell < count → IsTrue (is_free main.view (4 * cell))
  pub heads : (cell : ℕ) → trimmed ≤ cell → cell < count → IsTrue (is_plain_head (slice_index main.words (4 * cell)))

-- the main seat stays at its table, which has the same pages, and as many seats are out
pub record StaysLent (before after : Side) : Type 0 where
  pub table : after.table ≡ before.table
  pub old : after.main.old ≡ before.main.old
  pub out : after.main.out ≡ before.main.out

-- a marker's seat, if it has one, is of this table, and its list has room for so many words
pub record IsSeatedAt (table : TableId) (bound : ℕ) (marker : Marking) : Type 0 where
  pub seat : IfSome marker.seat (λ seat. seat.table ≡ table)
  pub room : marker.listing.bound ≡ bound
