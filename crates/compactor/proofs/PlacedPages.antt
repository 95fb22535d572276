-- The pass of places: it begins a page, puts the place of one cell after another, and ends the page.
use Rattle.std.proofs.Common.{◌≡◌, ◌≢◌, ℕ, ◌+◌, ◌≤◌, ◌<◌, inl, inr, true, List, [], ◌∷◌, ◌++◌, Contains}
use Rattle.std.proofs.Common.{refl, sym, ◌∙◌, ap, subst, arith, append_assoc, append-nil}
use Rattle.std.proofs.lemmas.Bool.{cases_lt}
use Rattle.std.proofs.lemmas.List.Elements.{Contains-append_right}
use Rattle.tagged_word.proofs.Members.{first_in}
use Rattle.page_space.specs.Sizes.{page_words}
use Rattle.page_space.specs.Extents.{Space}
use Rattle.page_space.specs.RegionLaws.{IsSpace}
use Rattle.cell_layout.specs.Cells.{IsRow, none}
use Rattle.cell_layout.proofs.OneCell.{cells_have_words}
use Rattle.cell_layout.proofs.Rows.{BeginsWith, row_begins, row_push, row_ascends, one_row}
use Rattle.cell_layout.proofs.Rows.{cell_within, rows_part_around}
use Rattle.heap_model.specs.Types.{Cell}
use Rattle.heap_model.specs.Heaps.{Heap, Row, HasCell, words_of_cell}
use Rattle.heap_model.specs.Wholeness.{HasRows}
use Rattle.heap_walk.specs.Limits.{IsLimit}
use Rattle.heap_walk.specs.Walks.{StandAhead, IsNext}
use Rattle.compactor.specs.Tables.{Table, place_in}
use Rattle.compactor.specs.Sliding.{ArePlaced, ArePlacedBefore, IsPageRow, PlacesTo, is_kept, kept_words, page_start}
use Rattle.compactor.proofs.PageRows.{page_row, page_row_ends, page_row_stands, one_page_row}
use Rattle.compactor.proofs.Placing.{kept_few, slid_end_append, placed_append, placed_stay}

-- a row from an address to itself has no cells
pub no_cells : (space : Space) (words : List ℕ) (at end : ℕ) (cells : List Cell) → IsRow space words at end cells
    → at ≡ end → cells ≡ []
no_cells space words at end cells row same =
    let Ends : ℕ → Type 0 = λ to. IsRow space words at to cells in
    one_row space words at at cells [] (subst Ends (sym same) row) (none at)

-- the limit of a walk along a page is where its row ends
pub page_limit : {heap : Heap} {page limit : ℕ} {row : Row} → IsSpace heap.space → IsPageRow heap page row
    → IsLimit heap (page_start page) (page_start page + page_words) limit → row.end ≡ limit
page_limit {page = page} {row = row} limits is is_limit =
    omega (arith, page_row_ends limits is, is_limit.within, (is_limit.ends row is.1).within)

-- no place is put where a page begins
pub places_begin : {heap : Heap} {table : Table} (page limit : ℕ) → IsSpace heap.space → HasRows heap
    → page < heap.space.sizes.pages → IsLimit heap (page_start page) (page_start page + page_words) limit
    → PlacesTo heap table table page limit (page_start page) (page_start page)
places_begin {heap} page limit limits rows there is_limit =
    let (row, is) = page_row page limits rows there in
    record {
      bound = refl;
      row = row;
      is = is;
      ends = page_limit limits is is_limit;
      front = [];
      back = row.cells;
      part = refl;
      passed = none (page_start page);
      to_come = page_row_stands is;
      comes = refl;
      before = omega arith;
      placed = tt;
      others = λ a below. refl;
    }

module _ {heap : Heap} {old now : Table} {page limit next at : ℕ} (limits : IsSpace heap.space)
    (state : PlacesTo heap old now page limit next at) where
  -- the cells to come stand ahead
  pub places_ahead : StandAhead heap.space heap.words at limit state.row.end state.back
  places_ahead = record {
    stand = state.to_come;
    ends = record { within = omega (arith, state.ends); stops = inl state.ends };
  }

  -- the row ends where the page does
  ends_there : state.row.end ≡ page_start (page + 1)
  ends_there = page_row_ends limits state.is

  -- the walk has not come past its end
  pub places_within : at ≤ page_start (page + 1)
  places_within =
      omega (arith, row_ascends heap.space heap.words at state.row.end state.back state.to_come, ends_there)

  -- nor is it before its start
  pub places_from : page_start page ≤ at
  places_from = row_ascends heap.space heap.words (page_start page) at state.front state.passed

  module _ {cell : Cell} (is_next : IsNext heap.space heap.words at limit state.row.end state.back cell) where
    -- what is to come begins with the cell
    begins : BeginsWith heap.space heap.words at state.row.end cell is_next.more
    begins =
        row_begins (subst (λ (rest : List Cell). IsRow heap.space heap.words at state.row.end rest) is_next.are
        state.to_come)

    -- it ends where the page does, or before
    pub next_within : cell.at + cell.size ≤ page_start (page + 1)
    next_within =
        omega (
          arith,
          row_ascends heap.space heap.words (cell.at + cell.size) state.row.end is_next.more begins.rest,
          ends_there,
        )

    -- it is one of the heap
    pub next_has : HasCell heap cell (words_of_cell heap cell)
    next_has =
        let there : Contains state.back cell =
        subst (λ (rest : List Cell). Contains rest cell) (sym is_next.are) (first_in cell is_next.more) in
        record {
          row = state.row;
          in_region = state.is.1.among;
          used = state.is.1.used;
          in_row = subst (λ (all : List Cell). Contains all cell) (sym state.part)
              (Contains-append_right state.front state.back cell there);
          words_are = refl;
        }

    -- cells that were passed stand before it
    passed_below : (one : Cell) → Contains state.front one → one.at < cell.at
    passed_below one there =
        let within = cell_within heap.space heap.words (page_start page) at state.front one state.passed there in
        let parts = rows_part_around heap.space heap.words (page_start page) at state.front
        one state.passed there in
        omega (
          arith,
          within.1,
          begins.starts,
          (cells_have_words heap.space heap.words one parts.is_cell).0,
        )

    -- the place of the cell is put, if it has one
    pub cell_placed : {new : Table} {after : ℕ} → new.bound ≡ now.bound → after ≡ next + kept_words cell
        → (is_kept cell ≡ true → place_in new cell.at ≡ next)
        → ((a : ℕ) → a ≢ cell.at → place_in new a ≡ place_in now a)
        → PlacesTo heap old new page limit after (cell.at + cell.size)
    cell_placed {new} {after} bound moves own others = record {
      bound = bound ∙ state.bound;
      row = state.row;
      is = state.is;
      ends = state.ends;
      front = state.front ++ cell ∷ [];
      back = is_next.more;
      part = state.part ∙ ap (λ rest. state.front ++ rest) is_next.are
          ∙ sym (append_assoc state.front (cell ∷ []) is_next.more);
      passed = row_push heap.space heap.words (page_start page) state.front cell
          (subst (λ (to : ℕ). IsRow heap.space heap.words (page_start page) to state.front) (sym begins.starts)
          state.passed) begins.is_cell;
      to_come = begins.rest;
      comes = moves ∙ ap (λ n. n + kept_words cell) state.comes
          ∙ sym (slid_end_append (page_start page) state.front (cell ∷ []));
      before = omega (arith, moves, state.before, begins.starts, kept_few cell);
      placed = placed_append new (page_start page) state.front (cell ∷ [])
          (placed_stay now new (page_start page) state.front
          (λ one there. others one.at (λ same. omega (arith, same, passed_below one there))) state.placed)
          (λ kept. own kept ∙ state.comes, tt);
      others = λ a below.
          others a (λ same. omega (arith, same, below, places_from, begins.starts)) ∙ state.others a below;
    }

  -- where the walk is over the cells of the page have their places
  pub page_placed : at ≡ state.row.end → HasRows heap → ArePlacedBefore heap old page
      → ArePlacedBefore heap now (page + 1)
  page_placed over rows placed_before = record {
    bound = state.bound ∙ placed_before.bound;
    placed = λ before row below is. elim (cases_lt before page) [
      | inl earlier ↦
          placed_stay old now (page_start before) row.cells
          (λ cell there.
          let within = cell_within heap.space heap.words (page_start before) row.end row.cells cell
          (page_row_stands is) there in
          let parts = rows_part_around heap.space heap.words (page_start before) row.end
          row.cells cell (page_row_stands is) there in
          let some = (cells_have_words heap.space heap.words cell parts.is_cell).0 in
          state.others cell.at (omega (arith, within.1, some, page_row_ends limits is, earlier)))
          (placed_before.placed before row earlier is)
      | inr not_earlier ↦
          let same : page ≡ before = omega (arith, below, not_earlier) in
          let here : IsPageRow heap page row = subst (λ (one : ℕ). IsPageRow heap one row) (sym same) is in
          let none_left = no_cells heap.space heap.words at state.row.end state.back state.to_come over in
          let all : state.front ≡ row.cells =
          sym (append-nil state.front) ∙ ap (λ rest. state.front ++ rest) (sym none_left) ∙ sym state.part
          ∙ one_page_row limits state.is here in
          let Placed : List Cell → Type 0 = λ cells. ArePlaced now (page_start page) cells in
          subst (λ (one : ℕ). ArePlaced now (page_start one) row.cells) same (subst Placed all state.placed)
    ];
  }
