-- A sweep along the row of a region: how it begins, that the cells to come stand as they did, and how it ends.
use Rattle.std.proofs.Common.{◌≡◌, ℕ, ◌+◌, ◌≤◌, inl, inr, List, [], ◌∷◌, Contains, slice_get}
use Rattle.std.proofs.Common.{refl, sym, ◌∙◌, subst, arith}
use Rattle.std.proofs.lemmas.Bool.{cases_lt}
use Rattle.std.proofs.lemmas.List.Elements.{All-weaker, All-contains_itself}
use Rattle.tagged_word.specs.Shapes.{shapes_most}
use Rattle.page_space.specs.Extents.{Space, layouts_start}
use Rattle.page_space.proofs.Starts.{layouts_start_is}
use Rattle.cell_layout.specs.CellLaws.{ReadsAlike}
use Rattle.cell_layout.specs.Cells.{IsRow, none, layouts_in}
use Rattle.cell_layout.proofs.CellsThere.{slice_get-layouts_in, slice_get-layouts_past}
use Rattle.cell_layout.proofs.Rows.{cell_within, rows_stay}
use Rattle.heap_model.specs.Types.{Cell}
use Rattle.heap_model.specs.Heaps.{Heap}
use Rattle.heap_model.proofs.RegionRows.{row_between}
use Rattle.write_barrier.specs.Seats.{heap_words}
use Rattle.write_barrier.specs.MutatorState.{Mutator, heap_of}
use Rattle.heap_walk.specs.Limits.{IsLimit}
use Rattle.heap_walk.specs.Walks.{StandAhead, IsNext}
use Rattle.sweeper.specs.Sweeping.{InRow, MayPass, MaySweep, Sweeping}
use Rattle.sweeper.proofs.Gaps.{ahead_stays}
use Rattle.sweeper.proofs.SweptRows.{region_is_swept}
use Rattle.sweeper.proofs.SweepSteps.{sweep_further}
use Rattle.sweeper.proofs.RowSteps.{comes_to, waits_to, ends_there, row_within, end_below_roots}

-- it begins where the region does
pub walk_begins : {first now : Mutator} {marked : List ℕ} {start end limit : ℕ} → MaySweep first now marked start end
    → IsLimit (heap_of first) start end limit → InRow first now marked start end limit start start
walk_begins {first} {start = start} may is_limit =
    let own = row_between may.begun.whole.rows.are may.stands in
    record {
      begun = may.begun;
      stands = may.stands;
      sweeping = may.sweeping;
      row = own.row;
      is = own.is;
      limit_within = is_limit.within;
      ends = is_limit.ends own.row own.is;
      from_start = omega arith;
      front = [];
      stretch = [];
      rest = own.row.cells;
      part = refl;
      stood = none start;
      to_come = subst (λ (from : ℕ). IsRow first.seat.space (heap_words first.seat) from own.row.end own.row.cells)
          own.is.starts own.is.used.stands;
      unmarked = λ cell there. absurd (omega (arith, there.1));
      short = omega arith;
      before = λ of_page gap there. inr (may.sweeping.swept.below gap there);
    }

module _ {first now : Mutator} {marked : List ℕ} {start end limit from at : ℕ}
    (state : InRow first now marked start end limit from at) where
  -- the heap with which the sweep began
  abbrev heap : Heap
  heap = heap_of first

  -- the words of now
  abbrev words : List ℕ
  words = heap_words now.seat

  -- words from there on are as they were
  word_stays : (a : ℕ) → at ≤ a → slice_get words a ≡ slice_get heap.words a
  word_stays a ahead = ahead_stays state.sweeping.swept a (omega (arith, ahead, waits_to state))

  -- and layouts
  layout_stays : (shape : ℕ) → slice_get (layouts_in heap.space words) shape
      ≡ slice_get (layouts_in heap.space heap.words) shape
  layout_stays shape = elim (cases_lt shape shapes_most) [
    | inl below ↦
        slice_get-layouts_in heap.space words shape below
        ∙ word_stays (layouts_start heap.space + shape) (omega (
          arith,
          comes_to state,
          row_within state,
          end_below_roots state,
          layouts_start_is heap.space,
        ))
        ∙ sym (slice_get-layouts_in heap.space heap.words shape below)
    | inr past ↦
        slice_get-layouts_past heap.space words shape past
        ∙ sym (slice_get-layouts_past heap.space heap.words shape past)
  ]

  -- so each cell of the rest is read as it was
  read_alike : (cell : Cell) → Contains state.rest cell → ReadsAlike heap.space heap.words words cell
  read_alike cell there =
      let from = (cell_within heap.space heap.words at state.row.end state.rest cell state.to_come there).0 in
      record {
        first = word_stays cell.at from;
        second = λ long. word_stays (cell.at + 1) (omega (arith, from));
        of_shape = layout_stays cell.header.shape;
      }

  -- and the rest stands in the words of now
  pub rest_ahead : StandAhead now.seat.space words at limit state.row.end state.rest
  rest_ahead =
      let stays = rows_stay heap.space heap.words words at state.row.end state.rest state.to_come
      state.sweeping.swept.long
      (All-weaker (Contains state.rest) (ReadsAlike heap.space heap.words words) read_alike state.rest
      (All-contains_itself state.rest)) in
      let In : Space → Type 0 = λ space. IsRow space words at state.row.end state.rest in
      record {
        stand = subst In (sym state.sweeping.seat.space) stays;
        ends = record {
          within = state.ends.within;
          stops = elim state.ends.stops [
            | inl at_limit ↦ inl at_limit
            | inr zero ↦ inr (word_stays state.row.end (comes_to state) ∙ zero)
          ];
        };
      }

  -- the next cell of the rest is passed by
  pub may_pass : {cell : Cell} → IsNext now.seat.space words at limit state.row.end state.rest cell
      → MayPass first now marked start end limit from cell
  may_pass {cell} next =
      let Next : ℕ → Type 0 = λ a.
      (in_row : InRow first now marked start end limit from a) × (in_row.rest ≡ cell ∷ next.more) in
      let (in_row, is) : Next cell.at = subst Next (sym next.stands.stands) (state, next.are) in
      record { in_row = in_row; more = next.more; next = is }

  -- at the end of its row the sweep has come to the end of the region
  pub walk_ends : {new : Mutator} → at ≡ state.row.end → Sweeping first new marked at → Sweeping first new marked end
  walk_ends {new} over sweeping =
      let ended = subst (Sweeping first new marked) over sweeping in
      sweep_further end ended
      (region_is_swept end state.begun.whole.rows state.is.among state.is.used (ends_there state)
      (row_within state) ended.swept)
