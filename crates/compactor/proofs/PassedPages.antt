-- A cell of a page is passed by: it is free and goes, or comes to its place.
use Rattle.std.proofs.Common.{◌≡◌, ℕ, ◌+◌, ◌-◌, ◌≤◌, ◌<◌, ◌↔◌, inl, inr, true, false, List, [], ◌∷◌, ◌++◌}
use Rattle.std.proofs.Common.{Contains, length, refl, sym, ◌∙◌, ap, subst, arith, append_assoc}
use Rattle.std.proofs.lemmas.Bool.{cases_lt, false≢true}
use Rattle.std.proofs.lemmas.List.Elements.{Contains-append_cases}
use Rattle.tagged_word.proofs.Members.{one_in}
use Rattle.page_space.specs.Sizes.{page_words}
use Rattle.page_space.specs.Extents.{Space, eden_start, roots_start}
use Rattle.cell_layout.specs.Cells.{IsRow, none}
use Rattle.cell_layout.proofs.Rows.{BeginsWith, row_begins, row_push, row_ascends}
use Rattle.free_runs.specs.FreeRuns.{row_of}
use Rattle.heap_model.specs.Types.{Cell, Run}
use Rattle.heap_model.specs.Heaps.{Heap, Row}
use Rattle.heap_model.specs.Remembered.{RefersToYoung}
use Rattle.heap_model.proofs.BoundHeaps.{none_in}
use Rattle.heap_walk.specs.Limits.{IsLimit}
use Rattle.heap_walk.specs.Walks.{StandAhead, IsNext}
use Rattle.write_barrier.specs.Seats.{heap_words}
use Rattle.write_barrier.specs.MutatorState.{Mutator, heap_of}
use Rattle.compactor.specs.Tables.{Table, place_in}
use Rattle.compactor.specs.Copying.{IsSlotAt, StandsCopied, Copies}
use Rattle.compactor.specs.Sliding.{ArePlaced, AreCopied, AreJudged, InPage, IsPacked, IsPageRow, IsPlacedSlot}
use Rattle.compactor.specs.Sliding.{MayPack, MayPass, is_kept, kept_words, page_start, slid_end}
use Rattle.compactor.proofs.Copied.{keeps_again}
use Rattle.compactor.proofs.PageRows.{page_row, page_row_ends, page_row_stands, page_below_eden, page_below_roots}
use Rattle.compactor.proofs.PageRows.{row_stands_ahead}
use Rattle.compactor.proofs.PlacedPages.{page_limit}
use Rattle.compactor.proofs.Placing.{kept_has, free_has, slid_end_append, slid_ascends, slid_within}
use Rattle.compactor.proofs.Placing.{placed_front}
use Rattle.compactor.proofs.PackedPages.{PageStays, copied_stay, packed_stays}
use Rattle.compactor.proofs.PackedPages.{slot_cases, slot_among, slot_of_last, slot_below, young_stays}

-- a page begins
pub page_begins : {first now : Mutator} {table : Table} {page limit : ℕ} → MayPack first now table page
    → IsLimit (heap_of first) (page_start page) (page_start page + page_words) limit
    → InPage first now table page limit (page_start page) (page_start page)
page_begins {first} {page = page} may is_limit =
    let (row, is) = page_row page may.begun.limits may.begun.whole.rows may.there in
    record {
      begun = may.begun;
      places = may.places;
      row = row;
      is = is;
      ends = page_limit may.begun.limits is is_limit;
      rest = may.slid.rest;
      rows = may.slid.rows;
      packed = may.slid.packed;
      front = [];
      back = row.cells;
      part = refl;
      passed = none (page_start page);
      to_come = page_row_stands is;
      comes = refl;
      before = omega arith;
      placed = may.places.placed page row may.there is;
      copied = λ cell offset among. absurd (none_in cell among);
      judged = λ at from below. absurd (omega (arith, from, below));
      ahead = may.slid.ahead;
      beyond = may.slid.beyond;
    }

module _ {first now : Mutator} {table : Table} {page limit next at : ℕ}
    (state : InPage first now table page limit next at) where
  -- the heap with which the compaction began
  abbrev heap : Heap
  heap = heap_of first

  -- the row ends where the page does
  pub ends_there : state.row.end ≡ page_start (page + 1)
  ends_there = page_row_ends state.begun.limits state.is

  -- the walk has not come past it
  pub comes_within : at ≤ page_start (page + 1)
  comes_within =
      omega (arith, row_ascends heap.space heap.words at state.row.end state.back state.to_come, ends_there)

  -- the next place is in the page
  pub next_from : page_start page ≤ next
  next_from = omega (arith, state.comes, slid_ascends (page_start page) state.front)

  -- the cells that were passed have their places
  pub front_placed : ArePlaced table (page_start page) state.front
  front_placed =
      placed_front table (page_start page) state.front state.back
      (subst (λ (cells : List Cell). ArePlaced table (page_start page) cells) state.part
      (state.places.placed page state.row state.is.0 state.is))

  -- recorded is of pages
  pub bound_is : now.recorded.bound ≡ eden_start first.seat.space
  bound_is = state.rest.bound ∙ state.begun.bounded

  -- and so of this one
  pub page_recorded : page_start (page + 1) ≤ now.recorded.bound
  page_recorded = omega (arith, page_below_eden first.seat.space page state.is.0, bound_is)

  -- the cells to come stand in the words of now
  pub back_ahead : StandAhead now.seat.space (heap_words now.seat) at limit state.row.end state.back
  back_ahead =
      let before : at ≤ roots_start heap.space =
      omega (arith, comes_within, page_below_roots heap.space page state.is.0) in
      let stays = row_stands_ahead heap.space heap.words (heap_words now.seat) at state.row.end state.back state.to_come
      state.rest.seat.count before state.ahead in
      record {
        stand = subst (λ (space : Space). IsRow space (heap_words now.seat) at state.row.end state.back)
            (sym state.rest.seat.space) stays;
        ends = record { within = omega (arith, state.ends); stops = inl state.ends };
      }

  -- the next cell of the row may be passed by
  pub may_pass : {cell : Cell} → IsNext now.seat.space (heap_words now.seat) at limit state.row.end state.back cell
      → MayPass first now table page limit next cell
  may_pass {cell} is_next =
      let Next : ℕ → Type 0 = λ a.
      (in_page : InPage first now table page limit next a) × (in_page.back ≡ cell ∷ is_next.more) in
      let (in_page, is) : Next cell.at = subst Next (sym is_next.stands.stands) (state, is_next.are) in
      record { in_page = in_page; more = is_next.more; is_next = is }

  -- Pages before this one stay packed where no word of them changes, and no record and no free run.
  pub earlier_stay : {new : Mutator} → ((before : ℕ) → before < page → PageStays now new before) → (before : ℕ)
      (row : Row) → before < page → IsPageRow heap before row → IsPacked first new table before row.cells
  earlier_stay stays before row below is =
      packed_stays before row.cells (state.places.placed before row is.0 is)
      (omega (
        arith,
        slid_within heap.space heap.words (page_start before) (page_start before) row.end row.cells (page_row_stands is)
            (omega arith),
        page_row_ends state.begun.limits is,
      )) (stays before below) (state.packed before row below is)

module _ {first now : Mutator} {table : Table} {page limit next : ℕ} {cell : Cell}
    (may : MayPass first now table page limit next cell) where
  -- how far the page is
  abbrev pub state_of : InPage first now table page limit next cell.at
  state_of = may.in_page

  -- what is to come begins with the cell
  pub begins : BeginsWith first.seat.space (heap_words first.seat) cell.at state_of.row.end cell may.more
  begins =
      row_begins (subst (λ (rest : List Cell). IsRow first.seat.space (heap_words first.seat) cell.at
      state_of.row.end rest) may.is_next state_of.to_come)

  -- the cell ends in the page
  pub cell_ends : cell.at + cell.size ≤ page_start (page + 1)
  cell_ends =
      omega (
        arith,
        row_ascends first.seat.space (heap_words first.seat) (cell.at + cell.size) state_of.row.end may.more
            begins.rest,
        ends_there state_of,
      )

  -- it and those to come have their places
  back_placed : ArePlaced table next (cell ∷ may.more)
  back_placed = subst (λ (cells : List Cell). ArePlaced table next cells) may.is_next state_of.placed

  -- the cells that were passed, with this one
  abbrev front_more : List Cell
  front_more = state_of.front ++ cell ∷ []

  -- they are the first of the row
  part_more : state_of.row.cells ≡ front_more ++ may.more
  part_more =
      state_of.part ∙ ap (λ rest. state_of.front ++ rest) may.is_next
      ∙ sym (append_assoc state_of.front (cell ∷ []) may.more)

  -- where they end together
  comes_more : slid_end (page_start page) front_more ≡ next + kept_words cell
  comes_more =
      slid_end_append (page_start page) state_of.front (cell ∷ [])
      ∙ ap (λ n. n + kept_words cell) (sym state_of.comes)

  -- and where they stood
  passed_more : IsRow first.seat.space (heap_words first.seat) (page_start page) (cell.at + cell.size) front_more
  passed_more =
      row_push first.seat.space (heap_words first.seat) (page_start page) state_of.front cell state_of.passed
      begins.is_cell

  -- A free cell goes: nothing is written.
  pub free_passed : is_kept cell ≡ false → InPage first now table page limit next (cell.at + cell.size)
  free_passed free =
      let none_more : next + kept_words cell ≡ next = omega (arith, free_has cell free) in
      record {
        begun = state_of.begun;
        places = state_of.places;
        row = state_of.row;
        is = state_of.is;
        ends = state_of.ends;
        rest = state_of.rest;
        rows = state_of.rows;
        packed = state_of.packed;
        front = front_more;
        back = may.more;
        part = part_more;
        passed = passed_more;
        to_come = begins.rest;
        comes = sym (comes_more ∙ none_more);
        before = omega (arith, state_of.before);
        placed = subst (λ (n : ℕ). ArePlaced table n may.more) none_more back_placed.1;
        copied = λ one offset among kept below.
            elim (Contains-append_cases state_of.front (cell ∷ []) one among) [
              | inl before ↦ state_of.copied one offset before kept below
              | inr last ↦
                  let not_kept = subst (λ (c : Cell). is_kept c ≡ false) (one_in cell one last) free in
                  absurd (false≢true (sym not_kept ∙ kept))
            ];
        judged = λ at from below.
            let was = state_of.judged at from below in (
              λ there.
                  let both = was.0 there in
                  (slot_among table state_of.front (cell ∷ []) at both.0, both.1),
              λ both. elim (slot_cases table state_of.front cell at both.0) [
                | inl before ↦ was.1 (before, both.1)
                | inr last ↦ absurd (false≢true (sym free ∙ last.kept))
              ],
            );
        ahead = λ a from. state_of.ahead a (omega (arith, from));
        beyond = state_of.beyond;
      }

  module _ {new : Mutator} (kept : is_kept cell ≡ true) (copies : Copies now new table cell next cell.size) where
    -- its place is the next one
    place_is : place_in table cell.at ≡ next
    place_is = back_placed.0 kept

    -- where the cells that were passed end with it
    after_is : next + kept_words cell ≡ next + cell.size
    after_is = ap (λ n. next + n) (kept_has cell kept)

    -- it stands moved, as it stood at first
    cell_copied : (offset : ℕ) → offset < cell.size
        → StandsCopied (heap_words first.seat) table cell (heap_words new.seat) (place_in table cell.at) offset
    cell_copied offset below =
        let one = copies.copied offset below in
        let Stands : ℕ → Type 0 = λ to. StandsCopied (heap_words first.seat) table cell (heap_words new.seat) to
        offset in
        subst Stands (sym place_is) (record {
          word = one.word;
          now = one.now;
          read = sym (state_of.ahead (cell.at + offset) (omega arith)) ∙ one.read;
          put = one.put;
          is = one.is;
        })

    -- so all that were passed do
    copied_more : AreCopied (heap_words first.seat) table front_more (heap_words new.seat)
    copied_more one offset among is below = elim (Contains-append_cases state_of.front (cell ∷ []) one among) [
      | inl before ↦
          copied_stay (page_start page) state_of.front (front_placed state_of)
          (λ at from to. copies.beside at (inl (omega (arith, to, state_of.comes)))) state_of.copied one offset before
          is below
      | inr last ↦
          let Stands : Cell → Type 0 = λ c. (k : ℕ) → k < c.size
          → StandsCopied (heap_words first.seat) table c (heap_words new.seat) (place_in table c.at) k in
          subst Stands (one_in cell one last) cell_copied offset below
    ]

    -- what is recorded before its place is right
    judged_before : (at : ℕ) → page_start page ≤ at → at < next → Contains new.recorded.slots at
        ↔ (IsPlacedSlot table front_more at × RefersToYoung new.recorded.bound (heap_words new.seat) at)
    judged_before at from below =
        let was = state_of.judged at from below in
        let of_page : at < now.recorded.bound =
        omega (arith, below, state_of.before, begins.starts, cell_ends, page_recorded state_of) in
        let record_stays = copies.others at of_page (inl below) in
        let word_stays = copies.beside at (inl below) in (
          λ there.
              let both = was.0 (record_stays.0 there) in (
                slot_among table state_of.front (cell ∷ []) at both.0,
                young_stays copies.rest.bound word_stays both.1,
              ),
          λ both. elim (slot_cases table state_of.front cell at both.0) [
            | inl before ↦ record_stays.1 (was.1 (
              before,
              young_stays (sym copies.rest.bound) (sym word_stays) both.1,
            ))
            | inr last ↦ absurd (omega (arith, last.stands, place_is, below))
          ],
        )

    -- and so is what is recorded of it
    judged_here : (offset : ℕ) → offset < cell.size → Contains new.recorded.slots (next + offset)
        ↔ (IsPlacedSlot table front_more (next + offset)
        × RefersToYoung new.recorded.bound (heap_words new.seat) (next + offset))
    judged_here offset below =
        let of_page : next + offset < now.recorded.bound =
        omega (arith, below, state_of.before, cell_ends, page_recorded state_of) in
        let is = copies.recorded offset below of_page in (
          λ there.
              let both = is.0 there in (
                slot_of_last table state_of.front cell (next + offset) (record {
                  kept = kept;
                  offset = offset;
                  visited = both.0;
                  stands = ap (λ n. n + offset) place_is;
                }),
                both.1,
              ),
          λ both. elim (slot_cases table state_of.front cell (next + offset) both.0) [
            | inl before ↦
                let early = slot_below first.seat.space (heap_words first.seat) table (page_start page) cell.at
                (page_start page) (next + offset) state_of.front state_of.passed (front_placed state_of) before in
                absurd (omega (arith, early, state_of.comes))
            | inr last ↦
                let same : last.offset ≡ offset = omega (arith, last.stands, place_is) in
                is.1 (subst (λ (k : ℕ). IsSlotAt cell k) same last.visited, both.1)
          ],
        )

    -- so all is right up to the place after it
    judged_more : AreJudged new table front_more (page_start page) (next + cell.size)
    judged_more at from below = elim (cases_lt at next) [
      | inl early ↦ judged_before at from early
      | inr late ↦
          let Right : ℕ → Type 0 = λ a. Contains new.recorded.slots a
          ↔ (IsPlacedSlot table front_more a × RefersToYoung new.recorded.bound (heap_words new.seat) a) in
          let same : next + (at - next) ≡ at = omega (arith, late) in
          subst Right same (judged_here (at - next) (omega (arith, late, below)))
    ]

    -- a page before this one stays
    page_stays : (before : ℕ) → before < page → PageStays now new before
    page_stays before below =
        let early : page_start (before + 1) ≤ next = omega (arith, below, next_from state_of) in
        record {
          long = copies.rest.seat.count;
          bound = copies.rest.bound;
          words = λ at from to. copies.beside at (inl (omega (arith, to, early)));
          records = λ at from to.
              copies.others at
              (omega (arith, to, early, state_of.before, cell_ends, page_recorded state_of))
              (inl (omega (arith, to, early)));
          runs = ap (λ (rows : List (List Run)). row_of rows before) copies.free;
        }

    -- A kept cell comes to its place.
    pub kept_passed : InPage first new table page limit (next + cell.size) (cell.at + cell.size)
    kept_passed = record {
      begun = state_of.begun;
      places = state_of.places;
      row = state_of.row;
      is = state_of.is;
      ends = state_of.ends;
      rest = keeps_again state_of.rest copies.rest;
      rows = ap (λ (rows : List (List Run)). length rows) copies.free ∙ state_of.rows;
      packed = earlier_stay state_of page_stays;
      front = front_more;
      back = may.more;
      part = part_more;
      passed = passed_more;
      to_come = begins.rest;
      comes = sym (comes_more ∙ after_is);
      before = omega (arith, state_of.before);
      placed = subst (λ (n : ℕ). ArePlaced table n may.more) after_is back_placed.1;
      copied = copied_more;
      judged = judged_more;
      ahead = λ a from.
          copies.beside a (inr (omega (arith, from, state_of.before))) ∙ state_of.ahead a (omega (arith, from));
      beyond = λ a past there.
          state_of.beyond a past (copies.beyond a (omega (arith, past, state_of.rest.bound)) there);
    }
