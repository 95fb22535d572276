-- A sweep passes one cell by: it is marked and stays, or it waits, with those before it or alone.
use Rattle.std.proofs.Common.{◌≡◌, ℕ, ◌+◌, ◌≤◌, ◌<◌, inl, inr, List, [], ◌∷◌, ◌++◌, Contains}
use Rattle.std.proofs.Common.{refl, sym, ◌∙◌, ap, subst, arith, append_assoc, append-nil}
use Rattle.std.proofs.lemmas.List.Elements.{Contains-append_right, Contains-append_cases}
use Rattle.tagged_word.proofs.Members.{first_in, one_in}
use Rattle.page_space.specs.Sizes.{page_words}
use Rattle.page_space.specs.Extents.{ContainsAddress, eden_start, roots_start}
use Rattle.cell_layout.specs.Cells.{IsRow, none, next}
use Rattle.cell_layout.proofs.OneCell.{cells_have_words}
use Rattle.cell_layout.proofs.Rows.{BeginsWith, row_begins, row_push, row_ascends}
use Rattle.heap_model.specs.Types.{Cell}
use Rattle.heap_model.specs.Heaps.{Heap, HasCell, words_of_cell}
use Rattle.heap_model.proofs.BoundHeaps.{none_in}
use Rattle.heap_model.proofs.RegionStarts.{holds_first}
use Rattle.write_barrier.specs.MutatorState.{Mutator, heap_of}
use Rattle.sweeper.specs.Sweeping.{InRow, MayPass, Sweeping}
use Rattle.sweeper.proofs.SweptRows.{marked_is_swept}
use Rattle.sweeper.proofs.RowSteps.{its_page, ends_there, end_below_roots, row_within, waits_to}
use Rattle.sweeper.proofs.SweepSteps.{sweep_further}

module _ {first now : Mutator} {marked : List ℕ} {start end limit from : ℕ} {cell : Cell}
    (may : MayPass first now marked start end limit from cell) where
  -- how far the sweep has come
  abbrev state : InRow first now marked start end limit from cell.at
  state = may.in_row

  -- the heap with which it began
  abbrev heap : Heap
  heap = heap_of first

  -- the address behind the cell
  abbrev behind : ℕ
  behind = cell.at + cell.size

  -- the rest of the row begins with the cell
  begins : BeginsWith heap.space heap.words cell.at state.row.end cell may.more
  begins =
      row_begins (subst (λ (rest : List Cell). IsRow heap.space heap.words cell.at state.row.end rest) may.next
      state.to_come)

  -- the cell is one of the row
  passed_in_row : Contains state.row.cells cell
  passed_in_row =
      let there : Contains state.rest cell =
      subst (λ (rest : List Cell). Contains rest cell) (sym may.next) (first_in cell may.more) in
      subst (λ (all : List Cell). Contains all cell) (sym state.part)
      (Contains-append_right (state.front ++ state.stretch) state.rest cell there)

  -- and of the heap
  passed_has : HasCell heap cell (words_of_cell heap cell)
  passed_has = record {
    row = state.row;
    in_region = state.is.among;
    used = state.is.used;
    in_row = passed_in_row;
    words_are = refl;
  }

  -- it ends where the row does, or before
  pub passed_ends : behind ≤ state.row.end
  passed_ends = row_ascends heap.space heap.words behind state.row.end may.more begins.rest

  -- so before the roots
  pub passed_below_roots : behind ≤ roots_start heap.space
  passed_below_roots = omega (arith, passed_ends, row_within state, end_below_roots state)

  -- it has some words, and no more than a page
  pub passed_words : (1 ≤ cell.size) × (cell.size ≤ page_words)
  passed_words = cells_have_words heap.space heap.words cell begins.is_cell

  -- the row with the cell behind what waits
  joined : state.row.cells ≡ state.front ++ (state.stretch ++ cell ∷ []) ++ may.more
  joined =
      state.part ∙ ap (λ rest. state.front ++ state.stretch ++ rest) may.next
      ∙ sym (append_assoc (state.front ++ state.stretch) (cell ∷ []) may.more)
      ∙ ap (λ all. all ++ may.more) (append_assoc state.front state.stretch (cell ∷ []))

  -- A marked cell stays: where what waited is done, the cells before it are.
  pub marked_passed : {new : Mutator} → Contains marked cell.at → Sweeping first new marked cell.at
      → InRow first new marked start end limit behind behind
  marked_passed kept sweeping = record {
    begun = state.begun;
    stands = state.stands;
    sweeping = sweep_further behind sweeping
        (marked_is_swept state.begun.whole.rows sweeping.swept passed_has kept);
    row = state.row;
    is = state.is;
    limit_within = state.limit_within;
    ends = state.ends;
    from_start = omega (arith, state.from_start, waits_to state);
    front = state.front ++ (state.stretch ++ cell ∷ []);
    stretch = [];
    rest = may.more;
    part = joined ∙ ap (λ all. all ++ may.more) (sym (append-nil (state.front ++ (state.stretch ++ cell ∷ []))));
    stood = none behind;
    to_come = begins.rest;
    unmarked = λ one there. absurd (none_in one there);
    short = omega arith;
    before = λ of_page gap there. inl (omega (arith, sweeping.swept.below gap there, passed_words.0));
  }

  -- a cell that is not marked waits with those before it, where they are no more words than a page has
  pub dead_waits : (Contains marked cell.at → ⊥) → behind ≤ from + page_words
      → InRow first now marked start end limit from behind
  dead_waits dead few = record {
    begun = state.begun;
    stands = state.stands;
    sweeping = state.sweeping;
    row = state.row;
    is = state.is;
    limit_within = state.limit_within;
    ends = state.ends;
    from_start = state.from_start;
    front = state.front;
    stretch = state.stretch ++ cell ∷ [];
    rest = may.more;
    part = joined;
    stood = row_push heap.space heap.words from state.stretch cell state.stood begins.is_cell;
    to_come = begins.rest;
    unmarked = λ one there. elim (Contains-append_cases state.stretch (cell ∷ []) one there) [
      | inl before ↦ state.unmarked one before
      | inr last ↦ subst (λ (c : Cell). Contains marked c.at → ⊥) (one_in cell one last) dead
    ];
    short = few;
    before = state.before;
  }

  -- no region of a page has so many words
  too_long : end ≤ eden_start heap.space → from + page_words < behind → ⊥
  too_long of_page many =
      let holds : ContainsAddress state.row.extent state.row.extent.start =
      holds_first heap.space state.row.extent state.begun.limits state.is.among in
      let of_start = its_page state state.row.extent.start holds
      (omega (arith, holds.below, ends_there state, of_page)) in
      omega (
        arith,
        of_start.words,
        ends_there state,
        state.is.starts,
        state.from_start,
        many,
        passed_ends,
        row_within state,
      )

  -- and else it waits alone, where what waited is done
  pub dead_begins : {new : Mutator} → (Contains marked cell.at → ⊥) → from + page_words < behind
      → Sweeping first new marked cell.at → InRow first new marked start end limit cell.at behind
  dead_begins dead many sweeping = record {
    begun = state.begun;
    stands = state.stands;
    sweeping = sweeping;
    row = state.row;
    is = state.is;
    limit_within = state.limit_within;
    ends = state.ends;
    from_start = omega (arith, state.from_start, waits_to state);
    front = state.front ++ state.stretch;
    stretch = cell ∷ [];
    rest = may.more;
    part = joined ∙ ap (λ all. all ++ may.more) (sym (append_assoc state.front state.stretch (cell ∷ [])));
    stood = next cell behind [] begins.is_cell (none behind);
    to_come = begins.rest;
    unmarked = λ one there. subst (λ (c : Cell). Contains marked c.at → ⊥) (one_in cell one there) dead;
    short = omega (arith, passed_words.1);
    before = λ of_page gap there. absurd (too_long of_page many);
  }
