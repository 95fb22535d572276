-- The end of a page becomes free, and with it the page is packed.
use Rattle.std.proofs.Common.{◌≡◌, ℕ, ◌+◌, ◌-◌, ◌≤◌, ◌<◌, ◌⊎◌, ◌↔◌, inl, inr, List, [], ◌∷◌, ◌++◌, Contains}
use Rattle.std.proofs.Common.{length, set, slice_get, refl, sym, ◌∙◌, ap, subst, arith, append-nil, length-set}
use Rattle.std.proofs.Common.{if◌then◌else◌}
use Rattle.std.proofs.lemmas.Bool.{cases_lt, lt-ltb}
use Rattle.std.proofs.lemmas.List.{get_or-set_same, get_or-set_other, set-set}
use Rattle.free_runs.specs.FreeRuns.{row_of}
use Rattle.heap_model.specs.Types.{Cell, Run}
use Rattle.heap_model.specs.Remembered.{Touch, IsRecordedBy}
use Rattle.write_barrier.specs.Seats.{RestStays, heap_words}
use Rattle.write_barrier.specs.MutatorState.{Mutator, heap_of}
use Rattle.write_barrier.specs.FreeCells.{with_free_cell}
use Rattle.write_barrier.specs.Recording.{Touches, touched}
use Rattle.write_barrier.proofs.FreeCells.{beside_free_cell, length-free_cell}
use Rattle.write_barrier.proofs.TouchedRanges.{touched_inside, touched_outside}
use Rattle.compactor.specs.Tables.{Table}
use Rattle.compactor.specs.Sliding.{AreJudged, EndsPage, InPage, IsPacked, IsPageEnd, IsPageRow, Slid}
use Rattle.compactor.specs.Sliding.{page_start, run_between}
use Rattle.compactor.proofs.Copied.{keeps_itself, keeps_again}
use Rattle.compactor.proofs.PageRows.{one_page_row}
use Rattle.compactor.proofs.PlacedPages.{no_cells}
use Rattle.compactor.proofs.PackedPages.{PageStays, copied_stay, judged_stay}
use Rattle.compactor.proofs.PassedPages.{comes_within, earlier_stay, ends_there, front_placed, next_from}
use Rattle.compactor.proofs.PassedPages.{page_recorded}

-- the words are a free run, where there are some
pub some_run : (from to : ℕ) → from < to → run_between from to ≡ record { at = from; words = to - from } ∷ []
some_run from to some =
    ap (λ test. if test then (record { at = from; words = to - from } ∷ []) else []) (lt-ltb from to some)

-- What the calls that end a page come to: its free runs went, a free cell was put, and a run was added.
pub run_ends : {old mid new : Mutator} (page next count : ℕ) → next + count ≡ page_start (page + 1) → 1 ≤ count
    → page_start (page + 1) ≤ old.recorded.bound → page < length old.free
    → RestStays old.seat mid.seat → mid.paths ≡ old.paths → mid.cycle ≡ old.cycle → mid.young ≡ old.young
    → heap_words mid.seat ≡ with_free_cell (heap_words old.seat) next count
    → Touches (record old { free = set old.free page [] }) mid (touched Touch.Wiped next (next + count))
    → new ≡ record mid {
      free = set mid.free page (row_of mid.free page ++ record { at = next; words = count } ∷ []);
    } → EndsPage old new page next
run_ends {old} {mid} {new} page next count ends some recorded there seat paths cycle young words touches is =
    let end : ℕ = page_start (page + 1) in
    let counted : end - next ≡ count = omega (arith, ends) in
    let Is : ℕ → Touch → Type 0 = λ at touch. IsRecordedBy old.recorded.bound (heap_words old.seat)
    (heap_words mid.seat) old.recorded.slots mid.recorded.slots at touch in
    let here : (at : ℕ) → next ≤ at → at < end → Contains mid.recorded.slots at → ⊥ = λ at from below.
    let wiped : Is at Touch.Wiped =
    subst (Is at) (touched_inside Touch.Wiped next (next + count) at from (omega (arith, below, ends)))
    (touches.records.each at (omega (arith, below, recorded))) in
    wiped in
    let aside : (at : ℕ) → at < old.recorded.bound → (at < next) ⊎ (next + count ≤ at)
    → Contains mid.recorded.slots at ↔ Contains old.recorded.slots at = λ at below out.
    let kept : Is at Touch.Kept =
    subst (Is at) (touched_outside Touch.Wiped next (next + count) at out) (touches.records.each at below) in
    kept.1 in
    let cleared : mid.free ≡ set old.free page [] = touches.free in
    let none : row_of mid.free page ≡ [] =
    ap (λ (rows : List (List Run)). row_of rows page) cleared
    ∙ get_or-set_same old.free page [] [] there in
    let one : List Run = record { at = next; words = count } ∷ [] in
    record {
      rest = record {
        seat = subst (λ (main : Mutator). RestStays old.seat main.seat) (sym is) seat;
        paths = ap (λ (main : Mutator). main.paths) is ∙ paths;
        young = ap (λ (main : Mutator). main.young) is ∙ young;
        cycle = ap (λ (main : Mutator). main.cycle) is ∙ cycle;
        bound = ap (λ (main : Mutator). main.recorded.bound) is ∙ touches.bound;
      };
      words = ap (λ (main : Mutator). heap_words main.seat) is ∙ words
          ∙ ap (λ n. with_free_cell (heap_words old.seat) next n) (sym counted);
      free = ap (λ (main : Mutator). main.free) is
          ∙ ap (λ (runs : List Run). set mid.free page (runs ++ one)) none
          ∙ ap (λ (rows : List (List Run)). set rows page one) cleared
          ∙ set-set old.free page [] one
          ∙ ap (λ (n : ℕ). let run : Run = record { at = next; words = n } in set old.free page (run ∷ []))
          (sym counted)
          ∙ ap (λ (runs : List Run). set old.free page runs)
          (sym (some_run next end (omega (arith, ends, some))));
      none = λ at from below there.
          here at from below (subst (λ (main : Mutator). Contains main.recorded.slots at) is there);
      others = λ at below out.
          let kept = aside at below (elim out [
            | inl low ↦ inl low
            | inr high ↦ inr (omega (arith, high, ends))
          ]) in (
            λ there. kept.0 (subst (λ (main : Mutator). Contains main.recorded.slots at) is there),
            λ there. subst (λ (main : Mutator). Contains main.recorded.slots at) (sym is) (kept.1 there),
          );
      beyond = λ at past there.
          touches.records.beyond at past (subst (λ (main : Mutator). Contains main.recorded.slots at) is there);
    }

-- the same, as the calls say it one after another
pub calls_end : {old cleared mid new : Mutator} (page next count : ℕ) → next + count ≡ page_start (page + 1)
    → 1 ≤ count → page_start (page + 1) ≤ old.recorded.bound → page < length old.free
    → cleared ≡ record old { free = set old.free page [] }
    → RestStays cleared.seat mid.seat → mid.paths ≡ cleared.paths → mid.cycle ≡ cleared.cycle
    → mid.young ≡ cleared.young
    → heap_words mid.seat ≡ with_free_cell (heap_words cleared.seat) next count
    → Touches cleared mid (touched Touch.Wiped next (next + count))
    → new ≡ record mid {
      free = set mid.free page (row_of mid.free page ++ record { at = next; words = count } ∷ []);
    } → EndsPage old new page next
calls_end {old} {cleared} {mid} page next count ends some recorded there is_cleared seat paths cycle young words touches
    is =
    let from : (P : Mutator → Type 0) → P cleared → P (record old { free = set old.free page [] }) =
    λ P holds. subst P is_cleared holds in
    run_ends page next count ends some recorded there
    (from (λ main. RestStays main.seat mid.seat) seat)
    (from (λ main. mid.paths ≡ main.paths) paths)
    (from (λ main. mid.cycle ≡ main.cycle) cycle)
    (from (λ main. mid.young ≡ main.young) young)
    (from (λ main. heap_words mid.seat ≡ with_free_cell (heap_words main.seat) next count) words)
    (from (λ main. Touches main mid (touched Touch.Wiped next (next + count))) touches) is

-- before the first page none is packed
pub none_packed : (main : Mutator) (table : Table) → Slid main main table 0
none_packed main table = record {
  rest = keeps_itself main;
  rows = refl;
  packed = λ before row below. absurd (omega (arith, below));
  ahead = λ at from. refl;
  beyond = λ at past there. there;
}

module _ {first now new : Mutator} {table : Table} {page limit next at : ℕ}
    (state : InPage first now table page limit next at) (over : at ≡ state.row.end)
    (ends : EndsPage now new page next) where
  -- where the page ends
  abbrev end : ℕ
  end = page_start (page + 1)

  -- no cell of the page is to come
  all_passed : state.front ≡ state.row.cells
  all_passed =
      let none_left =
      no_cells first.seat.space (heap_words first.seat) at state.row.end state.back state.to_come over in
      sym (append-nil state.front) ∙ ap (λ rest. state.front ++ rest) (sym none_left) ∙ sym state.part

  -- the next place is in the page
  next_within : next ≤ end
  next_within = omega (arith, state.before, comes_within state)

  -- a word beside the free cell has not changed
  beside_end : (a : ℕ) → (a < next) ⊎ (end ≤ a)
      → slice_get (heap_words new.seat) a ≡ slice_get (heap_words now.seat) a
  beside_end a out =
      ap (λ (words : List ℕ). slice_get words a) ends.words
      ∙ beside_free_cell (heap_words now.seat) next (end - next) a (elim out [
        | inl low ↦ inl low
        | inr high ↦ inr (omega (arith, high, next_within))
      ])

  -- there are as many words
  as_long : length (heap_words new.seat) ≡ length (heap_words now.seat)
  as_long =
      ap (λ (words : List ℕ). length words) ends.words ∙ length-free_cell (heap_words now.seat) next (end - next)

  -- the page has a row of runs
  has_row : page < length now.free
  has_row = omega (arith, state.rows, state.begun.rows, state.is.0)

  -- a page before this one stays
  earlier_page_stays : (before : ℕ) → before < page → PageStays now new before
  earlier_page_stays before below =
      let early : page_start (before + 1) ≤ next = omega (arith, below, next_from state) in
      record {
        long = as_long;
        bound = ends.rest.bound;
        words = λ a from to. beside_end a (inl (omega (arith, to, early)));
        records = λ a from to.
            ends.others a (omega (arith, to, early, next_within, page_recorded state))
            (inl (omega (arith, to, early)));
        runs = ap (λ (rows : List (List Run)). row_of rows before) ends.free
            ∙ get_or-set_other now.free page before (run_between next end) []
            (λ same. omega (arith, same, below));
      }

  -- the page is packed, as the cells that were passed say
  front_packed : IsPacked first new table page state.front
  front_packed =
      let comes = state.comes in
      let Judged : ℕ → Type 0 = λ to. AreJudged new table state.front (page_start page) to
      in
      let Ends : ℕ → Type 0 = λ from. IsPageEnd new page from in
      record {
        copied = copied_stay (page_start page) state.front (front_placed state)
            (λ a from below. beside_end a (inl (omega (arith, below, comes)))) state.copied;
        judged = subst Judged comes (judged_stay now new (page_start page) next ends.rest.bound
            (λ a from below. beside_end a (inl below))
            (λ a from below.
            ends.others a (omega (arith, below, next_within, page_recorded state)) (inl below)) state.judged);
        end = subst Ends comes (record {
          put = heap_words now.seat;
          long = sym as_long;
          stands = λ a from below. ap (λ (words : List ℕ). slice_get words a) ends.words;
          runs = ap (λ (rows : List (List Run)). row_of rows page) ends.free
              ∙ get_or-set_same now.free page (run_between next end) [] has_row;
          none = ends.none;
        });
      }

  -- So the pages before the next one are packed.
  pub page_ends : Slid first new table (page + 1)
  page_ends = record {
    rest = keeps_again state.rest ends.rest;
    rows = ap (λ (rows : List (List Run)). length rows) ends.free
        ∙ length-set now.free page (run_between next end) ∙ state.rows;
    packed = λ before row below is. elim (cases_lt before page) [
      | inl earlier ↦ earlier_stay state earlier_page_stays before row earlier is
      | inr not_earlier ↦
          let same : page ≡ before = omega (arith, below, not_earlier) in
          let here : IsPageRow (heap_of first) page row =
          subst (λ (one : ℕ). IsPageRow (heap_of first) one row) (sym same) is in
          let all : state.front ≡ row.cells = all_passed ∙ one_page_row state.begun.limits state.is here in
          subst (λ (one : ℕ). IsPacked first new table one row.cells) same
          (subst (λ (cells : List Cell). IsPacked first new table page cells) all front_packed)
    ];
    ahead = λ a from.
        beside_end a (inr from) ∙ state.ahead a (omega (arith, from, over, ends_there state));
    beyond = λ a past there. state.beyond a past (ends.beyond a (omega (arith, past, state.rest.bound)) there);
  }
