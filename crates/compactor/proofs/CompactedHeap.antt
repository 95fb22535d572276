-- A compaction that has moved slots and variables is at its end.
use Rattle.std.proofs.Common.{◌≡◌, ℕ, ◌+◌, ◌-◌, ◌/◌, ◌^◌, ◌≤◌, ◌<◌, ◌⊎◌, inl, inr, Bool, true, false, List, []}
use Rattle.std.proofs.Common.{◌∷◌, ◌++◌, Contains, IsTrue, length, not, nat_lt, refl, sym, ◌∙◌, ap, subst, arith}
use Rattle.std.proofs.Common.{if◌then◌else◌}
use Rattle.std.proofs.lemmas.Bool.{cases_lt, false≢true, lt-ltb, ltb-true}
use Rattle.std.proofs.lemmas.List.{get_or_default, get_or_past}
use Rattle.std.proofs.lemmas.List.Elements.{Contains-append_cases, Contains-append_left, Contains-append_right}
use Rattle.tagged_word.specs.declared.layout.Kind.TheVariants as kind
use Rattle.tagged_word.specs.Cells.{is_free_kind, scavenge_offsets_of}
use Rattle.tagged_word.proofs.Members.{first_in, one_in}
use Rattle.page_space.specs.declared.region.Region.TheVariants.{Page, Segment}
use Rattle.page_space.specs.Sizes.{page_words}
use Rattle.page_space.specs.Extents.{Extent, eden_start, marks_start}
use Rattle.page_space.proofs.Covering.{disjoint}
use Rattle.page_space.proofs.Standing.{extent_of, page_stands}
use Rattle.nursery.specs.Young.{Young}
use Rattle.cell_layout.proofs.Rows.{cell_within}
use Rattle.free_runs.specs.FreeRuns.{AreFree, row_of}
use Rattle.free_runs.specs.Laws.{IsFreeWord}
use Rattle.heap_model.specs.Types.{Cell, Kind, Run}
use Rattle.heap_model.specs.Heaps.{Heap, Row, HasCell, IsUsedRow, cell_extents, words_of_cell}
use Rattle.heap_model.specs.Collectable.{AreFreeRuns, IsCollectable, IsFreeCell}
use Rattle.heap_model.specs.Remembered.{AreRemembered, IsPageSlot, IsSlotOf, RefersToYoung}
use Rattle.heap_model.proofs.BoundHeaps.{none_in}
use Rattle.heap_model.proofs.CellsApart.{cell_extent_stands, cells_apart, first_of_cell}
use Rattle.heap_model.proofs.RememberedSlots.{page_slot_below, slot_of_cell}
use Rattle.heap_model.proofs.RowCovers.{covered}
use Rattle.heap_moves.specs.Moved.{IsMoved, moved_to}
use Rattle.write_barrier.proofs.FreeCells.{free_cell, free_cell_is_free}
use Rattle.write_barrier.specs.MutatorState.{Mutator, heap_of}
use Rattle.compactor.specs.Tables.{Table, place_in}
use Rattle.compactor.specs.Sliding.{CountsBefore, IsPageRow, IsPlacedSlot, page_start, slid_end}
use Rattle.compactor.specs.Compacted.{Compacted, IsUsedWord}
use Rattle.compactor.proofs.CountedCells.{all_counted}
use Rattle.compactor.proofs.EndCells.{end_cells}
use Rattle.compactor.proofs.FinalState.{IsFinal}
use Rattle.compactor.proofs.MovedCells.{apart_places, bound_is, end_is_free, heap_is_moved, kept_not_free}
use Rattle.compactor.proofs.MovedCells.{page_place, to}
use Rattle.compactor.proofs.MovedCells.{young_cell}
use Rattle.compactor.proofs.MovedHeap.{after, cell_again, cell_in_row, cells_after, heap, is_page_row, next_in_page}
use Rattle.compactor.proofs.MovedHeap.{page_of_row, page_stands_again, rows_again, words}
use Rattle.compactor.proofs.MovedPlaces.{comes_is, free_goes, kept_comes, place_of, place_of_page, place_of_young}
use Rattle.compactor.proofs.MovedRows.{in_slid, slid_cells, slid_from}
use Rattle.compactor.proofs.PageEnds.{some_run}
use Rattle.compactor.proofs.PageRows.{page_below_eden, page_row, page_row_ends, page_row_stands}
use Rattle.compactor.proofs.PackedPages.{slot_below}
use Rattle.compactor.proofs.Placing.{placed_within}

-- a free cell has no slots, kind by kind
free_offsets : (k : Kind) (cell : Cell) → IsTrue (is_free_kind k) → scavenge_offsets_of k cell.layout cell.length ≡ []
free_offsets kind.Filler cell free = refl
free_offsets kind.Gap cell free = refl
free_offsets _ cell free = absurd (false≢true free)

-- so it has none
no_free_slot : {cell : Cell} {at : ℕ} → IsSlotOf cell at → IsTrue (is_free_kind cell.layout.kind) → ⊥
no_free_slot {cell} slot free =
    none_in slot.offset (subst (λ (offsets : List ℕ). Contains offsets slot.offset)
    (free_offsets cell.layout.kind cell free) slot.visited)

-- a free run between two addresses is that of the words between them
pub run_is : (test : Bool) (from to : ℕ) (run : Run)
    → Contains (if test then (record { at = from; words = to - from } ∷ []) else []) run
    → (test ≡ true) × (record { at = from; words = to - from } ≡ run)
run_is true from to run there = (refl, one_in (record { at = from; words = to - from }) run there)
run_is false from to run there = absurd (none_in run there)

-- a page is no segment
no_segment : {page half worker : ℕ} → Page page ≡ Segment half worker → ⊥
no_segment same = cc

-- a cell that stands in a page after a compaction, by the page's row as it was
pub record InPageAfter (heap : Heap) (table : Table) (cell : Cell) : Type 0 where
  pub page : ℕ
  pub row : Row
  pub is : IsPageRow heap page row
  pub among : Contains (slid_cells table row.cells
      ++ end_cells (slid_end (page_start page) row.cells) (page_start (page + 1))) cell

module _ {first now : Mutator} {table : Table} (final : IsFinal first now table)
    (fit : marks_start first.seat.space < 2 ^ 32) where
  -- the heap that is left
  heap_is : after final ≡ heap_of now
  heap_is = λ i. record {
    space = sym final.rest.seat.space i;
    used = ap (λ (young : Young). young.used) (sym final.rest.young) i;
    survivors = ap (λ (young : Young). young.survivors) (sym final.rest.young) i;
    paths = sym final.rest.paths i;
    words = words final;
  }

  -- the page of an address, and its row
  pub row_at : (at : ℕ) → at < eden_start first.seat.space
      → (page : ℕ) × (row : Row) × IsPageRow (heap final) page row × (page_start page ≤ at)
      × (at < page_start (page + 1))
  row_at at below =
      let page : ℕ = at / page_words in
      let known : page < first.seat.space.sizes.pages = omega arith in
      let (row, is) = page_row page final.begun.limits final.begun.whole.rows known in
      (page, row, is, omega arith, omega arith)

  -- the row of a page is one
  is_page : (page : ℕ) (row : Row) → IsPageRow (heap final) page row → is_page_row (heap final) row ≡ true
  is_page page row is =
      lt-ltb row.extent.start (eden_start first.seat.space)
      (omega (arith, is.1.starts, page_below_eden first.seat.space page is.0))

  -- a cell of such a row after the compaction is one of the heap
  pub page_cell_again : (page : ℕ) (row : Row) (cell : Cell) → IsPageRow (heap final) page row
      → Contains (slid_cells table row.cells
      ++ end_cells (slid_end (page_start page) row.cells) (page_start (page + 1)))
      cell → HasCell (after final) cell (words_of_cell (after final) cell)
  page_cell_again page row cell is among =
      let ends = page_row_ends final.begun.limits is in
      let In : ℕ → ℕ → Type 0 = λ start end.
      Contains (slid_cells table row.cells ++ end_cells (slid_end start row.cells) end) cell in
      let there : Contains (cells_after true table row) cell =
      subst (λ (start : ℕ). In start row.end) (sym is.1.starts)
      (subst (λ (end : ℕ). In (page_start page) end) (sym ends) among) in
      cell_again final row cell is.1.among is.1.used
      (subst (λ (test : Bool). Contains (cells_after test table row) cell) (sym (is_page page row is)) there)

  -- a cell of a row afterwards is one of a page, or stood in the young generation
  page_or_young_by : (test : Bool) (row : Row) (cell : Cell) → is_page_row (heap final) row ≡ test
      → Contains (cell_extents first.seat.space) row.extent → IsUsedRow (heap final) row
      → Contains (cells_after test table row) cell
      → InPageAfter (heap final) table cell ⊎ (HasCell (heap final) cell (words_of_cell (heap final) cell)
      × (eden_start first.seat.space ≤ cell.at))
  page_or_young_by true row cell test there used among =
      let of_page = page_of_row final row there used
      (ltb-true row.extent.start (eden_start first.seat.space) test) in
      let ends = page_row_ends final.begun.limits of_page.1 in
      let In : ℕ → ℕ → Type 0 = λ start end.
      Contains (slid_cells table row.cells ++ end_cells (slid_end start row.cells) end) cell in
      inl (record {
        page = of_page.0;
        row = row;
        is = of_page.1;
        among = subst (λ (end : ℕ). In (page_start of_page.0) end) ends
            (subst (λ (start : ℕ). In start row.end) of_page.2 among);
      })
  page_or_young_by false row cell test there used among =
      inr (
        record { row = row; in_region = there; used = used; in_row = among; words_are = refl },
        young_cell final fit row cell test used among,
      )

  -- So each cell afterwards is.
  pub page_or_young : (cell : Cell) (others : List ℕ) → HasCell (after final) cell others
      → InPageAfter (heap final) table cell ⊎ (HasCell (heap final) cell (words_of_cell (heap final) cell)
      × (eden_start first.seat.space ≤ cell.at))
  page_or_young cell others has =
      let in_row = cell_in_row final cell others has in
      page_or_young_by (is_page_row (heap final) in_row.row) in_row.row cell refl in_row.there in_row.used in_row.among

  -- a cell in a page lies in it
  in_page_lies : (cell : Cell) (place : InPageAfter (heap final) table cell)
      → (page_start place.page ≤ cell.at) × (cell.at + cell.size ≤ page_start (place.page + 1))
  in_page_lies cell place =
      cell_within first.seat.space (words final) (page_start place.page) (page_start (place.page + 1))
      (slid_cells table place.row.cells
      ++ end_cells (slid_end (page_start place.page) place.row.cells) (page_start (place.page + 1))) cell
      (page_stands_again final place.page place.row place.is) place.among

  -- a young cell afterwards stood there before
  young_stood : (cell : Cell) (others : List ℕ) → HasCell (after final) cell others
      → eden_start first.seat.space ≤ cell.at → HasCell (heap final) cell (words_of_cell (heap final) cell)
  young_stood cell others has young = elim (page_or_young cell others has) [
    | inl in_page ↦
        let lies = in_page_lies cell in_page in
        let some = (first_of_cell has).below in
        absurd (omega (arith, lies.1, some, young, page_below_eden first.seat.space in_page.page in_page.is.0))
    | inr stood ↦ stood.0
  ]

  -- the run of a page is the words at its end
  pub run_of_page : (page : ℕ) (row : Row) (run : Run) → IsPageRow (heap final) page row
      → Contains (row_of now.free page) run
      → (slid_end (page_start page) row.cells < page_start (page + 1))
      × (record {
        at = slid_end (page_start page) row.cells;
        words = page_start (page + 1) - slid_end (page_start page) row.cells;
      } ≡ run)
  run_of_page page row run is there =
      let next : ℕ = slid_end (page_start page) row.cells in
      let end : ℕ = page_start (page + 1) in
      let among = subst (λ (runs : List Run). Contains runs run) (final.packed page row is).end.runs there in
      let is_run = run_is (nat_lt next end) next end run among in
      (ltb-true next end is_run.0, is_run.1)

  -- a page with a run is one of the heap's
  has_page : (page : ℕ) (run : Run) → Contains (row_of now.free page) run → page < first.seat.space.sizes.pages
  has_page page run there = elim (cases_lt page (length now.free)) [
    | inl below ↦ omega (arith, below, final.rows, final.begun.rows)
    | inr past ↦
        absurd (none_in run (subst (λ (runs : List Run). Contains runs run) (get_or_past now.free page [] past) there))
  ]

  -- the free cell at the end of a page is one of the heap
  end_cell_stands : (page : ℕ) (row : Row) → IsPageRow (heap final) page row
      → slid_end (page_start page) row.cells < page_start (page + 1)
      → let next = slid_end (page_start page) row.cells in
      let cell = free_cell next (page_start (page + 1) - next) in
      HasCell (after final) cell (words_of_cell (after final) cell)
  end_cell_stands page row is some =
      let next : ℕ = slid_end (page_start page) row.cells in
      let end : ℕ = page_start (page + 1) in
      let cell : Cell = free_cell next (end - next) in
      let there : Contains (end_cells next end) cell =
      subst (λ (cells : List Cell). Contains cells cell)
      (sym (ap (λ test. if test then (cell ∷ []) else []) (lt-ltb next end some))) (first_in cell []) in
      page_cell_again page row cell is
      (Contains-append_right (slid_cells table row.cells) (end_cells next end) cell there)

  -- each run is one free cell of a page
  run_is_cell : (page : ℕ) (run : Run) → Contains (row_of now.free page) run → IsFreeCell (after final) run
  run_is_cell page run there =
      let known = has_page page run there in
      let (row, is) = page_row page final.begun.limits final.begun.whole.rows known in
      let next : ℕ = slid_end (page_start page) row.cells in
      let end : ℕ = page_start (page + 1) in
      let (some, same) = run_of_page page row run is there in
      let cell : Cell = free_cell next (end - next) in
      record {
        cell = cell;
        words = words_of_cell (after final) cell;
        has = end_cell_stands page row is some;
        stands = ap (λ (one : Run). one.at) same;
        size = ap (λ (one : Run). one.words) same;
        of_page = omega (arith, some, page_below_eden first.seat.space page known);
        free = free_cell_is_free next (end - next);
      }

  -- so runs are free cells
  pub runs_are_free : AreFreeRuns (after final) now.free
  runs_are_free row run of_rows among =
      let page : ℕ = of_rows.0 in
      let below : page < length now.free = of_rows.1 in
      let same : row_of now.free page ≡ row = get_or_default now.free page [] row below ∙ of_rows.2 in
      run_is_cell page run (subst (λ (runs : List Run). Contains runs run) (sym same) among)

  -- no word of a run is in a cell that is not free
  free_is_unused : (at : ℕ) → IsFreeWord now.free at → IsUsedWord (after final) at → ⊥
  free_is_unused at free used =
      let one = run_is_cell free.page free.free.run free.free.among in
      let inside = free.free.of_run in
      let same = cells_apart at (rows_again final) one.has used.has
      (record {
        from = omega (arith, one.stands, inside.from);
        below = omega (arith, one.stands, one.size, inside.below);
      }) (record { from = used.from; below = used.below }) in
      false≢true (sym used.used ∙ sym (ap (λ (c : Cell). is_free_kind c.layout.kind) same) ∙ one.free)

  -- and each word of a page that is in none is a run's
  unused_is_free : (at : ℕ) → at < eden_start first.seat.space → (IsUsedWord (after final) at → ⊥)
      → IsFreeWord now.free at
  unused_is_free at below unused =
      let (page, row, is, from, to_end) = row_at at below in
      let next : ℕ = slid_end (page_start page) row.cells in
      let end : ℕ = page_start (page + 1) in
      let one = covered first.seat.space (words final) (page_start page) end
      (slid_cells table row.cells ++ end_cells next end) at (page_stands_again final page row is) from to_end in
      elim (Contains-append_cases (slid_cells table row.cells) (end_cells next end) one.cell one.among) [
        | inl slid ↦
            let comes = slid_from table row.cells one.cell slid in
            let has = page_cell_again page row one.cell is one.among in
            absurd (unused (record {
              cell = one.cell;
              words = words_of_cell (after final) one.cell;
              has = has;
              used = ap (λ (c : Cell). is_free_kind c.layout.kind) comes.is
                  ∙ kept_not_free (is_free_kind comes.cell.layout.kind) comes.kept;
              from = one.of_cell.from;
              below = one.of_cell.below;
            }))
        | inr last ↦
            let same = end_is_free (nat_lt next end) next (end - next) one.cell last in
            let late : next ≤ at = omega (arith, one.of_cell.from, ap (λ (c : Cell). c.at) same) in
            let some : next < end = omega (arith, late, to_end) in
            let run : Run = record { at = next; words = end - next } in
            let runs = (final.packed page row is).end.runs in
            record {
              page = page;
              free = record {
                run = run;
                among = subst (λ (all : List Run). Contains all run)
                    (sym (some_run next end some) ∙ sym runs) (first_in run []);
                of_run = record { from = late; below = omega (arith, to_end, some) };
              };
            }
      ]

  -- a slot of a page that is recorded is one of a cell, and refers to a young one
  recorded_is_right : AreRemembered (heap final) first.recorded.slots → (at : ℕ) → Contains now.recorded.slots at
      → IsPageSlot (after final) at × RefersToYoung (eden_start first.seat.space) (words final) at
  recorded_is_right right at there = elim (cases_lt at (eden_start first.seat.space)) [
    | inr past ↦
        let was = (right at).0 (final.beyond at (omega (arith, past, final.begun.bounded)) there) in
        absurd (omega (arith, past, page_slot_below was.0))
    | inl below ↦
        let (page, row, is, from, to_end) = row_at at below in
        let next : ℕ = slid_end (page_start page) row.cells in
        let packed = final.packed page row is in
        elim (cases_lt at next) [
          | inr late ↦ absurd (packed.end.none at late to_end there)
          | inl early ↦
              let (slot, young) = (packed.judged at from early).0 there in
              let moved : Cell = moved_to slot.cell (place_in table slot.cell.at) in
              let has = page_cell_again page row moved is
              (Contains-append_left (slid_cells table row.cells) (end_cells next (page_start (page + 1))) moved
              (in_slid table row.cells slot.cell slot.among slot.kept)) in
              let within = placed_within table (page_start page) row.cells slot.cell
              (final.places.placed page row is.0 is) slot.among slot.kept in (
                record {
                  cell = moved;
                  words = words_of_cell (after final) moved;
                  has = has;
                  of_page = omega (
                    arith,
                    within.below,
                    next_in_page final page row is,
                    page_below_eden first.seat.space page is.0,
                    (first_of_cell has).below,
                  );
                  slot = record { offset = slot.offset; visited = slot.visited; stands = slot.stands };
                },
                subst (λ (bound : ℕ). RefersToYoung bound (words final) at)
                    (final.rest.bound ∙ final.begun.bounded) young,
              )
        ]
  ]

  -- and each such slot is recorded
  right_is_recorded : (at : ℕ) → IsPageSlot (after final) at
      → RefersToYoung (eden_start first.seat.space) (words final) at → Contains now.recorded.slots at
  right_is_recorded at slot young = elim (page_or_young slot.cell slot.words slot.has) [
    | inr stood ↦ absurd (omega (arith, stood.1, slot.of_page))
    | inl in_page ↦
        let page = in_page.page in
        let row = in_page.row in
        let is = in_page.is in
        let next : ℕ = slid_end (page_start page) row.cells in
        let end : ℕ = page_start (page + 1) in
        elim (Contains-append_cases (slid_cells table row.cells) (end_cells next end) slot.cell in_page.among) [
          | inr last ↦
              let same = end_is_free (nat_lt next end) next (end - next) slot.cell last in
              absurd (no_free_slot slot.slot
              (subst (λ (c : Cell). IsTrue (is_free_kind c.layout.kind)) same (free_cell_is_free next (end - next))))
          | inl slid ↦
              let comes = slid_from table row.cells slot.cell slid in
              let moved : Cell = moved_to comes.cell (place_in table comes.cell.at) in
              let of_moved : IsSlotOf moved at = subst (λ (c : Cell). IsSlotOf c at) comes.is slot.slot in
              let placed : IsPlacedSlot table row.cells at =
              record {
                cell = comes.cell;
                among = comes.among;
                kept = comes.kept;
                offset = of_moved.offset;
                visited = of_moved.visited;
                stands = of_moved.stands;
              } in
              let below = slot_below first.seat.space (heap final).words table (page_start page) row.end
              (page_start page) at row.cells (page_row_stands is) (final.places.placed page row is.0 is) placed in
              let of_cell = slot_of_cell slot.has slot.slot in
              let from = (in_page_lies slot.cell in_page).0 in
              ((final.packed page row is).judged at (omega (arith, from, of_cell.from)) below).1 (
                placed,
                subst (λ (bound : ℕ). RefersToYoung bound (words final) at)
                    (sym (final.rest.bound ∙ final.begun.bounded)) young,
              )
        ]
  ]

  -- a half that was empty is
  collectable_again : (half : ℕ) → IsCollectable (heap final) half → IsCollectable (after final) half
  collectable_again half collectable = record {
    empty = λ cell others has inside. elim (page_or_young cell others has) [
      | inr stood ↦ collectable.empty cell (words_of_cell (heap final) cell) stood.0 inside
      | inl in_page ↦
          let lies = in_page_lies cell in_page in
          let some = (first_of_cell has).below in
          let same = disjoint first.seat.space (extent_of first.seat.space (Page in_page.page)) inside.extent cell.at
          (page_stands first.seat.space in_page.page in_page.is.0)
          (cell_extent_stands first.seat.space inside.extent inside.among)
          (record { from = lies.0; below = omega (arith, lies.1, some) }) inside.holds in
          absurd (no_segment (ap (λ (e : Extent). e.region) same ∙ inside.segment))
    ];
  }

  -- So the compaction is what it is to be.
  pub compacted : {count : ℕ} → AreFree now.free → CountsBefore (heap final) table (eden_start first.seat.space) count
      → Compacted first now count
  compacted apart counts =
      let rows = final.begun.whole.rows in
      record {
        to = to final fit;
        counts = all_counted rows final.places.bound counts;
        compacts = record {
          moved = subst (λ (h : Heap). IsMoved (heap final) h (to final fit)) heap_is (heap_is_moved final fit);
          stays = λ cell were has used.
              (place_of table cell.at, kept_comes rows table cell were has (ap not used));
          goes = λ cell were has free. free_goes rows table cell were has (ap not free);
          in_page = λ cell were at has below comes.
              let is = comes_is rows table cell were at has comes in
              let place = page_place final fit cell were has is.0 below in
              let same = is.1 ∙ place_of_page table cell.at (omega (arith, below, bound_is final fit)) in
              let some = (first_of_cell has).below in
              record {
                page = omega (arith, same, place.from, place.ends, place.stood, place.stood_below, some);
                no_later = omega (arith, same, place.no_later);
              };
          in_order = λ one other were others at last has has_other below comes comes_too.
              let is = comes_is rows table one were at has comes in
              let is_too = comes_is rows table other others last has_other comes_too in
              omega (
                arith,
                apart_places final fit one other were others has has_other is.0 is_too.0 below,
                is.1,
                is_too.1,
              );
          beside = λ cell were at has young comes.
              (comes_is rows table cell were at has comes).1
              ∙ place_of_young table cell.at (omega (arith, young, bound_is final fit));
          young_cells = λ cell others has young. (
            words_of_cell (heap final) cell,
            young_stood cell others (subst (λ (h : Heap). HasCell h cell others) (sym heap_is) has) young,
          );
          seat = final.rest.seat;
          paths = final.rest.paths;
          young = final.rest.young;
          cycle = final.rest.cycle;
          rows = final.rows ∙ final.begun.rows;
          packed = λ page run there.
              let known = has_page page run there in
              let (row, is) = page_row page final.begun.limits final.begun.whole.rows known in
              let (some, same) = run_of_page page row run is there in
              omega (arith, some, ap (λ (one : Run). one.at) same, ap (λ (one : Run). one.words) same);
          free = subst (λ (h : Heap). AreFreeRuns h now.free) heap_is runs_are_free;
          apart = apart;
          filled = λ at below. (
            λ free used. free_is_unused at free (subst (λ (h : Heap). IsUsedWord h at) (sym heap_is) used),
            λ unused. unused_is_free at below
                (λ used. unused (subst (λ (h : Heap). IsUsedWord h at) heap_is used)),
          );
          bound = final.rest.bound;
          remembered = λ right.
              subst (λ (h : Heap). AreRemembered h now.recorded.slots) heap_is
              (λ at. (recorded_is_right right at, λ both. right_is_recorded at both.0 both.1));
          collectable = λ half collectable.
              subst (λ (h : Heap). IsCollectable h half) heap_is (collectable_again half collectable);
        };
      }
