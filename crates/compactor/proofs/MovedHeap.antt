-- The heap that a compaction leaves: cells stand in rows again.
use Rattle.std.proofs.Common.{◌≡◌, ℕ, ◌+◌, ◌/◌, ◌≤◌, ◌<◌, ◌⊎◌, inl, inr, Bool, true, false, List, [], ◌∷◌, ◌++◌}
use Rattle.std.proofs.Common.{Contains, length, map, slice_get, nat_lt, refl, sym, ◌∙◌, ap, subst}
use Rattle.std.proofs.Common.{arith}
use Rattle.std.proofs.lemmas.Bool.{cases_lt, false≢true, lt-ltb, le-ltb}
use Rattle.std.proofs.lemmas.List.Elements.{All-contains_itself, All-map, All-weaker}
use Rattle.std.proofs.lemmas.Simd.{map-map}
use Rattle.std.proofs.lemmas.List.Sums.{sum_by-cons}
use Rattle.page_space.specs.declared.region.Region.TheVariants.{Page, Eden, Segment}
use Rattle.page_space.specs.Sizes.{page_words}
use Rattle.page_space.specs.Extents.{Extent, ContainsAddress, eden_start, layouts_start, roots_start}
use Rattle.page_space.proofs.Covering.{disjoint}
use Rattle.page_space.proofs.Standing.{extent_of, page_stands}
use Rattle.page_space.proofs.Starts.{layouts_start_is}
use Rattle.cell_layout.specs.Cells.{IsRow, layouts_in}
use Rattle.cell_layout.specs.CellLaws.{ReadsAlike}
use Rattle.cell_layout.proofs.OneCell.{cells_have_words, slots_lie_within}
use Rattle.cell_layout.proofs.Puts.{two_words}
use Rattle.cell_layout.proofs.Rows.{cell_within, row_ascends, rows_join, rows_stay}
use Rattle.heap_model.specs.Types.{Cell, Region}
use Rattle.heap_model.specs.Heaps.{Heap, Row, EndsUsed, HasCell, IsUsedRow, cell_extents, survivors_in}
use Rattle.heap_model.specs.Heaps.{survivors_of, words_of_cell}
use Rattle.heap_model.specs.Changes.{written}
use Rattle.heap_model.specs.Wholeness.{HasRows, HasSizes}
use Rattle.heap_model.proofs.CellsApart.{IsOfCell, cell_extent_stands, cells_apart, first_of_cell}
use Rattle.heap_model.proofs.CellsApart.{has_is_cell, used_few}
use Rattle.heap_model.proofs.Patches.{row_holds}
use Rattle.heap_model.proofs.RegionRows.{row_is, row_of}
use Rattle.heap_model.proofs.RegionStarts.{holds_first}
use Rattle.heap_model.proofs.RowEnds.{one_used_row}
use Rattle.heap_model.proofs.WordsAlike.{cell_below_roots, extent_below_roots}
use Rattle.write_barrier.proofs.FreeCells.{HasFreeLayouts, shapes_have_free}
use Rattle.write_barrier.specs.Seats.{heap_words}
use Rattle.write_barrier.specs.MutatorState.{Mutator, heap_of}
use Rattle.compactor.specs.Tables.{Table}
use Rattle.compactor.specs.Copying.{IsSlotAt}
use Rattle.compactor.specs.Sliding.{IsPageRow, is_kept, page_start, slid_end}
use Rattle.compactor.specs.Young.{IsBesideYoung}
use Rattle.compactor.proofs.EndCells.{end_cells, end_row}
use Rattle.compactor.proofs.FinalState.{IsFinal}
use Rattle.compactor.proofs.MovedRows.{StandsIn, page_cells_end, raw_stands, slid_cells, slid_stand}
use Rattle.compactor.proofs.PageRows.{layouts_alike, page_below_marks, page_extent, page_row_ends}
use Rattle.compactor.proofs.PageRows.{page_row_stands}
use Rattle.compactor.proofs.Placing.{slid_ascends, slid_within}

-- the cells of a row after a compaction, by whether it is a page's
abbrev pub cells_after : Bool → Table → Row → List Cell
cells_after true table row = slid_cells table row.cells ++ end_cells (slid_end row.extent.start row.cells) row.end
cells_after false table row = row.cells

-- whether the row is a page's
abbrev pub is_page_row : Heap → Row → Bool
is_page_row heap row = nat_lt row.extent.start (eden_start heap.space)

-- the row after a compaction
abbrev pub row_after : Heap → Table → Row → Row
row_after heap table row =
    record { extent = row.extent; end = row.end; cells = cells_after (is_page_row heap row) table row }

-- rows that end where they did have as many survivors
survivors_alike : (heap : Heap) (table : Table) (rows : List Row)
    → survivors_of (map (row_after heap table) rows) ≡ survivors_of rows
survivors_alike heap table [] = refl
survivors_alike heap table (row ∷ rows) =
    let in_row : Row → ℕ = λ one. survivors_in one one.extent.region in
    sum_by-cons in_row (row_after heap table row) (map (row_after heap table) rows)
    ∙ ap (λ n. survivors_in row row.extent.region + n) (survivors_alike heap table rows)
    ∙ sym (sum_by-cons in_row row rows)

-- no cell has a word after the used row of its region
none_past : {heap : Heap} {row : Row} {cell : Cell} {were : List ℕ} (at : ℕ) → HasRows heap
    → Contains (cell_extents heap.space) row.extent → IsUsedRow heap row → HasCell heap cell were
    → IsOfCell cell at → row.end ≤ at → at < row.extent.start + row.extent.words → ⊥
none_past {heap} {row} {cell} at rows there used has of_cell past below =
    let own = has.row in
    let ascends = row_ascends heap.space heap.words row.extent.start row.end row.cells used.stands in
    let here : ContainsAddress row.extent at = record { from = omega (arith, ascends, past); below = below } in
    let same = disjoint heap.space own.extent row.extent at
    (cell_extent_stands heap.space own.extent has.in_region) (cell_extent_stands heap.space row.extent there)
    (row_holds rows has.in_region has.used has.in_row of_cell) here in
    let within = cell_within heap.space heap.words own.extent.start own.end own.cells cell has.used.stands has.in_row in
    omega (arith, within.1, (one_used_row heap own row has.used used same).end, past, of_cell.below)

-- the row in which a cell stands after a compaction, as it was
pub record IsInRow (heap : Heap) (table : Table) (cell : Cell) : Type 0 where
  pub row : Row
  pub there : Contains (cell_extents heap.space) row.extent
  pub used : IsUsedRow heap row
  pub among : Contains (cells_after (is_page_row heap row) table row) cell

module _ {first now : Mutator} {table : Table} (final : IsFinal first now table) where
  -- the heap with which the compaction began
  abbrev pub heap : Heap
  heap = heap_of first

  -- the words that it left
  abbrev pub words : List ℕ
  words = heap_words now.seat

  -- the heap that it left
  abbrev pub after : Heap
  after = written heap words

  -- there are as many words
  pub as_long : length words ≡ length heap.words
  as_long = final.rest.seat.count

  -- words from the layout words on have not changed
  layout_words_stay : (at : ℕ) → layouts_start heap.space ≤ at → slice_get words at ≡ slice_get heap.words at
  layout_words_stay at past =
      let start = layouts_start_is heap.space in
      final.behind at (omega (arith, past, start))
      (λ variable known same. omega (arith, past, start, known, same))

  -- so layouts are read as they were
  pub layouts_stay : (shape : ℕ) → slice_get (layouts_in heap.space words) shape
      ≡ slice_get (layouts_in heap.space heap.words) shape
  layouts_stay shape = layouts_alike heap.space heap.words words layout_words_stay shape

  -- sizes are right
  pub sized_again : HasSizes after
  sized_again = record {
    words = as_long ∙ final.begun.whole.sized.words;
    shapes = final.begun.whole.sized.shapes;
    layouts = λ shape below.
        layout_words_stay (layouts_start heap.space + shape) (omega arith)
        ∙ final.begun.whole.sized.layouts shape below;
  }

  -- the layouts of free cells stand there
  free_layouts : HasFreeLayouts heap.space words
  free_layouts = shapes_have_free heap.space words heap.paths sized_again.layouts

  -- a row that begins before eden is a page's
  pub page_of_row : (row : Row) → Contains (cell_extents heap.space) row.extent → IsUsedRow heap row
      → row.extent.start < eden_start heap.space
      → (page : ℕ) × IsPageRow heap page row × (row.extent.start ≡ page_start page)
  page_of_row row there used below =
      let page : ℕ = row.extent.start / page_words in
      let known : page < heap.space.sizes.pages = omega arith in
      let same : row.extent ≡ extent_of heap.space (Page page) =
      disjoint heap.space row.extent (extent_of heap.space (Page page)) row.extent.start
      (cell_extent_stands heap.space row.extent there) (page_stands heap.space page known)
      (holds_first heap.space row.extent final.begun.limits there)
      (record { from = omega arith; below = omega arith }) in
      let starts : row.extent.start ≡ page_start page = ap (λ (e : Extent). e.start) same in
      (page, (known, record { among = there; starts = starts; used = used }), starts)

  -- where the kept cells of a page end
  abbrev pub page_next : ℕ → Row → ℕ
  page_next page row = slid_end (page_start page) row.cells

  -- they end in the page
  pub next_in_page : (page : ℕ) (row : Row) → IsPageRow heap page row → page_next page row ≤ page_start (page + 1)
  next_in_page page row is =
      omega (
        arith,
        slid_within heap.space heap.words (page_start page) (page_start page) row.end row.cells (page_row_stands is)
            (omega arith),
        page_row_ends final.begun.limits is,
      )

  -- The cells of a page stand in a row again.
  pub page_stands_again : (page : ℕ) (row : Row) → IsPageRow heap page row
      → IsRow heap.space words (page_start page) (page_start (page + 1))
      (slid_cells table row.cells ++ end_cells (page_next page row) (page_start (page + 1)))
  page_stands_again page row is =
      let packed = final.packed page row is in
      let next : ℕ = page_next page row in
      let end : ℕ = page_start (page + 1) in
      let from : page_start page ≤ next = slid_ascends (page_start page) row.cells in
      let within : next ≤ end = next_in_page page row is in
      let marks = page_below_marks heap.space page is.0 in
      let known : StandsIn heap.space heap.words words table page =
      record {
        there = is.0;
        long = as_long;
        all = omega (arith, marks, final.begun.whole.sized.words);
        layouts = layouts_stay;
      } in
      rows_join heap.space words (page_start page) next end (slid_cells table row.cells) (end_cells next end)
      (slid_stand (page_start page) (page_start page) row.end row.cells known (omega arith) (omega arith)
      (omega (arith, page_row_ends final.begun.limits is)) (page_row_stands is)
      (final.places.placed page row is.0 is) packed.copied)
      (end_row packed.end.put next end free_layouts within (omega (arith, from))
      (λ some. page_cells_end heap.space page next is.0 from some)
      (omega (arith, marks, final.begun.whole.sized.words, as_long)) packed.end.long packed.end.stands)

  -- a word of a young cell that no slot has stays
  young_word_by : (test : Bool) (cell : Cell) (were : List ℕ) (offset : ℕ) → is_kept cell ≡ test
      → HasCell heap cell were → eden_start heap.space ≤ cell.at → offset < cell.size → (IsSlotAt cell offset → ⊥)
      → slice_get words (cell.at + offset) ≡ slice_get heap.words (cell.at + offset)
  young_word_by true cell were offset kept has young below raw =
      let before = cell_below_roots (used_few final.begun.whole.rows) has in
      let some = (first_of_cell has).below in
      raw_stands (final.young cell offset (record {
        words = were;
        has = has;
        young = young;
        before = omega (arith, before, some);
        kept = kept;
      }) below) raw
  young_word_by false cell were offset free has young below raw =
      let before = cell_below_roots (used_few final.begun.whole.rows) has in
      let beside : IsBesideYoung heap (roots_start heap.space) (cell.at + offset) = λ other is from inside.
      let same = cells_apart (cell.at + offset) final.begun.whole.rows has is.has
      (record { from = omega arith; below = omega (arith, below) }) (record { from = from; below = inside }) in
      false≢true (sym free ∙ ap is_kept same ∙ is.kept) in
      final.aside (cell.at + offset) (omega (arith, young)) (omega (arith, before, below)) beside

  -- so a young cell is read as it was
  young_reads : (cell : Cell) (were : List ℕ) → HasCell heap cell were → eden_start heap.space ≤ cell.at
      → ReadsAlike heap.space heap.words words cell
  young_reads cell were has young =
      let is_cell = has_is_cell has in
      let some = (cells_have_words heap.space heap.words cell is_cell).0 in
      let here : cell.at + 0 ≡ cell.at = omega arith in
      let Same : ℕ → Type 0 = λ at. slice_get words at ≡ slice_get heap.words at in
      record {
        first = subst Same here (young_word_by (is_kept cell) cell were 0 refl has young (omega (arith, some))
            (λ slot. omega (arith, (slots_lie_within heap.space heap.words cell 0 is_cell slot).behind_header)));
        second = λ long.
            young_word_by (is_kept cell) cell were 1 refl has young (two_words heap.space heap.words cell is_cell long)
            (λ slot. omega (arith, (slots_lie_within heap.space heap.words cell 1 is_cell slot).behind_length long));
        of_shape = layouts_stay cell.header.shape;
      }

  -- a cell of a row is one of the heap
  pub row_cell : (row : Row) (cell : Cell) → Contains (cell_extents heap.space) row.extent → IsUsedRow heap row
      → Contains row.cells cell → HasCell heap cell (words_of_cell heap cell)
  row_cell row cell there used among = record {
    row = row;
    in_region = there;
    used = used;
    in_row = among;
    words_are = refl;
  }

  -- So a row of young cells stands as it stood.
  young_stands_again : (row : Row) → Contains (cell_extents heap.space) row.extent → IsUsedRow heap row
      → eden_start heap.space ≤ row.extent.start
      → IsRow heap.space words row.extent.start row.end row.cells
  young_stands_again row there used young =
      let reads : (cell : Cell) → Contains row.cells cell → ReadsAlike heap.space heap.words words cell =
      λ cell among.
      let within = cell_within heap.space heap.words row.extent.start row.end row.cells cell used.stands among in
      young_reads cell (words_of_cell heap cell) (row_cell row cell there used among)
      (omega (arith, within.0, young)) in
      rows_stay heap.space heap.words words row.extent.start row.end row.cells used.stands as_long
      (All-weaker (Contains row.cells) (ReadsAlike heap.space heap.words words) reads row.cells
      (All-contains_itself row.cells))

  -- it ends where it did
  young_ends_again : (row : Row) (region : Region) → Contains (cell_extents heap.space) row.extent
      → IsUsedRow heap row → eden_start heap.space ≤ row.extent.start → EndsUsed heap row.extent row.end region
      → EndsUsed after row.extent row.end region
  young_ends_again row (Page page) there used young ends = ends
  young_ends_again row Eden there used young ends = ends
  young_ends_again row (Segment half worker) there used young ends = (
    ends.0,
    elim (cases_lt row.end (row.extent.start + row.extent.words)) [
      | inl below ↦ elim ends.1 [
        | inl full ↦ inl full
        | inr zero ↦
            let ascends = row_ascends heap.space heap.words row.extent.start row.end row.cells used.stands in
            let before = extent_below_roots heap.space row.extent there in
            let beside : IsBesideYoung heap (roots_start heap.space) row.end = λ cell is from inside.
            none_past row.end final.begun.whole.rows there used is.has (record { from = from; below = inside })
            (omega arith) below in
            inr (final.aside row.end (omega (arith, young, ascends)) (omega (arith, below, before)) beside ∙ zero)
      ]
      | inr full ↦ inl (omega (arith, full, ends.0))
    ],
  )
  young_ends_again row _ there used young ends = absurd ends

  -- a used row is one after the compaction
  used_again_by : (test : Bool) (row : Row) → is_page_row heap row ≡ test
      → Contains (cell_extents heap.space) row.extent → IsUsedRow heap row
      → (row.extent.start < eden_start heap.space) ⊎ (eden_start heap.space ≤ row.extent.start)
      → IsUsedRow after (record { extent = row.extent; end = row.end; cells = cells_after test table row })
  used_again_by true row is there used (inl below) =
      let of_page = page_of_row row there used below in
      let page : ℕ = of_page.0 in
      let ends = page_row_ends final.begun.limits of_page.1 in
      let same = page_extent final.begun.limits of_page.1 in
      let Row_from : ℕ → ℕ → Type 0 = λ start end. IsRow heap.space words start end
      (slid_cells table row.cells ++ end_cells (slid_end start row.cells) end) in
      let stands : Row_from (page_start page) (page_start (page + 1)) = page_stands_again page row of_page.1 in
      record {
        ends = subst (λ (e : Extent). EndsUsed after e row.end e.region) (sym same) (omega (arith, ends));
        stands = subst (λ (end : ℕ). Row_from row.extent.start end) (sym ends)
            (subst (λ (start : ℕ). Row_from start (page_start (page + 1))) (sym of_page.2) stands);
      }
  used_again_by true row is there used (inr young) =
      absurd (false≢true (sym (le-ltb row.extent.start (eden_start heap.space) young) ∙ is))
  used_again_by false row is there used (inl below) =
      absurd (false≢true (sym is ∙ lt-ltb row.extent.start (eden_start heap.space) below))
  used_again_by false row is there used (inr young) = record {
    ends = young_ends_again row row.extent.region there used young used.ends;
    stands = young_stands_again row there used young;
  }

  -- So each is.
  pub used_again : (row : Row) → Contains (cell_extents heap.space) row.extent → IsUsedRow heap row
      → IsUsedRow after (row_after heap table row)
  used_again row there used =
      used_again_by (is_page_row heap row) row refl there used (cases_lt row.extent.start (eden_start heap.space))

  -- Cells stand in rows again.
  pub rows_again : HasRows after
  rows_again =
      let rows = final.begun.whole.rows in
      let each : (row : Row) → Contains rows.rows row → IsUsedRow after (row_after heap table row) = λ row there.
      let is = row_is row rows.are there in used_again row is.among is.used in
      record {
        rows = map (row_after heap table) rows.rows;
        are = record {
          everywhere = map-map (λ (row : Row). row.extent) (row_after heap table) rows.rows ∙ rows.are.everywhere;
          each = All-map (IsUsedRow after) (row_after heap table) rows.rows
              (All-weaker (Contains rows.rows) (λ (row : Row). IsUsedRow after (row_after heap table row)) each
              rows.rows (All-contains_itself rows.rows));
        };
        counted = survivors_alike heap table rows.rows ∙ rows.counted;
        few = rows.few;
      }

  -- a cell of a row after the compaction is one of the heap then
  pub cell_again : (row : Row) (cell : Cell) → Contains (cell_extents heap.space) row.extent → IsUsedRow heap row
      → Contains (cells_after (is_page_row heap row) table row) cell → HasCell after cell (words_of_cell after cell)
  cell_again row cell there used among = record {
    row = row_after heap table row;
    in_region = there;
    used = used_again row there used;
    in_row = among;
    words_are = refl;
  }

  -- each cell stands in one
  pub cell_in_row : (cell : Cell) (others : List ℕ) → HasCell after cell others → IsInRow heap table cell
  cell_in_row cell others has =
      let own = row_of has.row.extent final.begun.whole.rows.are has.in_region in
      let same = one_used_row after has.row (row_after heap table own.row) has.used
      (used_again own.row own.is.among own.is.used) (sym own.same) in
      record {
        row = own.row;
        there = own.is.among;
        used = own.is.used;
        among = subst (λ (cells : List Cell). Contains cells cell) same.cells has.in_row;
      }
