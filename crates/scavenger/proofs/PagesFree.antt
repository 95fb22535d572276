-- The free runs of pages while a scavenge goes on: each is one free cell, of words that a run had before.
use Rattle.std.proofs.Common.{◌≡◌, ℕ, ◌+◌, ◌*◌, ◌/◌, ◌<◌, inl, List, Contains, IsTrue}
use Rattle.std.proofs.Common.{sym, ◌∙◌, ap, subst, arith}
use Rattle.tagged_word.specs.Cells.{is_free_kind}
use Rattle.page_space.specs.Sizes.{page_words}
use Rattle.page_space.specs.Extents.{eden_start}
use Rattle.page_space.proofs.CellAddresses.{page_ends}
use Rattle.cell_layout.specs.Cells.{IsCell}
use Rattle.cell_layout.proofs.Rows.{rows_part_around}
use Rattle.free_runs.specs.Laws.{IsFreeWord}
use Rattle.heap_model.specs.Types.{Cell, Run}
use Rattle.heap_model.specs.Heaps.{HasCell}
use Rattle.heap_model.proofs.CellsApart.{cells_apart, first_of_cell}
use Rattle.scav_copy.specs.declared.places.Home.{Home}
use Rattle.scav_copy.specs.Places.{Fixed}
use Rattle.scav_copy.proofs.Spots.{home_itself}
use Rattle.scavenger.specs.Starts.{Start, IsBegun, IsFreeRun}
use Rattle.scavenger.specs.Filling.{CopiesFillRooms, IsOfPage, PageStands, StandsIn}
use Rattle.scavenger.specs.Paging.{IsRunStanding, FreeRunsStand}
use Rattle.scavenger.proofs.TargetCells.{run_ends}
use Rattle.scavenger.proofs.PagesRuns.{HasRun, run_of_word, first_of_run, one_run_at}
use Rattle.scavenger.proofs.PagesWords.{page_of, ends_in}

-- the cell of a row is one of the words
pub row_has : {start : Start} {words : List ℕ} {rows : List (List Run)} {homes : List Home} {page : ℕ} {cell : Cell}
    → (stands : PageStands start words rows homes page) → Contains stands.cells cell
    → IsCell start.heap.space words cell
row_has {start} {words} {page = page} {cell} stands there =
    (rows_part_around start.heap.space words (page_words * page) (page_words * page + page_words) stands.cells cell
    stands.row there).is_cell

module _ {start : Start} {fixed : Fixed} {words : List ℕ} {rows : List (List Run)} {homes : List Home} {fill : ℕ}
    (begun : IsBegun start fixed) (filled : CopiesFillRooms start fixed words rows homes fill) where
  -- a free word was one before
  pub was_free : (at : ℕ) → IsFreeWord rows at → HasRun start.rows at
  was_free at is = run_of_word start.rows at ((filled.left at).1 (inl is))

  -- it stands in a page
  pub free_below : (at : ℕ) → IsFreeWord rows at → at < eden_start start.heap.space
  free_below at is =
      let was = was_free at is in
      omega (arith, run_ends was.run begun was.is, was.of_run.below)

  -- a cell of before that has a free word stood where a free run began
  pub free_began : (cell : Cell) (body : List ℕ) → HasCell start.heap cell body → IsFreeWord rows cell.at
      → (run : Run) × IsFreeRun start.rows run × (run.at ≡ cell.at)
  free_began cell body has is =
      let was = was_free cell.at is in
      let run : Run = was.run in
      let free = begun.free was.is.row run was.is.of_rows was.is.among in
      let same : free.cell ≡ cell = cells_apart cell.at begun.whole.rows free.has has
      (record {
        from = omega (arith, was.of_run.from, free.stands);
        below = omega (arith, was.of_run.below, free.stands, free.size);
      })
      (first_of_cell has) in
      (run, was.is, sym free.stands ∙ ap (λ (one : Cell). one.at) same)

  -- no home is the address of a free word
  pub no_home : (home : Home) → Contains homes home → IsFreeWord rows home.to → ⊥
  no_home home there is =
      filled.apart home.to is (home, there, home_itself home begun.laid filled.copying there)

  -- the cell of a page that stands where a free run begins is that run
  run_by : (run : Run) (cell : Cell) → IsFreeRun rows run → cell.at ≡ run.at → IsOfPage start rows homes cell
      → (cell.size ≡ run.words) × IsTrue (is_free_kind cell.layout.kind)
  run_by run cell is stands (IsOfPage.stays body has none) =
      let first = first_of_run rows run filled.free is in
      let began = free_began cell body has (subst (IsFreeWord rows) (sym stands) first) in
      absurd (none began.0 began.1 began.2)
  run_by run cell is stands (IsOfPage.copy home there same) =
      let first = first_of_run rows run filled.free is in
      absurd (no_home home there (subst (IsFreeWord rows) (sym stands ∙ sym same) first))
  run_by run cell is stands (IsOfPage.free other is_other same size free no_number) =
      let one = one_run_at rows run other filled.free is is_other (sym stands ∙ sym same) in
      (sym size ∙ ap (λ (each : Run). each.words) (sym one), free)

  -- each free run is one free cell, and ends before eden
  pub run_stands : (run : Run) → IsFreeRun rows run → IsRunStanding start words run
  run_stands run is =
      let space = start.heap.space in
      let below = free_below run.at (first_of_run rows run filled.free is) in
      let page : ℕ = run.at / page_words in
      let known : page < space.sizes.pages = omega (arith, below) in
      let page_is = page_of run.at in
      let stands = filled.pages page known in
      let one : StandsIn stands.cells run.at = stands.runs run is page_is in
      let by = run_by run one.cell is one.stands (stands.each one.cell one.among) in
      let is_cell = row_has stands one.among in
      let ends = ends_in space words one.cell page is_cell (omega (arith, below, one.stands))
      (record { from = omega (arith, page_is.from, one.stands); below = omega (arith, page_is.below, one.stands) }) in
      record {
        free = one.cell;
        is = record { is_cell = is_cell; stands = one.stands; is_free = by.1 };
        size = by.0;
        in_page = omega (arith, ends, one.stands, by.0, page_ends space page known);
      }

-- each free run is a free cell, and ends before eden
pub free_runs_stand : FreeRunsStand
free_runs_stand start fixed words rows homes fill run begun filled is = run_stands begun filled run is
