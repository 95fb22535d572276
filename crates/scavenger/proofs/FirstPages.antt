-- What stands in pages before anything is copied: the cells of the heap, and of these the free runs.
use Rattle.std.proofs.Common.{◌≡◌, ℕ, ◌+◌, ◌*◌, ◌<◌, inl, inr, List, [], Contains, IsTrue}
use Rattle.std.proofs.Common.{refl, sym, ◌∙◌, ap, subst}
use Rattle.std.proofs.lemmas.Bool.{cases_Bool, false≢true}
use Rattle.tagged_word.specs.declared.layout.Kind.TheVariants as kind
use Rattle.tagged_word.specs.Cells.{is_free_kind}
use Rattle.page_space.specs.declared.region.Region.TheVariants.{Page}
use Rattle.page_space.specs.Sizes.{page_words}
use Rattle.page_space.specs.Extents.{Space, Extent}
use Rattle.page_space.proofs.Covering.{disjoint}
use Rattle.page_space.proofs.Standing.{extent_of, stands}
use Rattle.cell_layout.specs.Cells.{IsRow}
use Rattle.heap_model.specs.Types.{Kind, Cell}
use Rattle.heap_model.specs.Heaps.{Heap, Row, EndsUsed, IsUsedRow, HasCell, words_of_cell}
use Rattle.heap_model.specs.Kinds.{HasNoNumber, IsSoundOf}
use Rattle.heap_model.proofs.CellsApart.{one_at, cell_extent_stands, first_of_cell}
use Rattle.heap_model.proofs.Patches.{row_holds}
use Rattle.heap_model.proofs.RegionRows.{row_of}
use Rattle.heap_model.proofs.RowEnds.{one_used_row}
use Rattle.write_barrier.proofs.FirstRuns.{page_among}
use Rattle.scav_copy.specs.Places.{Fixed}
use Rattle.scav_copy.proofs.Spots.{none_in}
use Rattle.scavenger.specs.Starts.{Start, IsBegun}
use Rattle.scavenger.specs.Filling.{IsOfPage, IsInPage, PageStands, PagesStand}
use Rattle.scavenger.specs.Scavenged.{begins_free}
use Rattle.scavenger.proofs.EndRuns.{found_run, no_run_there, run_cell}

-- a free cell has no number, kind by kind
free_has_no_number : (k : Kind) (heap : Heap) (cell : Cell) (words : List ℕ) → IsTrue (is_free_kind k)
    → IsSoundOf k heap cell words → HasNoNumber cell
free_has_no_number kind.Filler heap cell words free sound = sound
free_has_no_number kind.Gap heap cell words free sound = sound
free_has_no_number _ heap cell words free sound = absurd (false≢true free)

module _ {start : Start} {fixed : Fixed} (begun : IsBegun start fixed) where
  -- each cell of the heap is a free run, or stays
  first_cell : (cell : Cell) (words : List ℕ) → HasCell start.heap cell words → IsOfPage start start.rows [] cell
  first_cell cell words has = elim (cases_Bool (begins_free start.rows cell.at)) [
    | inl found ↦
        let one = found_run start.rows cell.at found in
        let free = run_cell begun one.is in
        let same : free.cell ≡ cell = one_at free.has has (free.stands ∙ one.stands) in
        let sound = begun.whole.sound free.cell free.words free.has in
        let no_number =
        free_has_no_number free.cell.layout.kind start.heap free.cell free.words free.free sound in
        subst (IsOfPage start start.rows []) same
        (IsOfPage.free one.run one.is (sym free.stands) (sym free.size) free.free no_number)
    | inr none ↦ IsOfPage.stays words has (no_run_there start.rows cell.at none)
  ]

  -- a cell that stands in a page is of the page's row
  in_own_row : {cell : Cell} {words : List ℕ} (page : ℕ) (row : Row) → page < start.heap.space.sizes.pages
      → row.extent ≡ extent_of start.heap.space (Page page) → IsUsedRow start.heap row
      → HasCell start.heap cell words → IsInPage page cell.at → Contains row.cells cell
  in_own_row {cell} page row known is used has in_page =
      let space : Space = start.heap.space in
      let own : Extent = extent_of space (Page page) in
      let holds = row_holds begun.whole.rows has.in_region has.used has.in_row (first_of_cell has) in
      let same : has.row.extent ≡ own =
      disjoint space has.row.extent own cell.at (cell_extent_stands space has.row.extent has.in_region)
      (stands space (Page page) known) holds (record { from = in_page.from; below = in_page.below }) in
      let one = one_used_row start.heap has.row row has.used used (same ∙ sym is) in
      subst (λ (cells : List Cell). Contains cells cell) one.cells has.in_row

  -- a page stands as its row does
  first_page : (page : ℕ) → page < start.heap.space.sizes.pages
      → PageStands start start.heap.words start.rows [] page
  first_page page known =
      let space : Space = start.heap.space in
      let words : List ℕ = start.heap.words in
      let own : Extent = extent_of space (Page page) in
      let from : ℕ = page_words * page in
      let to : ℕ = page_words * page + page_words in
      let found = row_of own begun.whole.rows.are (page_among space page known) in
      let row : Row = found.row in
      let used = found.is.used in
      let starts : row.extent.start ≡ from = ap (λ (one : Extent). one.start) found.same in
      let ends : row.end ≡ to =
      subst (λ (one : Extent). EndsUsed start.heap one row.end one.region) found.same used.ends in
      let here : IsRow space words row.extent.start to row.cells =
      subst (λ (end : ℕ). IsRow space words row.extent.start end row.cells) ends used.stands in
      record {
        cells = row.cells;
        row = subst (λ (at : ℕ). IsRow space words at to row.cells) starts here;
        each = λ cell there. first_cell cell (words_of_cell start.heap cell) (record {
          row = row;
          in_region = found.is.among;
          used = used;
          in_row = there;
          words_are = refl;
        });
        stay = λ cell were has in_page none. in_own_row page row known found.same used has in_page;
        copies = λ home there. absurd (none_in home there);
        runs = λ run is in_page.
            let free = run_cell begun is in
            record {
              cell = free.cell;
              among = in_own_row page row known found.same used free.has
                  (subst (IsInPage page) (sym free.stands) in_page);
              stands = free.stands;
            };
      }

  -- all pages stand so
  pub first_pages : PagesStand start start.heap.words start.rows []
  first_pages = first_page
