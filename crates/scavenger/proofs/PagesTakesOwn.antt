-- The page in which a cell is copied to a free run.
use Rattle.std.proofs.Common.{◌≡◌, ◌≢◌, ℕ, ◌+◌, ◌*◌, ◌<◌, ◌⊎◌, inl, inr}
use Rattle.std.proofs.Common.{List, ◌∷◌, ◌++◌, Contains, refl, sym, ◌∙◌, ap, subst, arith}
use Rattle.std.proofs.lemmas.Bool.{cases_eq}
use Rattle.std.proofs.lemmas.List.Elements.{Contains-append_left, Contains-append_right, Contains-append_cases}
use Rattle.tagged_word.proofs.Members.{first_in, rest_in, in_cases}
use Rattle.page_space.specs.Sizes.{page_words}
use Rattle.page_space.proofs.CellAddresses.{page_ends}
use Rattle.cell_layout.specs.Cells.{IsRow}
use Rattle.cell_layout.specs.RowLaws.{PartsAround}
use Rattle.cell_layout.proofs.OneCell.{one_cell, cells_have_words}
use Rattle.cell_layout.proofs.Rows.{rows_part_around, stretches_change, cell_within}
use Rattle.free_runs.specs.Laws.{IsFreeWord}
use Rattle.heap_model.specs.Types.{Cell, Run}
use Rattle.heap_model.specs.Heaps.{HasCell}
use Rattle.scav_copy.specs.declared.places.Home.{Home}
use Rattle.scav_copy.specs.Places.{Fixed}
use Rattle.scav_copy.specs.Copies.{with_home}
use Rattle.scav_copy.proofs.Ascending.{new_in, joined_is}
use Rattle.scavenger.specs.Starts.{Start, IsFreeRun}
use Rattle.scavenger.specs.Filling.{IsOfPage, IsInPage, PageStands, StandsIn}
use Rattle.scavenger.specs.Paging.{PagesTakeCopies}
use Rattle.scavenger.proofs.PagesRuns.{whole, whole_is, rest_of, rest_stays, left_from, none_begins}
use Rattle.scavenger.proofs.PagesWords.{row_alike}
use Rattle.scavenger.proofs.PagesFree.{row_has, free_began, no_home}
use Rattle.scavenger.proofs.PagesTaking.{Taking, they_stand, as_many_now, beside_stays}
use Rattle.scavenger.proofs.PagesCopied.{placed_at, rest_is, changed, changed_row}
use Rattle.scavenger.proofs.PagesTakes.{new, now, run_is_free, still_of_page, own, own_is, own_known}
use Rattle.scavenger.proofs.PagesTakes.{other_page}

module _ {start : Start} {fixed : Fixed} {words : List ℕ} {rows left : List (List Run)} {homes : List Home} {fill : ℕ}
    {cell free : Cell} {run : Run} (taking : Taking start fixed words rows left homes fill cell free run) where
  -- the page as it stood
  abbrev page_was : PageStands start words rows homes (own taking)
  page_was = taking.filled.pages (own taking) (own_known taking)

  -- the free cell is one of it
  free_in : Contains page_was.cells free
  free_in =
      let they = they_stand taking in
      let one : Run = whole taking.takes in
      let stands : StandsIn page_was.cells one.at = page_was.runs one (whole_is taking.takes) (record {
        from = omega (arith, (own_is taking).from, they.free_at, they.at);
        below = omega (arith, (own_is taking).below, they.free_at, they.at);
      }) in
      let same : stands.cell ≡ free =
      one_cell start.heap.space words stands.cell free (row_has page_was stands.among) taking.is.is_cell
      (stands.stands ∙ sym they.at ∙ sym they.free_at) in
      subst (Contains page_was.cells) same stands.among

  -- the row parts around it
  parts : PartsAround start.heap.space words (page_words * own taking) (page_words * own taking + page_words)
      page_was.cells free
  parts =
      rows_part_around start.heap.space words (page_words * own taking) (page_words * own taking + page_words)
      page_was.cells free page_was.row free_in

  -- the cells of afterwards
  abbrev after : List Cell
  after = (parts.before ++ changed taking) ++ parts.behind

  -- they stand in a row
  after_row : IsRow start.heap.space (now taking) (page_words * own taking) (page_words * own taking + page_words) after
  after_row =
      let space = start.heap.space in
      let they = they_stand taking in
      let from : ℕ = page_words * own taking in
      let to : ℕ = page_words * own taking + page_words in
      let end : ℕ = free.at + free.size in
      let before_stays = beside_stays taking from free.at
      (omega (arith, they.in_page, they.free_at)) (inl (omega (arith, they.free_at))) in
      let behind_stays = beside_stays taking end to (page_ends space (own taking) (own_known taking))
      (inr (omega (arith, they.free_at))) in
      stretches_change space words (now taking) from free.at end to parts.before parts.behind (changed taking)
      parts.first parts.rest (as_many_now taking)
      (row_alike from free.at parts.before before_stays parts.first (omega arith) (omega arith))
      (row_alike end to parts.behind behind_stays parts.rest (omega arith) (omega arith)) (changed_row taking)

  -- a cell of before that is not the free one is one of afterwards
  stays_in : (one : Cell) → Contains page_was.cells one → one.at ≢ run.at → Contains after one
  stays_in one there apart =
      let they = they_stand taking in
      elim (Contains-append_cases parts.before (free ∷ parts.behind) one
      (subst (λ (cells : List Cell). Contains cells one) parts.joined there)) [
        | inl before ↦
            Contains-append_left (parts.before ++ changed taking) parts.behind one
            (Contains-append_left parts.before (changed taking) one before)
        | inr rest ↦ elim (in_cases free parts.behind one rest) [
          | inl same ↦ absurd (apart (sym (ap (λ (each : Cell). each.at) same) ∙ they.free_at))
          | inr behind ↦ Contains-append_right (parts.before ++ changed taking) parts.behind one behind
        ]
      ]

  -- and so is the copy, and what is left
  changed_in : (one : Cell) → Contains (changed taking) one → Contains after one
  changed_in one there =
      Contains-append_left (parts.before ++ changed taking) parts.behind one
      (Contains-append_right parts.before (changed taking) one there)

  -- A cell of afterwards is one of before that is not the free one, or one of these.
  after_from : (one : Cell) → Contains after one
      → (Contains page_was.cells one × (one.at ≢ run.at)) ⊎ Contains (changed taking) one
  after_from one there =
      let space = start.heap.space in
      let they = they_stand taking in
      let from : ℕ = page_words * own taking in
      let to : ℕ = page_words * own taking + page_words in
      let was : Contains (parts.before ++ free ∷ parts.behind) one → Contains page_was.cells one =
      λ stood. subst (λ (cells : List Cell). Contains cells one) (sym parts.joined) stood in
      elim (Contains-append_cases (parts.before ++ changed taking) parts.behind one there) [
        | inl first ↦ elim (Contains-append_cases parts.before (changed taking) one first) [
          | inl before ↦
              let among = was (Contains-append_left parts.before (free ∷ parts.behind) one before) in
              let some = (cells_have_words space words one (row_has page_was among)).0 in
              let within = cell_within space words from free.at parts.before one parts.first before in
              inl (among, λ same. omega (arith, same, within.1, some, they.free_at))
          | inr here ↦ inr here
        ]
        | inr behind ↦
            let among = was (Contains-append_right parts.before (free ∷ parts.behind) one
            (rest_in free parts.behind one behind)) in
            let within = cell_within space words (free.at + free.size) to parts.behind one parts.rest behind in
            inl (among, λ same. omega (arith, same, within.0, they.free_at, they.some, they.enough))
      ]

  -- what each cell of afterwards is
  each_is : (one : Cell) → Contains after one → IsOfPage start left (with_home homes (new taking)) one
  each_is one there =
      let they = they_stand taking in
      elim (after_from one there) [
        | inl was ↦ still_of_page taking one was.1 (page_was.each one was.0)
        | inr here ↦ elim (in_cases (placed_at cell run.at) (rest_is taking).cells one here) [
          | inl same ↦
              IsOfPage.copy (new taking) (new_in homes (new taking)) (ap (λ (each : Cell). each.at) same)
          | inr rest ↦
              let is = (rest_is taking).each one rest in
              let more : cell.size < (whole taking.takes).words = omega (arith, is.0, they.words_are) in
              IsOfPage.free (rest_of taking.takes) (rest_stays taking.takes more) (omega (arith, is.1, they.at))
              (omega (arith, is.1, is.2, they.words_are, they.enough)) is.3 is.4
        ]
      ]

  -- a cell that stays does not stand where a free run did
  not_the_run : (one : Cell) (were : List ℕ) → HasCell start.heap one were
      → ((other : Run) → IsFreeRun start.rows other → other.at ≡ one.at → ⊥) → one.at ≢ run.at
  not_the_run one were has none same =
      let they = they_stand taking in
      let free_word = subst (IsFreeWord rows) (sym (same ∙ they.at)) (run_is_free taking) in
      let began = free_began taking.begun taking.filled one were has free_word in
      none began.0 began.1 began.2

  -- the copy stands there
  copy_stands : StandsIn after run.at
  copy_stands = record {
    cell = placed_at cell run.at;
    among = changed_in (placed_at cell run.at) (first_in (placed_at cell run.at) (rest_is taking).cells);
    stands = refl;
  }

  -- each home copy of the page does
  copies_stand : (home : Home) → Contains (with_home homes (new taking)) home → IsInPage (own taking) home.to
      → StandsIn after home.to
  copies_stand home there here = elim (joined_is homes (new taking) home there) [
    | inl same ↦ subst (StandsIn after) (ap (λ (each : Home). each.to) same) copy_stands
    | inr among ↦
        let they = they_stand taking in
        let one : StandsIn page_was.cells home.to = page_was.copies home among here in
        let apart : one.cell.at ≢ run.at = λ same. no_home taking.begun taking.filled home among
        (subst (IsFreeWord rows) (sym they.at ∙ sym same ∙ one.stands) (run_is_free taking)) in
        record { cell = one.cell; among = stays_in one.cell one.among apart; stands = one.stands }
  ]

  -- and so does each free run
  runs_stand : (other : Run) → IsFreeRun left other → IsInPage (own taking) other.at → StandsIn after other.at
  runs_stand other is here =
      let they = they_stand taking in
      elim (left_from taking.takes other is) [
        | inl was ↦
            let one : StandsIn page_was.cells other.at = page_was.runs other was here in
            let elsewhere = none_begins taking.takes other they.some taking.filled.free is in
            let apart : one.cell.at ≢ run.at = λ same. elsewhere (sym one.stands ∙ same ∙ they.at) in
            record { cell = one.cell; among = stays_in one.cell one.among apart; stands = one.stands }
        | inr rest ↦
            let first = (rest_is taking).first (omega (arith, rest.0, they.words_are)) in
            let at : (whole taking.takes).at + cell.size ≡ other.at = ap (λ (each : Run). each.at) rest.1 in
            record {
              cell = first.cell;
              among = changed_in first.cell
                  (rest_in (placed_at cell run.at) (rest_is taking).cells first.cell first.among);
              stands = omega (arith, first.stands, at, they.at);
            }
      ]

  -- the page of the free run stands
  own_page : PageStands start (now taking) left (with_home homes (new taking)) (own taking)
  own_page = record {
    cells = after;
    row = after_row;
    each = each_is;
    stay = λ one were has here none.
        stays_in one (page_was.stay one were has here none) (not_the_run one were has none);
    copies = copies_stand;
    runs = runs_stand;
  }

  -- all pages do
  pub all_pages : (page : ℕ) → page < start.heap.space.sizes.pages
      → PageStands start (now taking) left (with_home homes (new taking)) page
  all_pages page known = elim (cases_eq (own taking) page) [
    | inl same ↦ subst (PageStands start (now taking) left (with_home homes (new taking))) same own_page
    | inr other ↦ other_page taking page known other
  ]

-- what stands in pages stays, and the copy joins it
pub pages_take_copies : PagesTakeCopies
pages_take_copies start fixed words rows left homes fill cell free run begun filled unmoved takes is page known =
    let taking : Taking start fixed words rows left homes fill cell free run =
    record { begun = begun; filled = filled; unmoved = unmoved; takes = takes; is = is } in
    all_pages taking page known
