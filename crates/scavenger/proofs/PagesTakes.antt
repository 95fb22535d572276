-- What stands in pages where a cell is copied to a free run: all cells of before, the copy, and the rest of the run.
use Rattle.std.proofs.Common.{◌≡◌, ◌≢◌, ℕ, ◌+◌, ◌*◌, ◌/◌, ◌<◌, ◌≤◌, ◌⊎◌, inl, inr}
use Rattle.std.proofs.Common.{List, Contains, sym, ap, arith}
use Rattle.page_space.specs.Sizes.{page_words}
use Rattle.page_space.proofs.CellAddresses.{page_ends}
use Rattle.cell_layout.proofs.OneCell.{cells_have_words}
use Rattle.cell_layout.proofs.Rows.{cell_within}
use Rattle.free_runs.specs.Laws.{IsFreeWord}
use Rattle.heap_model.specs.Types.{Cell, Run}
use Rattle.scav_copy.specs.declared.places.Home.{Home}
use Rattle.scav_copy.specs.Places.{Fixed}
use Rattle.scav_copy.specs.Copies.{with_home}
use Rattle.scav_copy.proofs.Ascending.{old_in, joined_is}
use Rattle.scavenger.specs.Starts.{Start}
use Rattle.scavenger.specs.Filling.{IsOfPage, IsInPage, PageStands}
use Rattle.scavenger.specs.Paging.{promoted_words}
use Rattle.scavenger.proofs.PagesRuns.{whole, whole_is, first_of_run, others_stay, left_from}
use Rattle.scavenger.proofs.PagesWords.{row_stays, page_of, one_page, ends_in}
use Rattle.scavenger.proofs.PagesFree.{row_has}
use Rattle.scavenger.proofs.PagesSlots.{outside_page}
use Rattle.scavenger.proofs.PagesTaking.{Taking, they_stand, beside_stays}

module _ {start : Start} {fixed : Fixed} {words : List ℕ} {rows left : List (List Run)} {homes : List Home} {fill : ℕ}
    {cell free : Cell} {run : Run} (taking : Taking start fixed words rows left homes fill cell free run) where
  -- the home of the cell
  abbrev pub new : Home
  new = record { from = cell.at; to = run.at }

  -- the words of afterwards
  abbrev pub now : List ℕ
  now = promoted_words words cell free run.at

  -- the first word of the run is free
  pub run_is_free : IsFreeWord rows (whole taking.takes).at
  run_is_free = first_of_run rows (whole taking.takes) taking.filled.free (whole_is taking.takes)

  -- a cell of a page that does not stand where the free one did is one afterwards
  pub still_of_page : (other : Cell) → other.at ≢ run.at → IsOfPage start rows homes other
      → IsOfPage start left (with_home homes new) other
  still_of_page other apart (IsOfPage.stays body has none) = IsOfPage.stays body has none
  still_of_page other apart (IsOfPage.copy home there same) = IsOfPage.copy home (old_in homes new home there) same
  still_of_page other apart (IsOfPage.free one is same size of_kind no_number) =
      let they = they_stand taking in
      IsOfPage.free one
      (others_stay taking.takes one is taking.filled.free (λ begins. apart (omega (arith, same, begins, they.at))))
      same size of_kind no_number

  -- the page of the free cell
  abbrev pub own : ℕ
  own = free.at / page_words

  -- the free cell is in it
  pub own_is : IsInPage own free.at
  own_is = page_of free.at

  -- it is one of the pages
  pub own_known : own < start.heap.space.sizes.pages
  own_known = let they = they_stand taking in omega (arith, they.in_page, they.free_at, they.some, they.enough)

  -- the free cell ends in it
  pub own_ends : free.at + free.size ≤ page_words * own + page_words
  own_ends =
      let they = they_stand taking in
      ends_in start.heap.space words free own taking.is.is_cell
      (omega (arith, they.in_page, they.free_at, they.some, they.enough)) own_is

  -- a page other than that of the free cell stands
  pub other_page : (page : ℕ) → page < start.heap.space.sizes.pages → own ≢ page
      → PageStands start now left (with_home homes new) page
  other_page page known other =
      let they = they_stand taking in
      let stands = taking.filled.pages page known in
      let from : ℕ = page_words * page in
      let to : ℕ = page_words * page + page_words in
      let begins = outside_page own page free.at other own_is.from own_is.below in
      let apart : (at : ℕ) → IsInPage page at → at ≢ run.at = λ at here same.
      other (one_page own page free.at own_is (record {
        from = omega (arith, here.from, same, they.free_at);
        below = omega (arith, here.below, same, they.free_at);
      })) in
      let beside : (to ≤ run.at) ⊎ (run.at + free.size ≤ from) = elim begins [
        | inl before ↦ inr (omega (arith, before, own_is.from, own_ends, they.free_at))
        | inr behind ↦ inl (omega (arith, behind, they.free_at))
      ] in
      let in_page : (one : Cell) → Contains stands.cells one → IsInPage page one.at = λ one there.
      let within = cell_within start.heap.space words from to stands.cells one stands.row there in
      let some = (cells_have_words start.heap.space words one (row_has stands there)).0 in
      record { from = within.0; below = omega (arith, within.1, some) } in
      record {
        cells = stands.cells;
        row = row_stays from to stands.cells
            (beside_stays taking from to (omega (arith, page_ends start.heap.space page known)) beside) stands.row
            (omega arith) (omega arith);
        each = λ one there. still_of_page one (apart one.at (in_page one there)) (stands.each one there);
        stay = stands.stay;
        copies = λ home there here. elim (joined_is homes new home there) [
          | inl same ↦ absurd (apart home.to here (ap (λ (each : Home). each.to) (sym same)))
          | inr among ↦ stands.copies home among here
        ];
        runs = λ one is here. elim (left_from taking.takes one is) [
          | inl was ↦ stands.runs one was here
          | inr rest ↦
              let at : (whole taking.takes).at + cell.size ≡ one.at = ap (λ (each : Run). each.at) rest.1 in
              absurd (other (one_page own page one.at (record {
                from = omega (arith, at, they.at, they.free_at, own_is.from);
                below = omega (arith, at, they.at, they.free_at, they.words_are, rest.0, own_ends);
              }) here))
        ];
      }
