-- After a full collection a copy takes the front of what the sweep left free.
use Rattle.std.proofs.Common.{◌≡◌, ℕ, ◌+◌, ◌-◌, ◌*◌, ◌<◌, inl, inr, List, [], Contains}
use Rattle.std.proofs.Common.{IsTrue, sym, ◌∙◌, subst, arith}
use Rattle.std.proofs.lemmas.Bool.{false≢true, cases_lt}
use Rattle.std.proofs.lemmas.List.Elements.{Contains-get_or}
use Rattle.tagged_word.specs.Cells.{is_free_kind}
use Rattle.page_space.specs.Sizes.{page_words}
use Rattle.page_space.specs.Extents.{Space, eden_start}
use Rattle.free_runs.specs.FreeRuns.{row_of}
use Rattle.free_runs.specs.Laws.{IsOfRun}
use Rattle.free_runs.proofs.PageRows.{page_there, run_of_page, none_behind}
use Rattle.object_graph.specs.Graphs.{Graph}
use Rattle.heap_model.specs.Types.{Cell, Run}
use Rattle.heap_model.specs.Heaps.{Heap, HasCell}
use Rattle.heap_model.specs.Wholeness.{HasRows}
use Rattle.heap_model.proofs.CellsApart.{IsOfCell, first_of_cell, cells_apart}
use Rattle.heap_model.proofs.RememberedSlots.{ends_in_page}
use Rattle.live_cells.specs.Fitting.{DeadIsFree}
use Rattle.live_cells.specs.Live.{IsLive, IsRootTarget}
use Rattle.live_cells.proofs.DeadWords.{free_is_dead}
use Rattle.collector.specs.Born.{FreeIsRun, IsCopy}
use Rattle.collector.specs.Collected.{LeavesExact}
use Rattle.collector.specs.Images.{IsOfSomeCell}

-- where each dead word of a page is in a free run, each word of a free cell of a page is
pub dead_fills : {heap : Heap} {rows : List (List Run)} → HasRows heap → DeadIsFree heap rows → FreeIsRun heap rows
dead_fills in_rows dead cell words at has free of_page word =
    dead at (omega (arith, ends_in_page has of_page, word.below)) (free_is_dead at in_rows has free word)

module _ {old new : Heap} {rows : List (List Run)} {graph : Graph} (leaves : LeavesExact old new rows graph) where
  -- a copy has no word that was live
  copy_was_dead : (copy : Cell) → IsCopy old new copy
      → IsOfSomeCell old (λ cell. IsLive old (IsRootTarget old) cell.at) copy.at → ⊥
  copy_was_dead copy is live =
      let cell : Cell = live.cell in
      let of_page : copy.at < eden_start old.space =
      subst (λ (space : Space). copy.at < eden_start space) leaves.space is.of_page in
      let (others, there) =
      leaves.places cell live.words live.has (omega (arith, of_page, live.of_cell.from)) live.holds in
      let of_cell : IsOfCell cell copy.at = record { from = live.of_cell.from; below = live.of_cell.below } in
      let same : cell ≡ copy =
      cells_apart copy.at leaves.exact.keeps.shows.whole.rows there is.has of_cell (first_of_cell is.has) in
      is.fresh live.words (subst (λ (one : Cell). HasCell old one live.words) same live.has)

  -- nor a word of a free run
  copy_is_apart : (copy : Cell) (page : ℕ) (run : Run) → IsCopy old new copy → Contains (row_of rows page) run
      → IsOfRun run copy.at → ⊥
  copy_is_apart copy page run is there of_run =
      let one = leaves.free (row_of rows page) run
      (Contains-get_or rows page [] (page_there rows page run there)) there in
      let of_one : IsOfCell one.cell copy.at =
      record {
        from = omega (arith, one.stands, of_run.from);
        below = omega (arith, one.stands, one.size, of_run.below);
      } in
      let same : one.cell ≡ copy =
      cells_apart copy.at leaves.exact.keeps.shows.whole.rows one.has is.has of_one (first_of_cell is.has) in
      let free : IsTrue (is_free_kind copy.layout.kind) =
      subst (λ (c : Cell). IsTrue (is_free_kind c.layout.kind)) same one.free in
      false≢true (sym is.used ∙ free)

  -- so where a free cell ends, no copy begins in its page
  pub copies_take_fronts : (cell copy : Cell) (words : List ℕ) → HasCell new cell words
      → IsTrue (is_free_kind cell.layout.kind) → IsCopy old new copy → cell.at + cell.size ≡ copy.at
      → (page : ℕ) × (copy.at ≡ page_words * page)
  copies_take_fronts cell copy words has free is touches =
      let first = first_of_cell has in
      let word = dead_fills leaves.exact.keeps.shows.whole.rows leaves.dead cell words (copy.at - 1) has free
      (omega (arith, touches, first.below, is.of_page))
      (record { from = omega (arith, touches, first.below); below = omega (arith, touches, first.below) }) in
      let run : Run = word.free.run in
      let back = leaves.backs word.page run word.free.among in
      let was : Run = back.was in
      let of_page : copy.at < eden_start old.space =
      subst (λ (space : Space). copy.at < eden_start space) leaves.space is.of_page in
      let behind = (leaves.swept_are.words copy.at of_page).1 (copy_was_dead copy is) in
      let other : Run = behind.free.run in
      let lies = run_of_page leaves.swept word.page was leaves.swept_are.apart back.among in
      let lies_too = run_of_page leaves.swept behind.page other leaves.swept_are.apart behind.free.among in
      elim (cases_lt copy.at (run.at + run.words)) [
        | inl inside ↦ absurd (copy_is_apart copy word.page run is word.free.among
            (record { from = omega (arith, word.free.of_run.from); below = inside }))
        | inr past ↦
            let ends : copy.at ≡ was.at + was.words =
            omega (arith, past, word.free.of_run.below, back.ends, touches, first.below) in
            elim (cases_lt word.page behind.page) [
              | inl later ↦
                  (behind.page, omega (arith, later, ends, lies.below, lies_too.from, behind.free.of_run.from))
              | inr before ↦
                  let same : behind.page ≡ word.page =
                  omega (arith, before, ends, lies.from, lies.some, lies_too.below, behind.free.of_run.below) in
                  absurd (none_behind (page_words * word.page) (page_words * (word.page + 1))
                  (row_of leaves.swept word.page) was other
                  (leaves.swept_are.apart word.page (page_there leaves.swept word.page was back.among)) back.among
                  (subst (λ (page : ℕ). Contains (row_of leaves.swept page) other) same behind.free.among)
                  (subst (IsOfRun other) ends behind.free.of_run))
            ]
      ]
